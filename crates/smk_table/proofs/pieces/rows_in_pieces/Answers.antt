use Rattle.std.proofs.Common.{map}
use Rattle.smk_table.specs.{Cuts.read_of, Pieces.parts_of}
use Rattle.smk_table.proofs.Joins.{gives_all, all_kinds}
use Rattle.smk_table.proofs.pieces.rows_in_pieces.Goals as goal

pub join_parts-requires-clause-parts : goal.join_parts-requires-clause-parts
join_parts-requires-clause-parts g c κs within =
    let cols = c.args.cols.now in
    let parts = parts_of cols c.args.header.now.places.items c.args.header.now.width (map read_of c.args.texts.now) in
    let all = gives_all cols c.args.header.now.places.items c.args.header.now.width c.args.texts.now c.in_ok-made.made.items c.in_ok-made.ensures.all c.in_ok-made.ensures.rows in
    all_kinds cols parts c.in_ok-made.made.items all

pub returns : goal.returns
returns g c =
    let cols = c.args.cols.now in
    let parts = parts_of cols c.args.header.now.places.items c.args.header.now.width (map read_of c.args.texts.now) in
    let all = gives_all cols c.args.header.now.places.items c.args.header.now.width c.args.texts.now c.in_ok-made.made.items c.in_ok-made.ensures.all c.in_ok-made.ensures.rows in
    c.join_parts.ensures parts all
