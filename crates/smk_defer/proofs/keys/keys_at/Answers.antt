use Rattle.std.proofs.{Common.{◌≤◌, length, map, take, ap, arith}, lemmas.List.{length-map, length-take-le}, lemmas.Grind.common_steps}
use Rattle.smk_base.specs.Rels.{picked, row_in, rows_at}
use Rattle.smk_model.proofs.Sizes.{firsts_short}
use Rattle.smk_defer.proofs.keys.keys_at.Goals as goal

pub find_or_add-requires : goal.find_or_add-requires
find_or_add-requires c =
    let rows = c.args.rel.now.rows in
    let cols = c.args.cols.now in
    let done = take c.loop-k.k c.args.places.now in
    let short : c.loop-k.k ≤ length c.args.places.now = omega arith in
    omega (arith, ap length c.loop-k.invariant, firsts_short (map (picked cols) (rows_at rows done)), length-map (rows_at rows done) (picked cols), length-map done (row_in rows), length-take-le c.loop-k.k c.args.places.now short)

pub loop-k-preserved : goal.loop-k-preserved
loop-k-preserved c = grind (arith, common_steps)

pub returns : goal.returns
returns c = grind (arith, common_steps)
