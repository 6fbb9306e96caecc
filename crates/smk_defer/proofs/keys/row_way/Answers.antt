use Rattle.std.proofs.Common.{◌∙◌, length, ap, sym}
use Rattle.smk_base.specs.Places.{upto}
use Rattle.smk_base.proofs.Places.{upto_below}
use Rattle.smk_defer.proofs.Keyed.{whole_rows}
use Rattle.smk_defer.proofs.keys.row_way.Goals as goal

pub key_way-requires-clause-columns : goal.key_way-requires-clause-columns
key_way-requires-clause-columns c = rw (c.as_slice.ensures.value, c.in_ok-cols.ensures, c.width.ensures.count) (upto_below (length c.args.rel.now.kinds))

pub key_way-requires-clause-known : goal.key_way-requires-clause-known
key_way-requires-clause-known c =
    let rel = c.args.rel.now in
    let rows = whole_rows rel.kinds rel.rows c.as_slice.result.now c.width.ensures.keeps.fit (c.as_slice.ensures.value ∙ c.in_ok-cols.ensures ∙ ap upto c.width.ensures.count) in
    rw rows c.requires

pub returns : goal.returns
returns c =
    let rel = c.args.rel.now in
    let rows = whole_rows rel.kinds rel.rows c.as_slice.result.now c.width.ensures.keeps.fit (c.as_slice.ensures.value ∙ c.in_ok-cols.ensures ∙ ap upto c.width.ensures.count) in
    rw (sym rows) c.key_way.ensures
