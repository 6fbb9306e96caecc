use Rattle.std.proofs.Common.{◌∙◌, ◌<◌, length, sym, arith}
use Rattle.smk_base.specs.Rels.{picked, row_in}
use Rattle.smk_defer.proofs.Keyed.{place_here}
use Rattle.smk_defer.proofs.keys.place_of_key.Goals as goal

pub returns-then-is_key_of : goal.returns-then-is_key_of
returns-then-is_key_of c =
    let keys = c.args.keys.now in
    let low : c.args.expected < length keys = omega (arith, c.if-expected-len.true, c.len.ensures.count) in
    sym (place_here keys (picked c.args.cols.now (row_in c.args.rel.now.rows c.args.i)) c.args.expected c.len.ensures.distinct low (sym c.key.ensures ∙ c.if-is_key_of.ensures))
