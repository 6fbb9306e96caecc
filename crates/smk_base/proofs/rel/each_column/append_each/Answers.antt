use Rattle.std.proofs.{Common.{◌≡◌, ◌+◌, ◌++◌, ◌<◌, length, rules, arith}, lemmas.Result.on_ok_weaker}
use Rattle.smk_base.specs.{Columns.IsColumnOf, Relations.column_in}
use Rattle.smk_base.proofs.Made.{AreMade-known, left_so}
use Rattle.smk_base.proofs.rel.each_column.append_each.Goals as goal

pub returns-clause-appended : goal.returns-clause-appended
returns-clause-appended c = on_ok_weaker c.change_each.result (λ all. AreMade-known _ _ _ _ _ c.change_each.ensures.long (λ k h.
    (let there : k < length c.args.others.now = omega (arith, c.requires.wide) in
    let so = left_so _ _ (λ x x'. (x'.kind ≡ x.kind) × (x'.cells ≡ x.cells ++ (column_in c.args.others.now k).cells) × IsColumnOf (length x.cells + length (column_in c.args.others.now k).cells) x') k _ _ _ (λ p q met. (search rules, search rules, search rules)) (all k h) in
    (so.0, so.1, rw ((c.requires.each k _ h).long, (c.requires.others k _ there).long) at so.2)))) c.change_each.ensures.all
