use Rattle.std.proofs.{Common.{arith, rules, ◌≡◌, ◌∷◌, [], map}, lemmas.Grind.common_steps}
use Rattle.smk_base.specs.{PlanImage.expr_of, Plans.{Apply, Projection}, Rels.{bin_of, kind_in, value_in}}
use Rattle.smk_body.proofs.Besides.{relation}
use Rattle.smk_marks.proofs.Binned.{binned}
use Rattle.smk_marks.proofs.columns.+chain_column.Goals as goal

pub returns-in_ok-column-in-Bin : goal.returns-in_ok-column-in-Bin
returns-in_ok-column-in-Bin n c =
    let whole : expr_of c.args.chain.now ≡ Apply (Projection c.as_slice.result.now) (expr_of c.deref-in-Bin.result.now) = grind (arith, common_steps) in
    let bins : c.in_ok-column-in-Bin.column ≡ relation (kind_in c.in_ok-below-in-Bin.below.kinds 0 ∷ []) (map (λ row. bin_of c.in-Bin.width (value_in row 0) ∷ []) c.in_ok-below-in-Bin.below.rows) = search rules in
    binned (expr_of c.args.chain.now) (expr_of c.deref-in-Bin.result.now) c.as_slice.result.now c.args.rows.now c.in_ok-below-in-Bin.below c.in_ok-column-in-Bin.column c.args.c c.in-Bin.col c.in-Bin.width whole c.requires.column c.in-Bin.is c.in_ok-below-in-Bin.ensures bins
