use Rattle.std.proofs.Common.{◌≡◌, ◌++◌, [], ◌∷◌, length, map, take, nat_eq}
use Rattle.smk_base.specs.{PlanImage.expr_of, Places.upto, Rels.kind_in}
use Rattle.smk_keys.specs.Classes.{first_items}
use Rattle.smk_model.specs.{Kinds.kind_of_agg, Lineage.row_at, Plain.aggregate, Selection.plan_kinds}
use Rattle.smk_marks.specs.Marks.{made, with_mark}
use Rattle.smk_marks.proofs.groups.groups.Given as goal

abbrev pub invariant-loop-agg : goal.invariant-loop-agg
invariant-loop-agg l = l.made ≡ record {
  kinds = map (kind_in l.view.content.now.kinds) (upto (length l.view.plan.keys.now)) ++ map (kind_of_agg (plan_kinds (expr_of l.view.plan.chain.now) (l.rows.kinds ∷ []))) (take l.agg-index l.aggs);
  rows = map
      (λ m. take (length l.view.plan.keys.now) (row_at l.view.content.now.rows m) ++ map (aggregate (with_mark l.marks (map (made (expr_of l.view.plan.chain.now)) l.rows.rows) m)) (take l.agg-index l.aggs))
      (first_items nat_eq l.marks);
}
