-- What is made from what is kept of a view, and what the view's plan gives.
use Rattle.std.specs.Prelude.{◌≡◌, ◌≤◌, ℕ, true, List, [], ◌∷◌, length}
use Rattle.smk_base.specs.{PlanImage.expr_of, Rels.Relation, declared.rel.TheConstants.ROW_LIMIT}
use Rattle.smk_model.specs.{Composed.{rows_over, table_at}, Lineage.sub, LineageLaws.selected_table, Plain.eval, Selection.{PlanFits, plan_kinds}, Values.Row, Growth.is_chain}
use Rattle.smk_marks.specs.{MarkLaws.{AreRids, marks_of}, Marks.marks_at, Views.{CanGroup, grouped_by_marks, plan_of, rows_reached}, declared.reached.Reached.Reached, declared.view.KeptView.KeptView}

-- what is kept of a view is what it gives over these tables, which have the chain's table among them
pub record IsKeptOf (view : KeptView) (table : Relation) (tables : List (List Row)) : Type 0 where
  pub chain : is_chain (expr_of view.plan.chain.now) ≡ true
  pub fits : PlanFits (plan_of view.plan) (table.kinds ∷ [])
  pub rows : table.rows ≡ table_at tables (selected_table (expr_of view.plan.chain.now))
  pub content : view.content.now.rows ≡ rows_over (plan_of view.plan) tables
  pub kinds : view.content.now.kinds ≡ plan_kinds (plan_of view.plan) (table.kinds ∷ [])
  pub forward : view.forward.now ≡ marks_of view.plan.keys.now view.plan.aggs.now (expr_of view.plan.chain.now) tables

-- what rids of the table reach
pub record IsReachedBy (view : KeptView) (table : Relation) (S : List ℕ) (reached : Reached) : Type 0 where
  pub few : length S ≤ ROW_LIMIT
  pub marks : reached.marks ≡ marks_at view.forward.now S
  pub rows : reached.rows ≡ rows_reached view table S

-- then the groups of what the rids reach are what the plan gives of their rows
pub record KeptMarks : Type 0 where
  pub ready : (view : KeptView) (table : Relation) (tables : List (List Row)) (S : List ℕ) (reached : Reached) → IsKeptOf view table tables → IsReachedBy view table S reached → AreRids (expr_of view.plan.chain.now) tables S → CanGroup view reached
  pub made : (view : KeptView) (table : Relation) (tables : List (List Row)) (S : List ℕ) (reached : Reached) → IsKeptOf view table tables → IsReachedBy view table S reached → AreRids (expr_of view.plan.chain.now) tables S
      → grouped_by_marks view reached ≡ record { kinds = plan_kinds (plan_of view.plan) (table.kinds ∷ []); rows = eval (plan_of view.plan) (sub table.rows S ∷ []) }
