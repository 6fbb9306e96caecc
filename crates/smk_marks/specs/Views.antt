-- What is kept of a view that is a grouping over a chain, and the groups that chosen rows of its table reach.
use Rattle.std.specs.{Prelude.{◌≡◌, ◌<◌, ◌≤◌, ◌+◌, ℕ, Bool, true, false, cond, List, [], ◌∷◌, ◌++◌, length, map, Option, Some, None, All}, List.list_all}
use Rattle.smk_base.specs.{Aggregates.read_by, PlanImage.expr_of, Places.upto, Plans.{Grouping, Expr, Apply}, Rels.{Relation, kind_in}, declared.book.plan.Agg.Agg, declared.rel.TheConstants.ROW_LIMIT, declared.value.Kind.Kind, declared.value.Kind.TheVariants.Int}
use Rattle.smk_model.specs.{Growth.is_chain, Kinds.{AggFits, kind_of_agg}, Lineage.sub, Selection.{PlanFits, plan_kinds}, Values.value_at}
use Rattle.smk_marks.specs.{Marks.{reads_none, kept, made, mark_row, marked_groups}, declared.reached.Reached.Reached, declared.view.GroupedChain.GroupedChain, declared.view.KeptView.KeptView}

-- a grouping over a chain, as a plan
abbrev pub plan_of : GroupedChain → Expr
plan_of last = Apply (Grouping last.keys.now last.aggs.now) (expr_of last.chain.now)

-- whether a plan is a grouping over a chain
abbrev pub ends_in_groups : Expr → Bool
ends_in_groups (Apply (Grouping keys aggs) input) = is_chain input
ends_in_groups _ = false

-- a plan is this grouping over this chain
pub record EndsInGroups (plan : Expr) (last : GroupedChain) : Type 0 where
  pub plan_is : plan ≡ plan_of last
  pub chain : is_chain (expr_of last.chain.now) ≡ true

-- an aggregate that reads a column fits what a chain makes of rows of these kinds; one that reads none fits any rows
abbrev pub Reads : Expr → List Kind → Agg → Type 0
Reads chain kinds agg = (c : ℕ) → read_by agg ≡ Some c → PlanFits chain (kinds ∷ []) × AggFits (plan_kinds chain (kinds ∷ [])) agg

-- column c of what a chain makes of rows
abbrev pub chain_values : Expr → Relation → ℕ → Relation
chain_values chain rows c = record { kinds = kind_in (plan_kinds chain (rows.kinds ∷ [])) c ∷ []; rows = map (λ row. value_at (made chain row) c ∷ []) rows.rows }

-- the rows at these rids of a table that reach a mark, unless all aggregates are counts
abbrev pub rows_reached : KeptView → Relation → List ℕ → Option Relation
rows_reached view table S = cond (list_all reads_none view.plan.aggs.now) None (Some (record { kinds = table.kinds; rows = sub table.rows (kept view.forward.now S) }))

-- the looks for these: one for each that reaches a mark, and none for counts alone
abbrev pub looks_of_reach : KeptView → List ℕ → ℕ
looks_of_reach view S = cond (list_all reads_none view.plan.aggs.now) 0 (length (kept view.forward.now S))

-- the groups of marks that rows have, over what the chain makes of the rows
abbrev pub groups_of : KeptView → List ℕ → Relation → Relation
groups_of view marks rows = record {
  kinds = map (kind_in view.content.now.kinds) (upto (length view.plan.keys.now)) ++ map (kind_of_agg (plan_kinds (expr_of view.plan.chain.now) (rows.kinds ∷ []))) view.plan.aggs.now;
  rows = marked_groups (length view.plan.keys.now) view.plan.aggs.now view.content.now.rows marks (map (made (expr_of view.plan.chain.now)) rows.rows);
}

-- the rows that are there, else rows of the marks alone
abbrev pub rows_read : List ℕ → Option Relation → Relation
rows_read marks (Some rows) = rows
rows_read marks None = record { kinds = Int 0 ∷ []; rows = map mark_row marks }

-- the groups of what is reached
abbrev pub grouped_by_marks : KeptView → Reached → Relation
grouped_by_marks view reached = groups_of view reached.marks (rows_read reached.marks reached.rows)

-- what is reached of a view is marks of its content, a mark for each row that is read
pub record CanGroup (view : KeptView) (reached : Reached) : Type 0 where
  pub chain : is_chain (expr_of view.plan.chain.now) ≡ true
  pub few_marks : length reached.marks ≤ ROW_LIMIT
  pub within : All (λ mark. mark < length view.content.now.rows) reached.marks
  pub long : length reached.marks ≡ length (rows_read reached.marks reached.rows).rows
  pub reads : All (Reads (expr_of view.plan.chain.now) (rows_read reached.marks reached.rows).kinds) view.plan.aggs.now
  pub keyed : length view.plan.keys.now ≤ length view.content.now.kinds
  pub few : length view.plan.keys.now + length view.plan.aggs.now ≤ 16
