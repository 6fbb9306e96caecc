-- Plans over a selection of their tables' rows, the kinds of a plan, and the first of its nodes with too many rows.
use Rattle.std.specs.{Prelude.{ℕ, ◌+◌, ◌<◌, Bool, nat_eq, nat_lt, List, [], ◌∷◌, ◌++◌, length, map, drop, slice_index_or, Option, Some, None, option_map, position, All}, List.{find, sum_by}}
use Rattle.smk_base.specs.{declared.value.Kind.Kind, declared.list.table_rids.Pick.Pick, Rels.Relation, Plans.{Expr, Leaf, Apply, Combine}}
use Rattle.smk_model.specs.{Values.Row, Plain.{leaves, width, eval, table_at}, Lineage.sub, Kinds.{Fits1, Fits2, kinds1, kinds2}}

-- the rows of each relation
abbrev pub each_rows : List Relation → List (List Row)
each_rows rels = map (λ rel. rel.rows) rels

-- the kinds of each relation
abbrev pub each_kinds : List Relation → List (List Kind)
each_kinds rels = map (λ rel. rel.kinds) rels

-- the rids that are picked of a table, or none where it is whole
abbrev pub picked : List Pick → ℕ → Option (List ℕ)
picked picks table = option_map (λ pick. pick.rids) (find (λ pick. nat_eq pick.table table) picks)

-- the rows at the picked rids, or all
abbrev pub kept_rows : Option (List ℕ) → List Row → List Row
kept_rows (Some rids) rows = sub rows rids
kept_rows None rows = rows

-- one list per leaf: the picked rows of a table that is picked, else the whole table
abbrev pub selected : List (List Row) → List Pick → ℕ → List Row
selected tables picks table = kept_rows (picked picks table) (table_at tables table)

abbrev pub over : Expr → List (List Row) → List Pick → List (List Row)
over plan tables picks = map (selected tables picks) (leaves plan)

-- the kinds of the columns of each leaf
abbrev pub leaf_kinds : Expr → List (List Kind) → List (List Kind)
leaf_kinds plan K = map (λ table. slice_index_or K table []) (leaves plan)

-- the number of rows in these lists
abbrev pub rows_in : List (List Row) → ℕ
rows_in lists = sum_by length lists

-- a pick names a table, and rows of it
pub record PickFits (tables : List (List Row)) (pick : Pick) : Type 0 where
  pub known : pick.table < length tables
  pub rows : All (λ rid. rid < length (table_at tables pick.table)) pick.rids

-- whether every leaf of a plan scans one of n tables
abbrev pub ScansFit : ℕ → Expr → Type 0
ScansFit n (Leaf table) = table < n
ScansFit n (Apply op input) = ScansFit n input
ScansFit n (Combine op left right) = ScansFit n left × ScansFit n right

-- the kinds of a plan's columns over those of its leaves; the leaves of a right input follow those of the left one
abbrev pub plan_kinds : Expr → List (List Kind) → List Kind
plan_kinds (Leaf table) K = slice_index_or K 0 []
plan_kinds (Apply op input) K = kinds1 op (plan_kinds input K)
plan_kinds (Combine op left right) K = kinds2 op (plan_kinds left K) (plan_kinds right (drop (width left) K))

-- whether every step of a plan fits the kinds of its inputs, from those of the leaves on
abbrev pub PlanFits : Expr → List (List Kind) → Type 0
PlanFits (Leaf table) K = Unit {0}
PlanFits (Apply op input) K = PlanFits input K × Fits1 op (plan_kinds input K)
PlanFits (Combine op left right) K = PlanFits left K × PlanFits right (drop (width left) K) × Fits2 op (plan_kinds left K) (plan_kinds right (drop (width left) K))

-- the rows of a plan's nodes in post-order: those of the left input, those of the right one, then the step's
abbrev pub node_rows : Expr → List (List Row) → List (List Row)
node_rows (Leaf table) E = eval (Leaf table) E ∷ []
node_rows (Apply op input) E = node_rows input E ++ eval (Apply op input) E ∷ []
node_rows (Combine op left right) E = node_rows left E ++ (node_rows right (drop (width left) E) ++ eval (Combine op left right) E ∷ [])

-- the number of nodes of a plan
abbrev pub nodes : Expr → ℕ
nodes (Leaf table) = 1
nodes (Apply op input) = nodes input + 1
nodes (Combine op left right) = nodes left + nodes right + 1

-- the most rows that a node may have
abbrev pub row_limit : ℕ
row_limit = 1048576

abbrev pub is_full : List Row → Bool
is_full rows = nat_lt row_limit (length rows)

-- the first node in post-order, numbered from 0, that has more rows than the limit
abbrev pub first_full : Expr → List (List Row) → Option ℕ
first_full plan E = position is_full (node_rows plan E)
