-- What a walk over a plan goes over, and what it has made of it.
use Rattle.std.specs.Prelude.{◌≡◌, ℕ, ◌+◌, ◌<◌, ◌≤◌, List, [], length, map, slice_index_or, None, IsTrue, All}
use Rattle.smk_base.specs.{Needs.is_needed, Plans.{Expr, Unary, Selection, Projection, Distinction, Grouping, Binary, BagUnion, SetUnion}, Rels.{Relation, kind_in, picked}, declared.book.need.Needed.Needed, declared.rel.TheConstants.COLUMN_LIMIT, declared.value.Kind.Kind}
use Rattle.smk_model.specs.{Values.Row, Plain.{leaves, width, eval, table_at}, Selection.{each_kinds, each_rows, plan_kinds}, NodeFaults.{asked_of, first_fault_from}}
use Rattle.smk_table.specs.Wanted.{AreWide}
use Rattle.smk_compose.specs.{KeptMaps.held_at, declared.passing.Walked.Walked}

-- each table is needed in some direction
abbrev pub AreDirected : List Needed → Type 0
AreDirected need = All (λ needed. IsTrue (is_needed needed)) need

-- whether the leaves of a plan have the tables that they scan whole
abbrev pub AreWhole : Expr → List (List Row) → List (List Row) → Type 0
AreWhole plan E tables = (j : ℕ) → j < width plan → slice_index_or E j [] ≡ table_at tables (slice_index_or (leaves plan) j 0)

-- if something is needed, the leaves of a plan have their tables whole
abbrev pub WholeWhereNeeded : Expr → List (List Row) → List (List Row) → List Needed → Type 0
WholeWhereNeeded plan E tables need = 0 < length need → AreWhole plan E tables

-- these are columns of the plan over its leaves, with the needed lineage to the tables that it scans, and none of its nodes, numbered from this number on, is too big
pub record IsWalked (plan : Expr) (cols : List ℕ) (over : List Relation) (tables : List (List Row)) (need : List Needed) (number : ℕ) (run : Walked) : Type 0 where
  pub rows : run.rel.rows ≡ map (picked cols) (eval plan (each_rows over))
  pub kinds : run.rel.kinds ≡ map (kind_in (plan_kinds plan (each_kinds over))) cols
  pub kept : run.kept ≡ map (held_at plan tables) need
  pub none : first_fault_from plan (each_rows over) (asked_of tables need) number ≡ None

-- the number of columns of a step's output, from that of its input
abbrev pub width1 : Unary → ℕ → ℕ
width1 (Selection formula) n = n
width1 (Projection items) n = length items
width1 (Distinction items) n = length items
width1 (Grouping keys aggs) n = length keys + length aggs

abbrev pub width2 : Binary → ℕ → ℕ → ℕ
width2 BagUnion l r = l
width2 SetUnion l r = l
width2 _ l r = l + r

-- this is the number of columns of a plan over leaves of these kinds and rows, and each of its rows has as many values
pub record IsWidth (plan : Expr) (K : List (List Kind)) (E : List (List Row)) (w : ℕ) : Type 0 where
  pub count : w ≡ length (plan_kinds plan K)
  pub few : w ≤ COLUMN_LIMIT
  pub wide : AreWide w (eval plan E)
