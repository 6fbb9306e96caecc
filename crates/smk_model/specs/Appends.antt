-- The answer to an `append` line: the rows of a file are added at the end of a table, and each view that scans the table is shown over the longer table; or the line is refused.
use Rattle.std.specs.{Prelude.{ℕ, ◌+◌, Bool, true, false, ◌||◌, cond, nat_eq, nat_lt, set, List, [], ◌++◌, length, Option, Some, None}, List.{filter, sum_by}}
use Rattle.smk_base.specs.{CatalogImage.{CatalogImage, table_place}, Places.{places, has}, declared.book.catalog.Back.Back, declared.reply.AppendReply.AppendReply, declared.reply.AppendReply.TheVariants.{Added, Refused}, declared.reply.AppendRefusal.AppendRefusal, declared.reply.AppendRefusal.TheVariants.{UnknownTable, TableRows, ViewRows, ViewPairs}}
use Rattle.smk_model.specs.{Values.Row, Plain.{leaves, whole, table_at}, Growth.is_growing, Looks.looks_of_back, NodeFaults.{NodeFault, FullRows, FullPairs}, Opening.{ViewFault, view_fault, first_some}, Selection.{row_limit, rows_in}, Session.{Workbook, State, view_at}}

-- the rows of every table, with more at the end of one
abbrev pub longer : List (List Row) → ℕ → List Row → List (List Row)
longer tables t more = set tables t (table_at tables t ++ more)

-- the book with the longer table
abbrev pub longer_book : CatalogImage → State → ℕ → List Row → Workbook
longer_book catalog state t more = record { catalog = catalog; tables = longer state.tables t more }

-- the state with the longer table and no brush
abbrev pub longer_state : State → ℕ → List Row → State
longer_state state t more = record { tables = longer state.tables t more; brushes = [] }

-- whether a view scans a table, and the views that do, in the book's order
abbrev pub scans : CatalogImage → ℕ → ℕ → Bool
scans catalog t v = has (leaves (view_at catalog v).plan) t

abbrev pub scanning : CatalogImage → ℕ → List ℕ
scanning catalog t = places (scans catalog t) (length catalog.views)

-- the first of these views with a fault over the longer table, and the refusal for it
abbrev pub longer_fault : CatalogImage → State → ℕ → List Row → Option ViewFault
longer_fault catalog state t more = first_some (view_fault (longer_book catalog state t more)) (scanning catalog t)

abbrev pub refusal_at : ℕ → NodeFault → AppendRefusal
refusal_at view (FullRows node) = ViewRows view node
refusal_at view (FullPairs node table) = ViewPairs view node table

abbrev pub refusal_of : ViewFault → AppendRefusal
refusal_of found = refusal_at found.view found.fault

-- an answer, and the state after it
pub record Turn : Type 0 where
  pub reply : AppendReply
  pub next : State

-- a refused line changes nothing
abbrev pub refused_turn : State → AppendRefusal → Turn
refused_turn state refusal = record { reply = Refused refusal; next = state }

-- the rows are appended, unless there is such a view
abbrev pub turn_unless : CatalogImage → State → ℕ → List Row → Option ViewFault → Turn
turn_unless catalog state t more (Some found) = refused_turn state (refusal_of found)
turn_unless catalog state t more None = record { reply = Added (length more) (scanning catalog t); next = longer_state state t more }

-- whether the table would have too many rows
abbrev pub is_too_long : State → ℕ → List Row → Bool
is_too_long state t more = nat_lt row_limit (length (table_at state.tables t) + length more)

-- the answer for the table with this number, or for an unknown table
abbrev pub turn_at : CatalogImage → State → List Row → Option ℕ → Turn
turn_at catalog state more None = refused_turn state UnknownTable
turn_at catalog state more (Some t) = cond (is_too_long state t more) (refused_turn state TableRows) (turn_unless catalog state t more (longer_fault catalog state t more))

-- the answer to a line that appends these rows to the table of this name, and the next state
abbrev pub append_turn : CatalogImage → State → List ℕ → List Row → Turn
append_turn catalog state table more = turn_at catalog state more (table_place catalog table)

-- the looks for a view that scans the table: one for each new row if it is a growing chain, else one for each row of its leaves
abbrev pub looks_of_scan : CatalogImage → State → ℕ → List Row → ℕ → ℕ
looks_of_scan catalog state t more v = cond (is_growing (view_at catalog v).plan) (length more) (rows_in (whole (view_at catalog v).plan (longer state.tables t more)))

-- whether a backward declaration is of a view that scans the table, or goes to the table
abbrev pub depends_on : CatalogImage → ℕ → Back → Bool
depends_on catalog t declared = scans catalog t declared.view || nat_eq declared.table t

-- the looks for all these views, and for the splits and groupings of these declarations
abbrev pub looks_of_longer : CatalogImage → State → ℕ → List Row → ℕ
looks_of_longer catalog state t more =
    sum_by (looks_of_scan catalog state t more) (scanning catalog t) + sum_by (looks_of_back (longer_book catalog state t more)) (filter (depends_on catalog t) catalog.backs)

abbrev pub append_looks_at : CatalogImage → State → List Row → Option ℕ → ℕ
append_looks_at catalog state more None = 0
append_looks_at catalog state more (Some t) = cond (is_too_long state t more) 0 (looks_of_longer catalog state t more)

-- the most looks for a line that appends these rows, even if it is refused for a view
abbrev pub append_looks : CatalogImage → State → List ℕ → List Row → ℕ
append_looks catalog state table more = append_looks_at catalog state more (table_place catalog table)

-- whether an answer is a refusal
abbrev pub is_append_refused : AppendReply → Bool
is_append_refused (Added rows views) = false
is_append_refused (Refused refusal) = true
