-- The state of a session: the rows of the tables and the brushes in force; and what each view shows.
use Rattle.std.specs.{Prelude.{ℕ, Bool, not, cond, ◌&&◌, nat_eq, List, [], ◌∷◌, ◌++◌, length, map, slice_index_or}, List.{list_all, list_any, filter, flat_map}}
use Rattle.smk_base.specs.{Places.{places, has, upto}, Plans.Leaf, CatalogImage.{CatalogImage, ViewImage}, declared.brush.BrushOn.BrushOn, declared.list.table_rids.Pick.Pick}
use Rattle.smk_model.specs.{Values.Row, Plain.{table_at, rows_over, eval}, Selection.over, Workload.is_link}

-- a checked book, and the rows of its tables
pub record Workbook : Type 0 where
  pub catalog : CatalogImage
  pub tables : List (List Row)

-- the rows of every table, and the brushes in force, at most one for each pair of a view and a table
pub record State : Type 0 where
  pub tables : List (List Row)
  pub brushes : List BrushOn

-- a session begins with no brush
abbrev pub first_state : Workbook → State
first_state book = record { tables = book.tables; brushes = [] }

-- the view with this number
abbrev pub no_view : ViewImage
no_view = record { name = []; plan = Leaf 0; names = []; kinds = [] }

abbrev pub view_at : CatalogImage → ℕ → ViewImage
view_at catalog v = slice_index_or catalog.views v no_view

-- the rows of a table
abbrev pub rows_of_table : State → ℕ → List Row
rows_of_table state t = table_at state.tables t

-- the rows of a view over whole tables; a mark is the place of one of them
abbrev pub first_content : CatalogImage → State → ℕ → List Row
first_content catalog state v = rows_over (view_at catalog v).plan state.tables

-- the views that the links of a view on a table name, in the book's order
abbrev pub linked : CatalogImage → ℕ → ℕ → List ℕ
linked catalog v t = flat_map (λ link. link.to) (filter (is_link v t) catalog.links)

-- whether a brush selects rows of a table for a view: the brush is on the table, and its links name the view
abbrev pub concerns : CatalogImage → ℕ → ℕ → BrushOn → Bool
concerns catalog w t brush = nat_eq brush.table t && has (linked catalog brush.view t) w

-- the rids of a table selected for a view: those in every brush that concerns them, or all if there is none
abbrev pub selected_for : CatalogImage → State → ℕ → ℕ → List ℕ
selected_for catalog state w t =
    places (λ rid. list_all (λ brush. has brush.rids rid) (filter (concerns catalog w t) state.brushes)) (length (rows_of_table state t))

-- the rows selected for a view, of every table
abbrev pub picks_for : CatalogImage → State → ℕ → List Pick
picks_for catalog state w = map (λ t. record { table = t; rids = selected_for catalog state w t }) (upto (length state.tables))

-- one list of rows for each leaf of a view's plan: those selected for the view
abbrev pub leaves_now : CatalogImage → State → ℕ → List (List Row)
leaves_now catalog state w = over (view_at catalog w).plan state.tables (picks_for catalog state w)

-- the content of a view: its plan over the rows selected for it
abbrev pub content : CatalogImage → State → ℕ → List Row
content catalog state w = eval (view_at catalog w).plan (leaves_now catalog state w)

-- whether a brush is that of a view and a table
abbrev pub is_brush : ℕ → ℕ → BrushOn → Bool
is_brush v t brush = nat_eq brush.view v && nat_eq brush.table t

-- a brush in place of the one with its view and table, or at the end if there is none
abbrev pub with_brush : BrushOn → List BrushOn → List BrushOn
with_brush brush brushes =
    cond (list_any (is_brush brush.view brush.table) brushes)
    (map (λ old. cond (is_brush brush.view brush.table old) brush old) brushes)
    (brushes ++ brush ∷ [])

-- the brushes without the one of a view and a table
abbrev pub without_brush : ℕ → ℕ → List BrushOn → List BrushOn
without_brush v t brushes = filter (λ brush. not (is_brush v t brush)) brushes

-- the state with other brushes
abbrev pub under : State → List BrushOn → State
under state brushes = record { tables = state.tables; brushes = brushes }
