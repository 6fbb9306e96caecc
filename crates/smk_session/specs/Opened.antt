-- What is made of a book and its tables before any line is answered.
use Rattle.std.specs.Prelude.{◌≡◌, ℕ, List, length, map, Option, Some}
use Rattle.smk_base.specs.{CatalogImage.catalog_image, Places.upto, Rels.Relation, declared.brush.BrushOn.BrushOn, declared.book.catalog.Catalog.Catalog}
use Rattle.smk_model.specs.{Catalogs.{IsCatalog, each_table_kinds}, NodeFaults.{NodeFault, FullRows, FullPairs}, Opening.ViewFault, Plain.rows_over, Selection.{each_kinds, each_rows}, Session.{Workbook, State, view_at}, Workload.needs}
use Rattle.smk_compose.specs.{KeptMaps.kept_at, declared.kept_maps.Run.Run}
use Rattle.smk_skip.specs.Splits.{SplitImage}
use Rattle.smk_session.specs.{Extras.{splits_of, all_cubes}, declared.start.fault.StartFault.StartFault, declared.start.fault.StartFault.TheVariants.{Rows, Pairs, NoMemory}}

-- a checked book with its tables
abbrev pub workbook_image : Catalog → List Relation → Workbook
workbook_image catalog tables = record { catalog = catalog_image catalog; tables = each_rows tables }

-- the state of a session: the rows of these tables, and these brushes
abbrev pub state_over : List Relation → List BrushOn → State
state_over tables brushes = record { tables = each_rows tables; brushes = brushes }

-- the first content of a view, and exactly the lineage that is needed for it
abbrev pub opened : Workbook → ℕ → Run
opened book v = record {
  rel = record { kinds = (view_at book.catalog v).kinds; rows = rows_over (view_at book.catalog v).plan book.tables };
  kept = map (kept_at (view_at book.catalog v).plan book.tables) (needs book.catalog v);
}

abbrev pub opened_views : Workbook → List Run
opened_views book = map (opened book) (upto (length book.catalog.views))

-- the book is a checked one, the tables have its kinds, and what is kept of the views is what they mean
pub record AreOpened (catalog : Catalog) (tables : List Relation) (views : List Run) : Type 0 where
  pub checked : IsCatalog (catalog_image catalog)
  pub kinds : each_kinds tables ≡ each_table_kinds catalog.tables
  pub views_are : views ≡ opened_views (workbook_image catalog tables)

-- the splits and groups that are kept are what the declarations mean over the tables
pub record AreExtras (catalog : Catalog) (tables : List Relation) (splits : List SplitImage) (cubes : List (List Relation)) : Type 0 where
  pub splits_are : splits ≡ splits_of (workbook_image catalog tables)
  pub cubes_are : cubes ≡ all_cubes (workbook_image catalog tables)

-- the fault of a node of a view
abbrev pub fault_in : ℕ → NodeFault → ViewFault
fault_in view fault = record { view = view; fault = fault }

-- whether a fault is the first one of the views
abbrev pub IsStartFault : StartFault → Option ViewFault → Type 0
IsStartFault (Rows view node) first = first ≡ Some (record { view = view; fault = FullRows node })
IsStartFault (Pairs view node table) first = first ≡ Some (record { view = view; fault = FullPairs node table })
IsStartFault NoMemory first = Unit {0}
