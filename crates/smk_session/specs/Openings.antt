-- What is so of the calls that open views.
use Rattle.std.specs.Prelude.{◌≡◌, ◌<◌, ℕ, List, Option, Result, MatchResult, None, length, map}
use Rattle.smk_base.specs.{CatalogImage.catalog_image, Rels.Relation, declared.book.catalog.Catalog.Catalog}
use Rattle.smk_model.specs.{Catalogs.each_table_kinds, Opening.{ViewFault, first_some, view_fault}, Plain.whole, Selection.{each_kinds, each_rows, leaf_kinds}, Session.{Workbook, view_at}}
use Rattle.smk_compose.specs.declared.kept_maps.Run.{Run}
use Rattle.smk_session.specs.{Opened.{IsStartFault, opened}, declared.start.fault.StartFault.StartFault, declared.start.opening.Stocked.Stocked}

-- a view of a book can be opened over the rows that are fetched: they are those of its leaves, each the whole table
pub record CanOpen (catalog : Catalog) (tables : List Relation) (stocked : Stocked) : Type 0 where
  pub fit : each_kinds tables ≡ each_table_kinds catalog.tables
  pub view : stocked.view < length catalog.views
  pub rows : each_rows stocked.leaves ≡ whole (view_at (catalog_image catalog) stocked.view).plan (each_rows tables)
  pub kinds : each_kinds stocked.leaves ≡ leaf_kinds (view_at (catalog_image catalog) stocked.view).plan (each_kinds tables)

-- it is opened with its first content and its lineage, or refused for the first of its nodes that is too big
pub record Opens (book : Workbook) (v : ℕ) (made : Run) : Type 0 where
  pub run : made ≡ opened book v
  pub none : view_fault book v ≡ None

abbrev pub OpensAs : Workbook → Stocked → Result Run StartFault → Type 0
OpensAs book stocked made = MatchResult made (Opens book stocked.view) (λ e. IsStartFault e (view_fault book stocked.view))

-- the views whose rows are fetched
abbrev pub views_of : List Stocked → List ℕ
views_of all = map (λ (stocked : Stocked). stocked.view) all

-- the first fault of these views
abbrev pub faults_of : Workbook → List Stocked → Option ViewFault
faults_of book stocked = first_some (view_fault book) (views_of stocked)
