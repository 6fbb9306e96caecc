-- What callers see of a session, and what is so of every session.
use Rattle.std.specs.{Prelude.{◌≡◌, ◌<◌, ◌≤◌, ℕ, Bool, cond, List, [], length, map, Option, Some, None, All}, List.{list_any, IsDistinct}}
use Rattle.smk_base.specs.{CatalogImage.{CatalogImage, catalog_image}, Places.{IsPlaces, has, upto}, Rels.Relation, declared.brush.BrushOn.BrushOn, declared.book.catalog.Catalog.Catalog, declared.workers.TheConstants.WORKER_LIMIT}
use Rattle.smk_model.specs.{Replies.content_of, Session.{Workbook, State, is_brush, linked, rows_of_table}}
use Rattle.smk_compose.specs.declared.kept_maps.Run.{Run}
use Rattle.smk_skip.specs.Splits.{SplitImage}
use Rattle.smk_session.specs.{Opened.{AreOpened, AreExtras, workbook_image, state_over}, declared.start.mode.Mode.Mode}

-- its book, the tables, for each view the first content and the lineage that is kept, the splits and groups of declarations, the brushes in force, for each view the content that is kept under them besides the first one, the mode of capture and the number of workers
pub record SessionImage : Type 0 where
  pub catalog : Catalog
  pub tables : List Relation
  pub views : List Run
  pub splits : List SplitImage
  pub cubes : List (List Relation)
  pub brushes : List BrushOn
  pub contents : List (Option Relation)
  pub mode : Mode
  pub workers : ℕ

abbrev pub workbook_of : SessionImage → Workbook
workbook_of session = workbook_image session.catalog session.tables

abbrev pub state_of : SessionImage → State
state_of session = state_over session.tables session.brushes

-- whether a view follows a brush: the brush's links name it
abbrev pub follows : CatalogImage → ℕ → BrushOn → Bool
follows catalog w brush = has (linked catalog brush.view brush.table) w

-- the content that is kept of a view besides its first one: the content now, exactly if it follows a brush in force
abbrev pub content_kept : CatalogImage → State → ℕ → Option Relation
content_kept catalog state w = cond (list_any (follows catalog w) state.brushes) (Some (content_of catalog state w)) None

abbrev pub contents_kept : CatalogImage → State → List (Option Relation)
contents_kept catalog state = map (content_kept catalog state) (upto (length catalog.views))

-- a brush is of a view, and on rows of a table that are there, ascending and without repeats
pub record BrushFits (catalog : Catalog) (tables : List Relation) (brush : BrushOn) : Type 0 where
  pub view : brush.view < length catalog.views
  pub table : brush.table < length catalog.tables
  pub rids : IsPlaces (length (rows_of_table (state_over tables []) brush.table)) brush.rids

-- whether two brushes are of one pair of a view and a table
abbrev pub same_pair : BrushOn → BrushOn → Bool
same_pair a b = is_brush a.view a.table b

-- the brushes fit, no two are of one pair, and what is kept besides the first contents is what the views show under them
pub record AreInForce (catalog : Catalog) (tables : List Relation) (brushes : List BrushOn) (contents : List (Option Relation)) : Type 0 where
  pub brushes_fit : All (BrushFits catalog tables) brushes
  pub one_a_pair : IsDistinct same_pair brushes
  pub contents_are : contents ≡ contents_kept (catalog_image catalog) (state_over tables brushes)

-- the views are opened, what the declarations ask for is made, the brushes are in force, and the number of workers is in range
pub record IsSession (session : SessionImage) : Type 0 where
  pub opened : AreOpened session.catalog session.tables session.views
  pub extras : AreExtras session.catalog session.tables session.splits session.cubes
  pub in_force : AreInForce session.catalog session.tables session.brushes session.contents
  pub some_workers : 1 ≤ session.workers
  pub few_workers : session.workers ≤ WORKER_LIMIT
