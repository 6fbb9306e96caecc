-- What is so of the calls that make what declarations ask for besides the rows.
use Rattle.std.specs.{Prelude.{◌≡◌, ◌<◌, ℕ, Bool, true, cond, List, Option, Some, None, Result, IfOk, get_or, length, map}, declared.alloc.AllocError.AllocError}
use Rattle.smk_base.specs.{CatalogImage.{CatalogImage, catalog_image}, Rels.Relation, declared.book.catalog.Back.Back, declared.book.catalog.Catalog.Catalog}
use Rattle.smk_model.specs.{Appends.depends_on, Catalogs.{BackFits, each_table_kinds}, Looks.looks_of_back, Selection.each_kinds, Session.Workbook, Workload.declares_back}
use Rattle.smk_session.specs.{Extras.{table_of, split_in, cubes_in}, Opened.{opened, workbook_image}, declared.start.making.ExtraAsked.ExtraAsked, declared.start.making.SplitOrCubes.SplitOrCubes, declared.start.making.Opening.Opening}
use Rattle.smk_compose.specs.declared.kept_maps.Run.{Run}
use Rattle.smk_skip.specs.Splits.{SplitImage}

abbrev pub book_in : Opening → Workbook
book_in opening = workbook_image opening.book.now opening.tables.now

-- the fresh value if there is one, else the old one
abbrev pub newer : {A : Type 0} → Option A → A → A
newer (Some fresh) old = fresh
newer None old = old

-- the tables have the kinds of a checked book, and each view, or the fresh one in its place, is what it means
pub record AreNow (catalog : Catalog) (tables : List Relation) (views : List Run) (fresh : List (Option Run)) : Type 0 where
  pub kinds : each_kinds tables ≡ each_table_kinds catalog.tables
  pub long : length views ≡ length catalog.views
  pub views_are : (v : ℕ) (run : Run) → v < length catalog.views → newer (get_or fresh v None) (get_or views v run) ≡ opened (workbook_image catalog tables) v

abbrev pub IsOpened : Opening → Type 0
IsOpened opening = AreNow opening.book.now opening.tables.now opening.views.now opening.fresh.now

-- a backward declaration fits its book, and its query is declared by the book
pub record IsDeclared (catalog : Catalog) (declared : Back) : Type 0 where
  pub fits : BackFits catalog.tables (length (catalog_image catalog).views) declared
  pub declares : declares_back (catalog_image catalog) declared.view declared.table ≡ true

-- a declaration of the book, with the rows of its table
pub record IsAsked (catalog : Catalog) (tables : List Relation) (asked : ExtraAsked) : Type 0 where
  pub declared : IsDeclared catalog asked.declared.now
  pub rows : asked.rows ≡ table_of (workbook_image catalog tables) asked.declared.now.table

-- what it asks for besides the rows is made
pub record IsMadeFor (book : Workbook) (asked : ExtraAsked) (made : SplitOrCubes) : Type 0 where
  pub split : made.split ≡ split_in book asked.declared.now
  pub cubes : made.cubes ≡ cubes_in book asked.declared.now

abbrev pub MakesAs : Workbook → ExtraAsked → Result SplitOrCubes AllocError → Type 0
MakesAs book asked made = IfOk made (IsMadeFor book asked)

-- the declarations
abbrev pub declared_in : List ExtraAsked → List Back
declared_in all = map (λ (asked : ExtraAsked). asked.declared.now) all

-- whether what a declaration asks for besides the rows is made: always, or if it depends on the table that has grown
abbrev pub is_wanted : CatalogImage → Option ℕ → Back → Bool
is_wanted catalog None declared = true
is_wanted catalog (Some t) declared = depends_on catalog t declared

-- what is made then, and the looks for it
abbrev pub split_wanted : Workbook → Option ℕ → Back → Option SplitImage
split_wanted book grown declared = cond (is_wanted book.catalog grown declared) (split_in book declared) None

abbrev pub cubes_wanted : Workbook → Option ℕ → Back → Option (List Relation)
cubes_wanted book grown declared = cond (is_wanted book.catalog grown declared) (cubes_in book declared) None

abbrev pub looks_wanted : Workbook → Option ℕ → Back → ℕ
looks_wanted book grown declared = cond (is_wanted book.catalog grown declared) (looks_of_back book declared) 0
