-- The tables and views of a book as they are opened.
use Rattle.std.proofs.{Common.{◌≡◌, ℕ, ◌<◌, List, [], length, get_or, ap, sym, ◌∙◌, subst, arith}, lemmas.List.{get_or-map, length-map}}
use Rattle.smk_base.specs.{CatalogImage.{ViewImage, view_image, catalog_image}, Places.upto, Rels.Relation, declared.brush.BrushOn.BrushOn, declared.book.catalog.Catalog.Catalog, declared.book.catalog.ViewInfo.ViewInfo, declared.value.Kind.Kind}
use Rattle.smk_model.specs.{Values.Row, Catalogs.{IsCatalog, ViewFits, table_kinds, each_table_kinds}, Selection.each_kinds, Typing.{info_at, no_table}, Session.{Workbook, view_at, no_view, rows_of_table}}
use Rattle.smk_base.proofs.Places.{get_or_map_upto, length_upto}
use Rattle.smk_compose.specs.declared.kept_maps.Run.{Run}
use Rattle.smk_session.specs.Opened.{AreOpened, workbook_image, state_over, opened}

-- the view, the table and its kinds are those of the book

pub views_long : (catalog : Catalog) (tables : List Relation) (views : List Run) → AreOpened catalog tables views → length views ≡ length catalog.views
views_long catalog tables views o =
    ap (length {A = Run}) o.views_are
    ∙ length-map (upto (length (catalog_image catalog).views)) (opened (workbook_image catalog tables))
    ∙ length_upto (length (catalog_image catalog).views)
    ∙ length-map catalog.views _

pub tables_long : (catalog : Catalog) (tables : List Relation) → each_kinds tables ≡ each_table_kinds catalog.tables → length tables ≡ length catalog.tables
tables_long catalog tables kinds = sym (length-map tables (λ (rel : Relation). rel.kinds)) ∙ ap (length {A = List Kind}) kinds ∙ length-map catalog.tables table_kinds

pub run_is : (catalog : Catalog) (tables : List Relation) (views : List Run) (v : ℕ) (run : Run) → AreOpened catalog tables views → v < length catalog.views → run ≡ get_or views v run
    → run ≡ opened (workbook_image catalog tables) v
run_is catalog tables views v run o low is =
    let book : Workbook = workbook_image catalog tables in
    let long : v < length (catalog_image catalog).views = omega (arith, low, length-map catalog.views view_image) in
    is ∙ ap (λ (runs : List Run). get_or runs v run) o.views_are ∙ get_or_map_upto (opened book) (length (catalog_image catalog).views) v run long

-- a table with rows of its own
abbrev rel_of : List Kind → List Row → Relation
rel_of kinds rows = record { kinds = kinds; rows = rows }

pub table_is : (catalog : Catalog) (tables : List Relation) (brushes : List BrushOn) (t : ℕ) (table : Relation) → each_kinds tables ≡ each_table_kinds catalog.tables → t < length catalog.tables → table ≡ get_or tables t table
    → table ≡ rel_of (table_kinds (info_at catalog.tables t)) (rows_of_table (state_over tables brushes) t)
table_is catalog tables brushes t table kinds_are low is =
    let less : t < length tables = omega (arith, low, tables_long catalog tables kinds_are) in
    let rows : table.rows ≡ rows_of_table (state_over tables brushes) t = ap (λ (r : Relation). r.rows) is ∙ sym (get_or-map (λ (r : Relation). r.rows) tables t table [] less) in
    let kinds : table.kinds ≡ table_kinds (info_at catalog.tables t) =
    ap (λ (r : Relation). r.kinds) is ∙ sym (get_or-map (λ (r : Relation). r.kinds) tables t table [] less) ∙ ap (λ (k : List (List Kind)). get_or k t []) kinds_are
    ∙ get_or-map table_kinds catalog.tables t no_table [] low in
    ap (λ k. rel_of k table.rows) kinds ∙ ap (rel_of (table_kinds (info_at catalog.tables t))) rows

-- a view of a checked book

pub view_is : (catalog : Catalog) (v : ℕ) (view : ViewInfo) → v < length catalog.views → view ≡ get_or catalog.views v view → view_image view ≡ view_at (catalog_image catalog) v
view_is catalog v view low is = ap view_image is ∙ sym (get_or-map view_image catalog.views v view no_view low)

pub view_fits : (catalog : Catalog) (v : ℕ) (view : ViewInfo) → IsCatalog (catalog_image catalog) → v < length catalog.views → view ≡ get_or catalog.views v view → ViewFits catalog.tables (view_image view)
view_fits catalog v view checked low is =
    let long : v < length (catalog_image catalog).views = omega (arith, low, length-map catalog.views view_image) in
    subst (λ (w : ViewImage). ViewFits catalog.tables w) (sym (view_is catalog v view low is)) (checked.typed.views v no_view long)
