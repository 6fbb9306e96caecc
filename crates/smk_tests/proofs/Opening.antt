-- What a checked book gives for its tables and views.
use Rattle.std.proofs.{Common.{◌≡◌, ◌∙◌, ◌<◌, ◌^◌, ℕ, List, length, map, get_or, All, Ok, sym, ap, subst, arith}, lemmas.List.{get_or-map, length-map}}
use Rattle.smk_base.specs.{Rels.Relation, PlanImage.expr_of, CatalogImage.{CatalogImage, view_image}, TreeImage.book_image, declared.value.Kind.Kind, declared.book.tree.Book.Book, declared.book.col_decl.ColDecl.ColDecl, declared.book.catalog.Column.Column, declared.book.catalog.TableInfo.TableInfo, declared.book.catalog.ViewInfo.ViewInfo}
use Rattle.smk_model.specs.{Expanded.{expanded, dependency_names, HasNoDependency}, Limits.KeepsLimits, Profiles.AreDependencies, Tables.declared_kinds, Typing.types, Catalogs.{ViewFits, table_kinds, each_table_kinds}, Selection.{ScansFit, PlanFits, leaf_kinds, each_kinds, nodes}}
use Rattle.smk_model.proofs.{Expanded.expanded_stands, LimitsKept.faultless_keep_limits}
use Rattle.smk_base.proofs.Places.{map_map}
use Rattle.smk_parse.specs.Answers.{IsBookAnswer}

-- a book that was parsed, with each dependency replaced, keeps the limits and has no dependency
pub keeps_limits : (text : List ℕ) (book made : Book) → IsBookAnswer text (Ok book) → book_image made ≡ expanded (book_image book) → KeepsLimits (book_image made)
keeps_limits text book made is e = subst KeepsLimits (sym e) (expanded_stands.limits (book_image book) (faultless_keep_limits text (book_image book) is.0 is.1))

pub is_replaced : (book made : Book) → book_image made ≡ expanded (book_image book) → HasNoDependency (book_image made)
is_replaced book made e = subst HasNoDependency (sym e) (expanded_stands.none (book_image book))

-- its dependencies are shown by its views
pub is_shown : (book made : Book) (fds : List (List ℕ)) (catalog : CatalogImage) → book_image made ≡ expanded (book_image book) → fds ≡ dependency_names (book_image book) → types (book_image made) ≡ Ok catalog → AreDependencies catalog fds
is_shown book made fds catalog e names typed = subst (AreDependencies catalog) (sym names) (expanded_stands.shown (book_image book) catalog (ap types (sym e) ∙ typed))

-- the kinds of a table are those of its declared columns
pub kinds_declared : (info : TableInfo) (kinds : List Kind) → kinds ≡ declared_kinds info.cols → kinds ≡ table_kinds info
kinds_declared info kinds is = is ∙ sym (map_map (λ (column : Column). column.kind) (λ (col : ColDecl). record { name = col.name; kind = col.kind }) info.cols)

-- there are as many tables as infos
pub as_many : (tables : List Relation) (infos : List TableInfo) → each_kinds tables ≡ each_table_kinds infos → length infos ≡ length tables
as_many tables infos e = sym (length-map infos table_kinds) ∙ sym (ap length e) ∙ length-map tables (λ rel. rel.kinds)

-- a view fits the tables
fits : (infos : List TableInfo) (views : List ViewInfo) (i : ℕ) (view : ViewInfo) → All (ViewFits infos) (map view_image views) → i < length views → view ≡ get_or views i view → ViewFits infos (view_image view)
fits infos views i view each low is =
    let long : i < length (map view_image views) = omega (arith, low, length-map views view_image) in
    let at : get_or (map view_image views) i (view_image view) ≡ view_image view = get_or-map view_image views i view (view_image view) low ∙ ap view_image (sym is) in
    subst (λ v. ViewFits infos v) at (each i (view_image view) long)

pub scans_at : (tables : List Relation) (infos : List TableInfo) (views : List ViewInfo) (i : ℕ) (view : ViewInfo) → each_kinds tables ≡ each_table_kinds infos → All (ViewFits infos) (map view_image views) → i < length views → view ≡ get_or views i view
    → ScansFit (length tables) (expr_of view.plan)
scans_at tables infos views i view e each low is = subst (λ n. ScansFit n (expr_of view.plan)) (as_many tables infos e) (fits infos views i view each low is).scans

pub fits_at : (tables : List Relation) (infos : List TableInfo) (views : List ViewInfo) (i : ℕ) (view : ViewInfo) → each_kinds tables ≡ each_table_kinds infos → All (ViewFits infos) (map view_image views) → i < length views → view ≡ get_or views i view
    → PlanFits (expr_of view.plan) (leaf_kinds (expr_of view.plan) (each_kinds tables))
fits_at tables infos views i view e each low is = let plan = expr_of view.plan in subst (λ K. PlanFits plan (leaf_kinds plan K)) (sym e) (fits infos views i view each low is).fits

pub few_at : (infos : List TableInfo) (views : List ViewInfo) (i : ℕ) (view : ViewInfo) → All (ViewFits infos) (map view_image views) → i < length views → view ≡ get_or views i view → nodes (expr_of view.plan) < 2 ^ 32
few_at infos views i view each low is = omega (arith, (fits infos views i view each low is).few)
