-- What a session keeps once fresh values are in the places of what they replace.
use Rattle.std.proofs.Common.{◌≡◌, ℕ, ◌≤◌, List, [], length, map, refl, ap, sym, ◌∙◌, arith, Option, None}
use Rattle.std.specs.List.{filter_map}
use Rattle.smk_base.specs.{CatalogImage.catalog_image, Places.upto, Rels.Relation, declared.brush.BrushOn.BrushOn}
use Rattle.smk_model.specs.{Selection.each_rows, Session.Workbook}
use Rattle.smk_compose.specs.declared.kept_maps.Run.{Run}
use Rattle.smk_skip.specs.Splits.{SplitImage}
use Rattle.smk_session.specs.{Extras.{splits_of, all_cubes}, Opened.{opened_views, workbook_image}, Sessions.{SessionImage, workbook_of}}
use Rattle.smk_grow.specs.{Grown.first_tables, Images.renewed, Renewals.{IsFresh, IsGrown}, Renewed.{fresh_cubes, fresh_split, fresh_view, replaced}, declared.renewing.Fresh.Fresh}
use Rattle.smk_grow.proofs.{Fresh.same_but, Replaced.{long_cubes, long_splits, replaced_cubes, replaced_splits, replaced_views}}

abbrev before : SessionImage → ℕ → ℕ → Workbook
before session t len = workbook_image session.catalog (first_tables session.tables t len)

pub committed_views : (session : SessionImage) (t len : ℕ) (fresh : Fresh) → IsGrown session t len → IsFresh t (workbook_of session) fresh → replaced fresh.views.items session.views ≡ opened_views (workbook_of session)
committed_views session t len fresh grown f =
    let n = length (catalog_image session.catalog).views in
    ap (λ (l : List (Option Run)). replaced l session.views) f.views
    ∙ ap (replaced (map (fresh_view t (workbook_of session)) (upto n))) grown.views_are
    ∙ replaced_views t (before session t len) (workbook_of session) n

pub committed_splits : (session : SessionImage) (t len : ℕ) (fresh : Fresh) → IsGrown session t len → IsFresh t (workbook_of session) fresh → replaced fresh.extras.splits.items session.splits ≡ splits_of (workbook_of session)
committed_splits session t len fresh grown f =
    ap (λ (l : List (Option SplitImage)). replaced l session.splits) f.splits
    ∙ ap (replaced (filter_map (fresh_split t (workbook_of session)) session.catalog.backs)) grown.extras.splits_are
    ∙ replaced_splits (catalog_image session.catalog) t (each_rows (first_tables session.tables t len)) (each_rows session.tables) session.catalog.backs (same_but session.tables t len)

pub committed_cubes : (session : SessionImage) (t len : ℕ) (fresh : Fresh) → IsGrown session t len → IsFresh t (workbook_of session) fresh → replaced fresh.extras.cubes.items session.cubes ≡ all_cubes (workbook_of session)
committed_cubes session t len fresh grown f =
    ap (λ (l : List (Option (List Relation))). replaced l session.cubes) f.cubes
    ∙ ap (replaced (filter_map (fresh_cubes t (workbook_of session)) session.catalog.backs)) grown.extras.cubes_are
    ∙ replaced_cubes (catalog_image session.catalog) t (each_rows (first_tables session.tables t len)) (each_rows session.tables) session.catalog.backs (same_but session.tables t len)

-- there are as many of them

pub few_splits : (session : SessionImage) (t len : ℕ) (fresh : Fresh) → IsGrown session t len → IsFresh t (workbook_of session) fresh → length fresh.extras.splits.items ≤ length session.splits
few_splits session t len fresh grown f =
    let same : length fresh.extras.splits.items ≡ length session.splits =
    ap length f.splits ∙ long_splits (catalog_image session.catalog) t (each_rows (first_tables session.tables t len)) (each_rows session.tables) session.catalog.backs ∙ ap length (sym grown.extras.splits_are) in
    omega (arith, same)

pub few_cubes : (session : SessionImage) (t len : ℕ) (fresh : Fresh) → IsGrown session t len → IsFresh t (workbook_of session) fresh → length fresh.extras.cubes.items ≤ length session.cubes
few_cubes session t len fresh grown f =
    let same : length fresh.extras.cubes.items ≡ length session.cubes =
    ap length f.cubes ∙ long_cubes (catalog_image session.catalog) t (each_rows (first_tables session.tables t len)) (each_rows session.tables) session.catalog.backs ∙ ap length (sym grown.extras.cubes_are) in
    omega (arith, same)

-- what a session keeps then

abbrev image_of : SessionImage → List Run → List SplitImage → List (List Relation) → List BrushOn → List (Option Relation) → SessionImage
image_of session views splits cubes brushes contents = record session { views = views; splits = splits; cubes = cubes; brushes = brushes; contents = contents }

pub committed : (session : SessionImage) (t len : ℕ) (fresh : Fresh) (views : List Run) (splits : List SplitImage) (cubes : List (List Relation)) (brushes : List BrushOn) (contents : List (Option Relation))
    → IsGrown session t len → IsFresh t (workbook_of session) fresh
    → views ≡ replaced fresh.views.items session.views → splits ≡ replaced fresh.extras.splits.items session.splits → cubes ≡ replaced fresh.extras.cubes.items session.cubes
    → brushes ≡ [] → contents ≡ map (λ (w : ℕ). None) (upto (length session.contents))
    → image_of session views splits cubes brushes contents ≡ renewed session
committed session t len fresh views splits cubes brushes contents grown f views_are splits_are cubes_are none forgotten =
    rw (views_are ∙ committed_views session t len fresh grown f, splits_are ∙ committed_splits session t len fresh grown f, cubes_are ∙ committed_cubes session t len fresh grown f, none, forgotten) refl
