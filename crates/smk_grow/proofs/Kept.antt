-- The views as they are now.
use Rattle.std.proofs.{Common.{◌≡◌, ℕ, ◌<◌, List, length, map, get_or, ap, ◌∙◌, arith, Option, None}, lemmas.List.length-map}
use Rattle.smk_base.specs.{CatalogImage.{catalog_image, view_image}, Places.upto, Rels.Relation, declared.book.catalog.Catalog.Catalog}
use Rattle.smk_model.specs.{Catalogs.each_table_kinds, Selection.each_kinds, Session.Workbook}
use Rattle.smk_base.proofs.Places.{get_or_map_upto, length_upto}
use Rattle.smk_compose.specs.declared.kept_maps.Run.{Run}
use Rattle.smk_session.specs.{Making.{AreNow, newer}, Opened.workbook_image}
use Rattle.smk_grow.specs.Renewed.{fresh_view, kept_view, kept_views}
use Rattle.smk_grow.proofs.Renewed.{newer_is}

-- a place in a list of one for each view

pub views_count : (catalog : Catalog) → length (catalog_image catalog).views ≡ length catalog.views
views_count catalog = length-map catalog.views view_image

pub at_view : {X : Type 0} (catalog : Catalog) (f : ℕ → X) (xs : List X) (v : ℕ) (x : X) → xs ≡ map f (upto (length (catalog_image catalog).views)) → v < length catalog.views → x ≡ get_or xs v x → x ≡ f v
at_view catalog f xs v x are low is =
    let below : v < length (catalog_image catalog).views = omega (arith, low, views_count catalog) in
    is ∙ ap (λ l. get_or l v x) are ∙ get_or_map_upto f (length (catalog_image catalog).views) v x below

pub long_views : {X : Type 0} (catalog : Catalog) (f : ℕ → X) (xs : List X) → xs ≡ map f (upto (length (catalog_image catalog).views)) → length xs ≡ length catalog.views
long_views catalog f xs are =
    ap length are ∙ length-map (upto (length (catalog_image catalog).views)) f ∙ length_upto (length (catalog_image catalog).views) ∙ views_count catalog

-- so the views are what they mean, with what takes their places
pub now_opened : (catalog : Catalog) (tables : List Relation) (views : List Run) (fresh : List (Option Run)) (t : ℕ) (before : Workbook) → each_kinds tables ≡ each_table_kinds catalog.tables → views ≡ kept_views t before (workbook_image catalog tables)
    → fresh ≡ map (fresh_view t (workbook_image catalog tables)) (upto (length (catalog_image catalog).views)) → AreNow catalog tables views fresh
now_opened catalog tables views fresh t before kinds olds news =
    let book : Workbook = workbook_image catalog tables in
    let count = length (catalog_image catalog).views in
    record {
      kinds = kinds;
      long = long_views catalog (kept_view t before book) views olds;
      views_are = λ v run low.
          let below : v < count = omega (arith, low, views_count catalog) in
          let again : get_or fresh v None ≡ fresh_view t book v = ap (λ (l : List (Option Run)). get_or l v None) news ∙ get_or_map_upto (fresh_view t book) count v None below in
          let old : get_or views v run ≡ kept_view t before book v = ap (λ (l : List Run). get_or l v run) olds ∙ get_or_map_upto (kept_view t before book) count v run below in
          ap (λ (o : Option Run). newer o (get_or views v run)) again
          ∙ ap (newer (fresh_view t book v)) old
          ∙ newer_is t before book v;
    }
