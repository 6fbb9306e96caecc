-- The views that don't scan a table, moved to more rows of it, and back.
use Rattle.std.proofs.{Common.{◌≡◌, ℕ, zero, suc, ◌+◌, ◌<◌, ◌≤◌, cond, List, [], ◌∷◌, ◌++◌, length, get_or, map, set, take, drop, refl, ap, sym, ◌∙◌, arith, inl, inr}, lemmas.Bool.cases_Bool, lemmas.List.{ext_get_or, length-map, length-take-le}}
use Rattle.smk_base.specs.{CatalogImage.{CatalogImage, catalog_image}, Places.upto, Rels.Relation, declared.book.catalog.Catalog.Catalog}
use Rattle.smk_model.specs.{Appends.scans, Plain.table_at, Selection.each_rows, Values.Row}
use Rattle.smk_base.proofs.Places.{get_or_map_upto, length_upto, map_upto_agree}
use Rattle.smk_compose.specs.declared.kept_maps.Run.{Run}
use Rattle.smk_session.specs.Opened.{opened, opened_views, workbook_image}
use Rattle.smk_grow.specs.{Grown.{rows_of, first_tables, longer_tables}, Renewed.{kept_view, kept_views, moved_at, moved_view, moved_views, no_view, view_in}}
use Rattle.smk_grow.proofs.{Fresh.same_but, Grown.{at_with, long_with, other_with, rows_is}, Renewed.{SameBut, book_over, moved_is}}

-- one value more of which each is mapped in its place

next_mapped : {A : Type 0} (f : A → A) (xs : List A) (i : ℕ) (x : A) → i < length xs → x ≡ get_or (map f (take i xs) ++ drop i xs) i x → set (map f (take i xs) ++ drop i xs) i (f x) ≡ map f (take (suc i) xs) ++ drop (suc i) xs
next_mapped f [] i x low is = absurd (omega arith)
next_mapped f (y ∷ ys) zero x low is = ap (λ z. f z ∷ ys) is
next_mapped f (y ∷ ys) (suc i) x low is = ap (λ l. f y ∷ l) (next_mapped f ys i x (omega arith) is)

pub mapped_more : {A : Type 0} (f : A → A) (xs now : List A) (i : ℕ) (x made : A) → i < length now → length now ≡ length xs → x ≡ get_or now i x → made ≡ f x → now ≡ map f (take i xs) ++ drop i xs → set now i made ≡ map f (take (i + 1) xs) ++ drop (i + 1) xs
mapped_more f xs now i x made low long is made_is so_far =
    let next : suc i ≡ i + 1 = omega arith in
    ap (set now i) made_is
    ∙ ap (λ l. set l i (f x)) so_far
    ∙ next_mapped f xs i x (omega (arith, low, long)) (is ∙ ap (λ l. get_or l i x) so_far)
    ∙ ap (λ (n : ℕ). map f (take n xs) ++ drop n xs) next

-- the views in their places

abbrev run_at : CatalogImage → ℕ → ℕ → ℕ → Run → Run
run_at catalog t size v run = cond (scans catalog t v) run (moved_view t size run)

moved_each : (catalog : CatalogImage) (t size n : ℕ) (old new : ℕ → Run) (views : List Run) → ((v : ℕ) → run_at catalog t size v (old v) ≡ new v) → views ≡ map old (upto n) → moved_views catalog t size views ≡ map new (upto n)
moved_each catalog t size n old new views each are =
    ap (moved_views catalog t size) are
    ∙ ap (λ (k : ℕ). map (moved_at catalog t size (map old (upto n))) (upto k)) (length-map (upto n) old ∙ length_upto n)
    ∙ map_upto_agree (moved_at catalog t size (map old (upto n))) new n (λ v low. ap (run_at catalog t size v) (get_or_map_upto old n v _ low) ∙ each v)

-- each in its place

pub moved_all : (catalog : CatalogImage) (t size : ℕ) (views made : List Run) → length made ≡ length views → ((v : ℕ) → v < length views → view_in made v ≡ moved_at catalog t size views v) → made ≡ moved_views catalog t size views
moved_all catalog t size views made long each =
    let n = length views in
    let count : length (moved_views catalog t size views) ≡ n = length-map (upto n) (moved_at catalog t size views) ∙ length_upto n in
    ext_get_or no_view made (moved_views catalog t size views) (long ∙ sym count)
    (λ v low. let below : v < n = omega (arith, low, long) in each v below ∙ sym (get_or_map_upto (moved_at catalog t size views) n v no_view below))

-- to more rows, from the views of a session

one_longer : (catalog : CatalogImage) (t size v : ℕ) (A B : List (List Row)) → SameBut t A B → size ≡ length (table_at B t) → run_at catalog t size v (opened (book_over catalog A) v) ≡ kept_view t (book_over catalog A) (book_over catalog B) v
one_longer catalog t size v A B same is = elim (cases_Bool (scans catalog t v)) [
  | inl held ↦ rw held refl
  | inr failed ↦ rw failed (moved_is catalog t v size A B same failed is)
]

pub moved_longer : (catalog : Catalog) (tables : List Relation) (t size : ℕ) (more : List Row) (views : List Run) → t < length tables → size ≡ length (rows_of (longer_tables tables t more) t) → views ≡ opened_views (workbook_image catalog tables)
    → moved_views (catalog_image catalog) t size views ≡ kept_views t (workbook_image catalog tables) (workbook_image catalog (longer_tables tables t more))
moved_longer catalog tables t size more views low is are =
    let A = each_rows tables in
    let B = each_rows (longer_tables tables t more) in
    let same : SameBut t A B = λ u ne. sym (other_with tables t u _ ne) in
    let long = is ∙ sym (ap length (rows_is (longer_tables tables t more) t (omega (arith, low, long_with tables t more)))) in
    moved_each (catalog_image catalog) t size (length (catalog_image catalog).views) (opened (book_over (catalog_image catalog) A)) (kept_view t (book_over (catalog_image catalog) A) (book_over (catalog_image catalog) B)) views
    (λ v. one_longer (catalog_image catalog) t size v A B same long) are

-- and back to the first ones

one_back : (catalog : CatalogImage) (t size v : ℕ) (A B : List (List Row)) → SameBut t B A → size ≡ length (table_at A t) → run_at catalog t size v (kept_view t (book_over catalog A) (book_over catalog B) v) ≡ opened (book_over catalog A) v
one_back catalog t size v A B same is = elim (cases_Bool (scans catalog t v)) [
  | inl held ↦ rw held refl
  | inr failed ↦ rw failed (moved_is catalog t v size B A same failed is)
]

pub moved_back : (catalog : Catalog) (tables : List Relation) (t len : ℕ) (views : List Run) → t < length tables → len ≤ length (rows_of tables t) → views ≡ kept_views t (workbook_image catalog (first_tables tables t len)) (workbook_image catalog tables)
    → moved_views (catalog_image catalog) t len views ≡ opened_views (workbook_image catalog (first_tables tables t len))
moved_back catalog tables t len views low within are =
    let A = each_rows (first_tables tables t len) in
    let B = each_rows tables in
    let same : SameBut t B A = λ u ne. sym (same_but tables t len u ne) in
    let long : len ≡ length (table_at A t) = sym (length-take-le len (rows_of tables t) within) ∙ sym (ap length (at_with tables t (take len (rows_of tables t)) low)) in
    moved_each (catalog_image catalog) t len (length (catalog_image catalog).views) (kept_view t (book_over (catalog_image catalog) A) (book_over (catalog_image catalog) B)) (opened (book_over (catalog_image catalog) A)) views
    (λ v. one_back (catalog_image catalog) t len v A B same long) are
