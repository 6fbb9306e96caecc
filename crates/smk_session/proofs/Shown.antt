-- What a view shows under brushes, and what a change of the brushes leaves in force.
use Rattle.std.proofs.{Common.{◌≡◌, ℕ, ◌<◌, ◌≤◌, Bool, true, false, cond, List, [], ◌∷◌, ◌++◌, length, map, get_or, refl, ap, sym, ◌∙◌, subst, arith, Option, Some, None, All}, lemmas.Bool.false≢true, lemmas.List.length-map, lemmas.List.Elements.{All-nil, All-cons, All-append, All-head, All-tail}}
use Rattle.std.specs.List.{filter, list_any, IsDistinct}
use Rattle.smk_base.specs.{CatalogImage.{CatalogImage, view_image, catalog_image}, Places.{has, upto}, Rels.Relation, declared.brush.BrushOn.BrushOn, declared.book.catalog.Catalog.Catalog}
use Rattle.smk_model.specs.{Values.Row, Catalogs.IsCatalog, Replies.content_of, Selection.each_rows, Session.{State, is_brush, linked, view_at, with_brush, without_brush}}
use Rattle.smk_base.proofs.Places.{get_or_map_upto, length_upto, upto_below, has_upto}
use Rattle.smk_compose.specs.declared.kept_maps.Run.{Run}
use Rattle.smk_skip.specs.Splits.{SplitImage}
use Rattle.smk_session.specs.{Answers.{content_at, placed}, Opened.{AreExtras, AreOpened, state_over}, Sessions.{AreInForce, BrushFits, IsSession, content_kept, follows, same_pair}, declared.start.mode.Mode.Mode, declared.turn.Content.Content}
use Rattle.smk_session.proofs.{InForce.{brush_leaves, clear_leaves, placed_are, untouched}, Linked.linked_low, OpenedViews.{run_is, views_long}, Pairs.{none_a_pair, with_one_a_pair, without_one_a_pair}}

-- what is kept of a view

views_of : (catalog : Catalog) → length (catalog_image catalog).views ≡ length catalog.views
views_of catalog = length-map catalog.views view_image

pub contents_long : (catalog : Catalog) (tables : List Relation) (brushes : List BrushOn) (contents : List (Option Relation)) → AreInForce catalog tables brushes contents → length contents ≡ length catalog.views
contents_long catalog tables brushes contents f =
    ap (length {A = Option Relation}) f.contents_are ∙ length-map (upto (length (catalog_image catalog).views)) _ ∙ length_upto (length (catalog_image catalog).views) ∙ views_of catalog

kept_there : (catalog : Catalog) (tables : List Relation) (brushes : List BrushOn) (contents : List (Option Relation)) (v : ℕ) (kept : Option Relation) → AreInForce catalog tables brushes contents → v < length catalog.views → kept ≡ get_or contents v kept
    → kept ≡ content_kept (catalog_image catalog) (state_over tables brushes) v
kept_there catalog tables brushes contents v kept f low is =
    is ∙ ap (λ (l : List (Option Relation)). get_or l v kept) f.contents_are ∙ get_or_map_upto (content_kept (catalog_image catalog) (state_over tables brushes)) (length (catalog_image catalog).views) v kept (omega (arith, low, views_of catalog))

pub some_is : {X : Type 0} (b : Bool) (x y : X) → Some x ≡ cond b (Some y) None → x ≡ y
some_is true x y h = cc
some_is false x y h = absurd (cc)

pub none_is : {X : Type 0} (b : Bool) (y : X) → None ≡ cond b (Some y) None → b ≡ false
none_is true y h = absurd (cc)
none_is false y h = refl

pub shown_kept : (catalog : Catalog) (tables : List Relation) (brushes : List BrushOn) (contents : List (Option Relation)) (v : ℕ) (kept : Option Relation) (rel : Relation) → AreInForce catalog tables brushes contents → v < length catalog.views
    → kept ≡ get_or contents v kept → kept ≡ Some rel → rel ≡ content_of (catalog_image catalog) (state_over tables brushes) v
shown_kept catalog tables brushes contents v kept rel f low is some =
    some_is (list_any (follows (catalog_image catalog) v) brushes) rel _ (sym some ∙ kept_there catalog tables brushes contents v kept f low is)

abbrev rel_of : CatalogImage → ℕ → List Row → Relation
rel_of catalog v rows = record { kinds = (view_at catalog v).kinds; rows = rows }

pub shown_first : (catalog : Catalog) (tables : List Relation) (views : List Run) (brushes : List BrushOn) (contents : List (Option Relation)) (v : ℕ) (kept : Option Relation) (run : Run) → AreOpened catalog tables views → AreInForce catalog tables brushes contents
    → v < length catalog.views → kept ≡ get_or contents v kept → kept ≡ None → run ≡ get_or views v run → run.rel ≡ content_of (catalog_image catalog) (state_over tables brushes) v
shown_first catalog tables views brushes contents v kept run o f low is none at =
    let unnamed : list_any (follows (catalog_image catalog) v) brushes ≡ false = none_is (list_any (follows (catalog_image catalog) v) brushes) _ (sym none ∙ kept_there catalog tables brushes contents v kept f low is) in
    ap (λ (r : Run). r.rel) (run_is catalog tables views v run o low at)
    ∙ ap (rel_of (catalog_image catalog) v) (sym (untouched (catalog_image catalog) (each_rows tables) brushes v unnamed))

abbrev nothing : ℕ → Option Relation
nothing w = None

-- at first no brush is in force, and nothing is kept
pub none_in_force : (catalog : Catalog) (tables : List Relation) (views : List Run) (contents : List (Option Relation)) (n : ℕ) → AreOpened catalog tables views → n ≡ length views → contents ≡ map (λ w. None) (upto n) → AreInForce catalog tables [] contents
none_in_force catalog tables views contents n o long are = record {
  brushes_fit = All-nil (BrushFits catalog tables);
  one_a_pair = none_a_pair;
  contents_are = are ∙ ap (λ (k : ℕ). map nothing (upto k)) (long ∙ views_long catalog tables views o ∙ sym (views_of catalog));
}

-- so that is a session
pub session_begun : (catalog : Catalog) (near tables : List Relation) (views : List Run) (splits : List SplitImage) (cubes : List (List Relation)) (brushes : List BrushOn) (contents : List (Option Relation)) (mode : Mode) (workers : ℕ)
    → near ≡ tables → AreOpened catalog near views → AreExtras catalog near splits cubes → brushes ≡ [] → contents ≡ map (λ w. None) (upto (length views)) → 1 ≤ workers → workers ≤ 64
    → IsSession (record { catalog = catalog; tables = tables; views = views; splits = splits; cubes = cubes; brushes = brushes; contents = contents; mode = mode; workers = workers })
session_begun catalog near tables views splits cubes brushes contents mode workers same o extras none are some few =
    let opened_are : AreOpened catalog tables views = subst (λ (T : List Relation). AreOpened catalog T views) same o in
    record {
      opened = opened_are;
      extras = subst (λ (T : List Relation). AreExtras catalog T splits cubes) same extras;
      in_force = subst (λ (l : List BrushOn). AreInForce catalog tables l contents) (sym none) (none_in_force catalog tables views contents (length views) opened_are refl are);
      some_workers = some;
      few_workers = few;
    }

-- a change of the brushes

all_cond : {X : Type 0} (P : X → Type 0) (test : X → Bool) (x : X) (xs : List X) → P x → All P xs → All P (map (λ old. cond (test old) x old) xs)
all_cond P test x [] h all = All-nil P
all_cond P test x (y ∷ ys) h all = All-cons P (cond (test y) x y) (map (λ old. cond (test old) x old) ys) (by (test y)) (all_cond P test x ys h (All-tail P y ys all))
  where
    by : (b : Bool) → P (cond b x y)
    by true = h
    by false = All-head P y ys all

pub with_fits : (P : BrushOn → Type 0) (brush : BrushOn) (brushes : List BrushOn) → P brush → All P brushes → All P (with_brush brush brushes)
with_fits P brush brushes h all = by (list_any (is_brush brush.view brush.table) brushes)
  where
    by : (b : Bool) → All P (cond b (map (λ (old : BrushOn). cond (is_brush brush.view brush.table old) brush old) brushes) (brushes ++ brush ∷ []))
    by true = all_cond P (is_brush brush.view brush.table) brush brushes h all
    by false = All-append P brushes (brush ∷ []) all (All-cons P brush [] h (All-nil P))

pub kept_fit : {X : Type 0} (P : X → Type 0) (test : X → Bool) (xs : List X) → All P xs → All P (filter test xs)
kept_fit P test [] all = All-nil P
kept_fit P test (x ∷ xs) all = by (test x) (kept_fit P test xs (All-tail P x xs all))
  where
    by : (b : Bool) → All P (filter test xs) → All P (cond b (x ∷ filter test xs) (filter test xs))
    by true rest = All-cons P x (filter test xs) (All-head P x xs all) rest
    by false rest = rest

-- other brushes that fit, and the contents of all views that they change
changed : (catalog : Catalog) (tables : List Relation) (brushes next : List BrushOn) (contents : List (Option Relation)) (fresh : List Content) (ws : List ℕ) → AreInForce catalog tables brushes contents → All (BrushFits catalog tables) next → IsDistinct same_pair next
    → fresh ≡ map (content_at (catalog_image catalog) (state_over tables next)) ws
    → ((w : ℕ) → w < length (catalog_image catalog).views → has ws w ≡ false → content_kept (catalog_image catalog) (state_over tables next) w ≡ content_kept (catalog_image catalog) (state_over tables brushes) w)
    → AreInForce catalog tables next (placed fresh contents)
changed catalog tables brushes next contents fresh ws f fit apart are same = record {
  brushes_fit = fit;
  one_a_pair = apart;
  contents_are =
      ap (λ (l : List Content). placed l contents) are
      ∙ ap (placed (map (content_at (catalog_image catalog) (state_over tables next)) ws)) f.contents_are
      ∙ placed_are (content_kept (catalog_image catalog) (state_over tables brushes)) (content_kept (catalog_image catalog) (state_over tables next)) (length (catalog_image catalog).views) ws same;
}

pub brush_changes : (catalog : Catalog) (tables : List Relation) (brushes : List BrushOn) (contents : List (Option Relation)) (brush : BrushOn) (fresh : List Content) → AreInForce catalog tables brushes contents → BrushFits catalog tables brush
    → fresh ≡ map (content_at (catalog_image catalog) (state_over tables (with_brush brush brushes))) (linked (catalog_image catalog) brush.view brush.table)
    → AreInForce catalog tables (with_brush brush brushes) (placed fresh contents)
brush_changes catalog tables brushes contents brush fresh f fits are =
    changed catalog tables brushes (with_brush brush brushes) contents fresh (linked (catalog_image catalog) brush.view brush.table) f (with_fits (BrushFits catalog tables) brush brushes fits f.brushes_fit) (with_one_a_pair brush brushes f.one_a_pair) are
    (λ w low unnamed. brush_leaves (catalog_image catalog) (each_rows tables) brush brushes w unnamed)

pub clear_changes : (catalog : Catalog) (tables : List Relation) (brushes : List BrushOn) (contents : List (Option Relation)) (v t : ℕ) (fresh : List Content) → AreInForce catalog tables brushes contents
    → fresh ≡ map (content_at (catalog_image catalog) (state_over tables (without_brush v t brushes))) (linked (catalog_image catalog) v t)
    → AreInForce catalog tables (without_brush v t brushes) (placed fresh contents)
clear_changes catalog tables brushes contents v t fresh f are =
    changed catalog tables brushes (without_brush v t brushes) contents fresh (linked (catalog_image catalog) v t) f (kept_fit (BrushFits catalog tables) _ brushes f.brushes_fit) (without_one_a_pair v t brushes f.one_a_pair) are
    (λ w low unnamed. clear_leaves (catalog_image catalog) (each_rows tables) v t brushes w unnamed)

-- the views whose contents change are there
views_low : (catalog : CatalogImage) (state : State) (n : ℕ) (ws : List ℕ) → All (λ w. w < n) ws → All (λ (content : Content). content.view < n) (map (content_at catalog state) ws)
views_low catalog state n [] h = All-nil (λ (content : Content). content.view < n)
views_low catalog state n (w ∷ ws) h = All-cons (λ (content : Content). content.view < n) (content_at catalog state w) (map (content_at catalog state) ws) (All-head (λ w. w < n) w ws h) (views_low catalog state n ws (All-tail (λ w. w < n) w ws h))

pub linked_known : (catalog : Catalog) (tables : List Relation) (brushes next : List BrushOn) (contents : List (Option Relation)) (v t : ℕ) (fresh : List Content) → IsCatalog (catalog_image catalog) → AreInForce catalog tables brushes contents
    → fresh ≡ map (content_at (catalog_image catalog) (state_over tables next)) (linked (catalog_image catalog) v t) → All (λ (content : Content). content.view < length contents) fresh
linked_known catalog tables brushes next contents v t fresh checked f are =
    let low : All (λ w. w < length (catalog_image catalog).views) (linked (catalog_image catalog) v t) = linked_low (catalog_image catalog) (length catalog.tables) (length (catalog_image catalog).views) v t checked.typed.links in
    let long : length (catalog_image catalog).views ≡ length contents = views_of catalog ∙ sym (contents_long catalog tables brushes contents f) in
    subst (λ (l : List Content). All (λ (content : Content). content.view < length contents) l) (sym are)
    (views_low (catalog_image catalog) (state_over tables next) (length contents) (linked (catalog_image catalog) v t) (subst (λ (n : ℕ). All (λ w. w < n) (linked (catalog_image catalog) v t)) long low))

-- the end of all brushes
pub none_changes : (catalog : Catalog) (tables : List Relation) (brushes : List BrushOn) (contents : List (Option Relation)) (fresh : List Content) → AreInForce catalog tables brushes contents
    → fresh ≡ map (content_at (catalog_image catalog) (state_over tables [])) (upto (length contents)) → AreInForce catalog tables [] (placed fresh contents)
none_changes catalog tables brushes contents fresh f are =
    changed catalog tables brushes [] contents fresh (upto (length contents)) f (All-nil (BrushFits catalog tables)) none_a_pair are
    (λ w low unnamed. absurd (false≢true (sym unnamed ∙ has_upto (length contents) w (omega (arith, low, views_of catalog, contents_long catalog tables brushes contents f)))))

pub all_known : (catalog : Catalog) (tables : List Relation) (n : ℕ) (fresh : List Content) → fresh ≡ map (content_at (catalog_image catalog) (state_over tables [])) (upto n) → All (λ (content : Content). content.view < n) fresh
all_known catalog tables n fresh are = subst (λ (l : List Content). All (λ (content : Content). content.view < n) l) (sym are) (views_low (catalog_image catalog) (state_over tables []) n (upto n) (upto_below n))
