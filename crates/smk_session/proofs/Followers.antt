-- What is asked of a view that follows brushes, by what is kept of it.
use Rattle.std.proofs.{Common.{◌≡◌, ℕ, ◌+◌, ◌<◌, Bool, true, false, cond, List, [], ◌∷◌, ◌++◌, length, map, get_or, refl, ap, sym, ◌∙◌, subst, arith, Option, Some, None, All, IfSome, Ok, Err}, lemmas.List.length-map}
use Rattle.std.specs.List.{list_any}
use Rattle.smk_base.specs.{CatalogImage.{ViewImage, catalog_image, view_image}, Picks.IsAscending, Places.{IsPlaces, Lists, has, members_at, places}, PlanImage.expr_of, Plans.Expr, Rels.Relation, declared.brush.BrushOn.BrushOn, declared.book.catalog.Catalog.Catalog, declared.book.catalog.ViewInfo.ViewInfo, declared.list.table_rids.Pick.Pick, declared.reply.Refusal.TheVariants.Undeclared, declared.value.Kind.Kind}
use Rattle.smk_model.specs.{Composed.forwards, Catalogs.{IsCatalog, ViewFits, each_table_kinds}, Replies.marks_fwd, Selection.{PickFits, PlanFits, each_kinds, each_rows, leaf_kinds, over, plan_kinds}, Session.{concerns, leaves_now, linked, rows_of_table, selected_for, view_at}, Workload.declares_fwd}
use Rattle.smk_model.proofs.Composed.{lists_stand}
use Rattle.smk_base.proofs.Places.{places_below}
use Rattle.smk_compose.specs.declared.kept_maps.Run.{Run}
use Rattle.smk_session.specs.{Kept.kept_fwd, Answers.{AreOn, brushed_of, chosen_by, counts, picks_brushed, rids_or_all}, Behind.RidsFit, Refreshed.{Names, book_at}, declared.brush.refresh.Refresh.Refresh, Opened.{AreOpened, state_over}, Sessions.BrushFits}
use Rattle.smk_session.proofs.{Rids.rids_ascend, Selected.{chosen_fit, chosen_or_all, in_all, picks_fit, picks_more, picks_same, same_leaves}, KeptOf.kept_fwd_is, Linked.{has_item, linked_declares, linked_low}, OpenedViews.run_is}

-- the lists that are kept of a declared query

abbrev plan_of : Catalog → ℕ → Expr
plan_of catalog v = (view_at (catalog_image catalog) v).plan

pub declared_fwd : (catalog : Catalog) (tables : List Relation) (views : List Run) (w t : ℕ) (run : Run) → AreOpened catalog tables views → w < length catalog.views → t < length catalog.tables → run ≡ get_or views w run
    → declares_fwd (catalog_image catalog) w t ≡ true → kept_fwd run.kept t ≡ Ok (forwards (plan_of catalog w) (each_rows tables) t)
declared_fwd catalog tables views w t run o low_w low_t is declared =
    ap (λ (r : Run). kept_fwd r.kept t) (run_is catalog tables views w run o low_w is)
    ∙ kept_fwd_is (catalog_image catalog) (plan_of catalog w) (each_rows tables) w t low_t
    ∙ ap (λ (b : Bool). cond b (Ok (forwards (plan_of catalog w) (each_rows tables) t)) (Err Undeclared)) declared

-- brushes on a table are on its rows

abbrev rows_count : List Relation → ℕ → ℕ
rows_count tables t = length (rows_of_table (state_over tables []) t)

are_on : (catalog : Catalog) (tables : List Relation) (brushes : List BrushOn) (t : ℕ) → All (BrushFits catalog tables) brushes → AreOn t (rows_count tables t) brushes
are_on catalog tables brushes t fit k d low = λ same. subst (λ n. IsPlaces n (get_or brushes k d).rids) (ap (rows_count tables) same) (fit k d low).rids

-- what is chosen of a table for a view, or for none: its rids, or all
pub selected_is : (catalog : Catalog) (tables : List Relation) (brushes : List BrushOn) (view : Option ℕ) (t : ℕ) (chosen : Option (List ℕ)) → All (BrushFits catalog tables) brushes
    → ((n : ℕ) → AreOn t n brushes → chosen ≡ chosen_by (counts (catalog_image catalog) view t) brushes n)
    → (rids_or_all chosen (rows_count tables t) ≡ places (in_all (counts (catalog_image catalog) view t) brushes) (rows_count tables t)) × IfSome chosen (RidsFit (rows_count tables t))
selected_is catalog tables brushes view t chosen fit made =
    let test = counts (catalog_image catalog) view t in
    let n = rows_count tables t in
    let is = made n (are_on catalog tables brushes t fit) in
    (ap (λ (c : Option (List ℕ)). rids_or_all c n) is ∙ chosen_or_all test brushes n, subst (λ (c : Option (List ℕ)). IfSome c (RidsFit n)) (sym is) (chosen_fit test brushes n))

-- what is chosen under brushes that are on rows of their tables
pub chosen_there : (catalog : Catalog) (tables : List Relation) (brushes : List BrushOn) (w t : ℕ) (chosen : Option (List ℕ)) → All (BrushFits catalog tables) brushes
    → ((n : ℕ) → AreOn t n brushes → chosen ≡ brushed_of (catalog_image catalog) brushes w t n) → chosen ≡ brushed_of (catalog_image catalog) brushes w t (rows_count tables t)
chosen_there catalog tables brushes w t chosen fit made = made (rows_count tables t) (are_on catalog tables brushes t fit)

-- the marks that the selected rows reach

all_long : (catalog : Catalog) (tables : List Relation) (w t : ℕ) (map : Lists) → map ≡ forwards (plan_of catalog w) (each_rows tables) t → length map.lists ≡ rows_count tables t
all_long catalog tables w t map are = ap (λ (m : Lists). length m.lists) are ∙ lists_stand.forwards_long (plan_of catalog w) (each_rows tables) t

chosen_rids : (catalog : Catalog) (tables : List Relation) (brushes : List BrushOn) (w t : ℕ) (map : Lists) (chosen : Option (List ℕ)) → map ≡ forwards (plan_of catalog w) (each_rows tables) t
    → chosen ≡ brushed_of (catalog_image catalog) brushes w t (rows_count tables t) → rids_or_all chosen (length map.lists) ≡ selected_for (catalog_image catalog) (state_over tables brushes) w t
chosen_rids catalog tables brushes w t map chosen are made =
    ap (λ (c : Option (List ℕ)). rids_or_all c (length map.lists)) made
    ∙ ap (rids_or_all (brushed_of (catalog_image catalog) brushes w t (rows_count tables t))) (all_long catalog tables w t map are)
    ∙ chosen_or_all (concerns (catalog_image catalog) w t) brushes (rows_count tables t)

pub chosen_inside : (catalog : Catalog) (tables : List Relation) (brushes : List BrushOn) (w t : ℕ) (map : Lists) (chosen : Option (List ℕ)) → map ≡ forwards (plan_of catalog w) (each_rows tables) t
    → chosen ≡ brushed_of (catalog_image catalog) brushes w t (rows_count tables t) → All (λ rid. rid < length map.lists) (rids_or_all chosen (length map.lists))
chosen_inside catalog tables brushes w t map chosen are made =
    subst (λ (l : List ℕ). All (λ rid. rid < length map.lists) l) (sym (chosen_rids catalog tables brushes w t map chosen are made))
    (subst (λ (n : ℕ). All (λ rid. rid < n) (selected_for (catalog_image catalog) (state_over tables brushes) w t)) (sym (all_long catalog tables w t map are))
    (places_below _ (rows_count tables t)))

pub marks_reached : (catalog : Catalog) (tables : List Relation) (brushes : List BrushOn) (w t : ℕ) (map : Lists) (chosen : Option (List ℕ)) (marks : List ℕ) → map ≡ forwards (plan_of catalog w) (each_rows tables) t
    → chosen ≡ brushed_of (catalog_image catalog) brushes w t (rows_count tables t) → marks ≡ members_at map (rids_or_all chosen (length map.lists))
    → marks ≡ marks_fwd (catalog_image catalog) (state_over tables brushes) w t (selected_for (catalog_image catalog) (state_over tables brushes) w t)
marks_reached catalog tables brushes w t map chosen marks are made reached =
    reached
    ∙ ap (members_at map) (chosen_rids catalog tables brushes w t map chosen are made)
    ∙ ap (λ m. members_at m (selected_for (catalog_image catalog) (state_over tables brushes) w t)) are
    ∙ lists_stand.forward_of (plan_of catalog w) (each_rows tables) (selected_for (catalog_image catalog) (state_over tables brushes) w t) t (places_below _ (rows_count tables t))

-- the leaves of a view over what is picked

tables_of : (tables : List Relation) → length (each_rows tables) ≡ length tables
tables_of tables = length-map tables (λ (r : Relation). r.rows)

leaves_are : (catalog : Catalog) (tables : List Relation) (brushes : List BrushOn) (w : ℕ) (picks : List Pick) → picks ≡ picks_brushed (catalog_image catalog) (state_over tables brushes) w (length tables)
    → over (plan_of catalog w) (each_rows tables) picks ≡ leaves_now (catalog_image catalog) (state_over tables brushes) w
leaves_are catalog tables brushes w picks are =
    ap (over (plan_of catalog w) (each_rows tables)) (are ∙ ap (picks_brushed (catalog_image catalog) (state_over tables brushes) w) (sym (tables_of tables))) ∙ same_leaves (catalog_image catalog) (state_over tables brushes) w

pub picks_known : (catalog : Catalog) (tables : List Relation) (brushes : List BrushOn) (w : ℕ) (picks : List Pick) → picks ≡ picks_brushed (catalog_image catalog) (state_over tables brushes) w (length tables) → All (PickFits (each_rows tables)) picks
picks_known catalog tables brushes w picks are =
    subst (λ (l : List Pick). All (PickFits (each_rows tables)) l) (sym (are ∙ ap (picks_brushed (catalog_image catalog) (state_over tables brushes) w) (sym (tables_of tables))))
    (picks_fit (catalog_image catalog) (state_over tables brushes) w)

-- the content of a view over them

leaves_kinds : (catalog : Catalog) (tables leaves : List Relation) (plan : Expr) → each_kinds tables ≡ each_table_kinds catalog.tables → each_kinds leaves ≡ leaf_kinds plan (each_kinds tables) → each_kinds leaves ≡ leaf_kinds plan (each_table_kinds catalog.tables)
leaves_kinds catalog tables leaves plan kinds of = of ∙ ap (leaf_kinds plan) kinds

pub leaves_fit : (catalog : Catalog) (tables leaves : List Relation) (view : ViewInfo) → each_kinds tables ≡ each_table_kinds catalog.tables → ViewFits catalog.tables (view_image view) → each_kinds leaves ≡ leaf_kinds (expr_of view.plan) (each_kinds tables)
    → PlanFits (expr_of view.plan) (each_kinds leaves)
leaves_fit catalog tables leaves view kinds fits of = subst (λ (K : List (List Kind)). PlanFits (expr_of view.plan) K) (sym (leaves_kinds catalog tables leaves (expr_of view.plan) kinds of)) fits.fits

pub leaves_over : (catalog : Catalog) (tables : List Relation) (brushes : List BrushOn) (w : ℕ) (picks : List Pick) (view : ViewInfo) → view_image view ≡ view_at (catalog_image catalog) w
    → picks ≡ picks_brushed (catalog_image catalog) (state_over tables brushes) w (length tables) → over (expr_of view.plan) (each_rows tables) picks ≡ leaves_now (catalog_image catalog) (state_over tables brushes) w
leaves_over catalog tables brushes w picks view is are = ap (λ (v : ViewImage). over v.plan (each_rows tables) picks) is ∙ leaves_are catalog tables brushes w picks are

pub view_kinds : (catalog : Catalog) (tables leaves : List Relation) (w : ℕ) (view : ViewInfo) → each_kinds tables ≡ each_table_kinds catalog.tables → view_image view ≡ view_at (catalog_image catalog) w → ViewFits catalog.tables (view_image view)
    → each_kinds leaves ≡ leaf_kinds (expr_of view.plan) (each_kinds tables) → plan_kinds (expr_of view.plan) (each_kinds leaves) ≡ (view_at (catalog_image catalog) w).kinds
view_kinds catalog tables leaves w view kinds is fits of = ap (plan_kinds (expr_of view.plan)) (leaves_kinds catalog tables leaves (expr_of view.plan) kinds of) ∙ fits.kinds ∙ ap (λ (v : ViewImage). v.kinds) is

-- one pick more

pub rids_rise : (catalog : Catalog) (tables : List Relation) (brushes : List BrushOn) → All (BrushFits catalog tables) brushes → All (λ (b : BrushOn). IsAscending b.rids) brushes
rids_rise catalog tables brushes fit k d low = rids_ascend (rows_count tables (get_or brushes k d).table) (get_or brushes k d).rids (fit k d low).rids

some_is : {X : Type 0} (b : Bool) (x y : X) → cond b (Some x) None ≡ Some y → (b ≡ true) × (y ≡ x)
some_is true x y h = (refl, cc)
some_is false x y h = absurd (cc)

none_is : {X : Type 0} (b : Bool) (x : X) → cond b (Some x) None ≡ None → b ≡ false
none_is true x h = absurd (cc)
none_is false x h = refl

abbrev pick_with : ℕ → List ℕ → Pick
pick_with t rids = record { table = t; rids = rids }

pub pick_more : (catalog : Catalog) (tables : List Relation) (brushes : List BrushOn) (w t : ℕ) (chosen : Option (List ℕ)) (rids : List ℕ) (picks : List Pick) → All (BrushFits catalog tables) brushes
    → ((n : ℕ) → AreOn t n brushes → chosen ≡ brushed_of (catalog_image catalog) brushes w t n) → chosen ≡ Some rids
    → picks ≡ picks_brushed (catalog_image catalog) (state_over tables brushes) w t → picks ++ pick_with t rids ∷ [] ≡ picks_brushed (catalog_image catalog) (state_over tables brushes) w (t + 1)
pick_more catalog tables brushes w t chosen rids picks fit made some are =
    let p = some_is (list_any (concerns (catalog_image catalog) w t) brushes) _ rids (sym (chosen_there catalog tables brushes w t chosen fit made) ∙ some) in
    ap (λ l. l ++ pick_with t rids ∷ []) are
    ∙ ap (λ r. picks_brushed (catalog_image catalog) (state_over tables brushes) w t ++ pick_with t r ∷ []) p.1
    ∙ sym (picks_more (catalog_image catalog) (state_over tables brushes) w t p.0)

pub pick_none : (catalog : Catalog) (tables : List Relation) (brushes : List BrushOn) (w t : ℕ) (chosen : Option (List ℕ)) (picks : List Pick) → All (BrushFits catalog tables) brushes
    → ((n : ℕ) → AreOn t n brushes → chosen ≡ brushed_of (catalog_image catalog) brushes w t n) → chosen ≡ None
    → picks ≡ picks_brushed (catalog_image catalog) (state_over tables brushes) w t → picks ≡ picks_brushed (catalog_image catalog) (state_over tables brushes) w (t + 1)
pick_none catalog tables brushes w t chosen picks fit made none are =
    are ∙ sym (picks_same (catalog_image catalog) (state_over tables brushes) w t (none_is (list_any (concerns (catalog_image catalog) w t) brushes) _ (sym (chosen_there catalog tables brushes w t chosen fit made) ∙ none)))

-- the views that links name

pub all_named : (refresh : Refresh) (v : ℕ) (ws : List ℕ) → IsCatalog (book_at refresh) → ws ≡ linked (book_at refresh) v refresh.table → Names refresh ws
all_named refresh v ws checked are k d low =
    let catalog : Catalog = refresh.held.now.catalog.now in
    let all : All (λ w. w < length (catalog_image catalog).views) ws = subst (λ (l : List ℕ). All (λ w. w < length (catalog_image catalog).views) l) (sym are) (linked_low (catalog_image catalog) (length catalog.tables) (length (catalog_image catalog).views) v refresh.table checked.typed.links) in
    record {
      view = omega (arith, all k d low, length-map catalog.views view_image);
      declared = linked_declares (catalog_image catalog) v refresh.table (get_or ws k d) (ap (λ (l : List ℕ). has l (get_or ws k d)) (sym are) ∙ has_item ws k d low);
    }
