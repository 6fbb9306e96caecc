-- What is made of a view from what is kept of it shows its content.
use Rattle.std.proofs.{Common.{◌≡◌, ℕ, ◌<◌, ◌≤◌, Bool, true, false, inl, inr, List, [], ◌∷◌, length, map, get_or, refl, ap, sym, ◌∙◌, subst, arith, nat_eq, Option, Some, None, option_map, All, find}, lemmas.Bool.cases_Bool, lemmas.List.{get_or-map, length-map}}
use Rattle.std.specs.List.{filter, list_any}
use Rattle.smk_base.specs.{CatalogImage.{CatalogImage, ViewImage, view_image}, Places.{Lists, places, upto}, PlanImage.expr_of, Plans.{Expr, Leaf, Apply, Combine}, Rels.Relation, declared.book.catalog.Catalog.Catalog, declared.book.catalog.ViewInfo.ViewInfo, declared.list.table_rids.Pick.Pick, declared.value.Kind.Kind}
use Rattle.smk_model.specs.{Catalogs.{ViewFits, each_table_kinds}, Composed.forwards, Lineage.{row_at, sub}, LineageLaws.selected_table, Plain.{eval, rows_over, table_at}, Replies.content_of, Selection.{PlanFits, ScansFit, each_rows, first_full, leaf_kinds, over, picked, plan_kinds, rows_in}, Session.{State, concerns, leaves_now, no_view, picks_for, selected_for, view_at}, Values.Row}
use Rattle.smk_model.proofs.{Composed.lists_stand, Selections.filter-true}
use Rattle.smk_base.proofs.Places.{length_upto, map_upto, places_below, few_places}
use Rattle.smk_body.proofs.Besides.{related}
use Rattle.smk_compose.specs.declared.kept_maps.Run.{Run}
use Rattle.smk_marks.specs.{KeptLaws.{IsKeptOf, IsReachedBy}, Marks.marks_at, Views.{CanGroup, EndsInGroups, grouped_by_marks, plan_of, rows_reached}, declared.reached.Reached.Reached, declared.view.KeptView.KeptView}
use Rattle.smk_marks.proofs.{Chains.chain_picks, Kept.kept_marks, Marked.few_kept, Small.never_full}
use Rattle.smk_session.specs.{Answers.{IsLent, book_of, brushed_of, pick_for}, Refreshed.{IsBrushed, IsKept, IsRefresh, Shows, book_at, looks_now, state_next}, declared.lent.Lent.Lent, declared.brush.refresh.Refresh.Refresh}
use Rattle.smk_session.proofs.{Followers.chosen_there, KeptOf.{find_mapped, found}, OpenedViews.{run_is, tables_long}, Selected.whole_where, Shown.{none_is, some_is}}

-- the table of a plan that scans tables that are there
pub scanned_low : (n : ℕ) (plan : Expr) → ScansFit n plan → selected_table plan < n
scanned_low n (Leaf table) scans = scans
scanned_low n (Apply op input) scans = scanned_low n input scans
scanned_low n (Combine op left right) scans = scanned_low n left scans.0

-- all rows of a pick of each of the first n tables
pub picked_now : (catalog : CatalogImage) (state : State) (w t : ℕ) → t < length state.tables → picked (picks_for catalog state w) t ≡ Some (selected_for catalog state w t)
picked_now catalog state w t low =
    let n : ℕ = length state.tables in
    ap (option_map (λ (pick : Pick). pick.rids)) (find_mapped (λ (pick : Pick). nat_eq pick.table t) (pick_for catalog state w) (upto n))
    ∙ ap (λ (ts : List ℕ). option_map (λ (pick : Pick). pick.rids) (option_map (pick_for catalog state w) (find (λ i. nat_eq i t) ts))) (sym (filter-true (upto n)))
    ∙ ap (λ (o : Option ℕ). option_map (λ (pick : Pick). pick.rids) (option_map (pick_for catalog state w) o)) (found (λ i. true) n t low)

-- where as many places are kept as there are, all are
all_pass : (q : ℕ → Bool) (xs : List ℕ) → length xs ≤ length (filter q xs) → filter q xs ≡ xs
all_pass q [] h = refl
all_pass q (x ∷ xs) h = elim (cases_Bool (q x)) [
  | inl p ↦ rw p (ap (λ l. x ∷ l) (all_pass q xs (omega (arith, rw p at h))))
  | inr p ↦ absurd (omega (arith, few_kept q xs, rw p at h))
]

full_places : (q : ℕ → Bool) (n : ℕ) → n ≤ length (places q n) → places q n ≡ upto n
full_places q n h = all_pass q (upto n) (omega (arith, h, length_upto n))

one_leaf : (L : List Row) → rows_in (L ∷ []) ≡ length L
one_leaf L = omega arith

-- what is kept of a view, over its table
pub record IsThere (refresh : Refresh) (w : ℕ) (view : KeptView) (table : Relation) : Type 0 where
  pub is : IsRefresh refresh
  pub low : w < length refresh.held.now.catalog.now.views
  pub kept : IsKept refresh.held.now w view
  pub at : table ≡ get_or refresh.held.now.tables.now (selected_table (expr_of view.plan.chain.now)) table

module _ (refresh : Refresh) (w : ℕ) (view : KeptView) (table : Relation) (there : IsThere refresh w view table) where
  abbrev catalog : Catalog
  catalog = refresh.held.now.catalog.now

  abbrev tables : List Relation
  tables = refresh.held.now.tables.now

  abbrev plan : Expr
  plan = (view_at (book_at refresh) w).plan

  abbrev chain : Expr
  chain = expr_of view.plan.chain.now

  abbrev t : ℕ
  t = selected_table chain

  abbrev S : List ℕ
  S = selected_for (book_at refresh) (state_next refresh) w t

  fits : ViewFits catalog.tables (view_at (book_at refresh) w)
  fits = there.is.held.opened.checked.typed.views w no_view (omega (arith, there.low, length-map catalog.views view_image))

  pub table_low : t < length tables
  table_low =
      let known : t < length catalog.tables = subst (λ (p : Expr). selected_table p < length catalog.tables) there.kept.plan.plan_is (scanned_low (length catalog.tables) plan fits.scans) in
      omega (arith, known, tables_long catalog tables there.is.held.opened.kinds)

  pub rows_are : table.rows ≡ table_at (each_rows tables) t
  rows_are = ap (λ (r : Relation). r.rows) there.at ∙ sym (get_or-map (λ (r : Relation). r.rows) tables t table [] table_low)

  kinds_are : leaf_kinds plan (each_table_kinds catalog.tables) ≡ table.kinds ∷ []
  kinds_are =
      ap (λ (p : Expr). leaf_kinds p (each_table_kinds catalog.tables)) there.kept.plan.plan_is
      ∙ ap (map (λ s. get_or (each_table_kinds catalog.tables) s [])) (chain_picks.scans chain there.kept.plan.chain)
      ∙ ap (λ (K : List (List Kind)). get_or K t [] ∷ []) (sym there.is.held.opened.kinds)
      ∙ ap (λ (k : List Kind). k ∷ []) (get_or-map (λ (r : Relation). r.kinds) tables t table [] table_low ∙ sym (ap (λ (r : Relation). r.kinds) there.at))

  kinds_now : (view_at (book_at refresh) w).kinds ≡ plan_kinds (plan_of view.plan) (table.kinds ∷ [])
  kinds_now = sym fits.kinds ∙ ap (plan_kinds plan) kinds_are ∙ ap (λ (p : Expr). plan_kinds p (table.kinds ∷ [])) there.kept.plan.plan_is

  pub kept_of : IsKeptOf view table (each_rows tables)
  kept_of = record {
    chain = there.kept.plan.chain;
    fits = subst (λ (p : Expr). PlanFits p (table.kinds ∷ [])) there.kept.plan.plan_is (subst (λ (K : List (List Kind)). PlanFits plan K) kinds_are fits.fits);
    rows = rows_are;
    content = ap (λ (r : Relation). r.rows) there.kept.content ∙ ap (λ (p : Expr). rows_over p (each_rows tables)) there.kept.plan.plan_is;
    kinds = ap (λ (r : Relation). r.kinds) there.kept.content ∙ kinds_now;
    forward = there.kept.forward ∙ ap (λ (p : Expr). forwards p (each_rows tables) (selected_table p)) there.kept.plan.plan_is;
  }

  -- the rows selected for the view
  leaves_are : leaves_now (book_at refresh) (state_next refresh) w ≡ sub table.rows S ∷ []
  leaves_are =
      ap (λ (p : Expr). over p (each_rows tables) (picks_for (book_at refresh) (state_next refresh) w)) there.kept.plan.plan_is
      ∙ chain_picks.over_picked chain (each_rows tables) (picks_for (book_at refresh) (state_next refresh) w) S there.kept.plan.chain
      (picked_now (book_at refresh) (state_next refresh) w t (omega (arith, table_low, length-map tables (λ (r : Relation). r.rows))))
      ∙ ap (λ (L : List Row). sub L S ∷ []) (sym rows_are)

  few_there : length S ≤ length (table_at (each_rows tables) t)
  few_there = few_places _ (length (table_at (each_rows tables) t))

  few_selected : length S ≤ length table.rows
  few_selected = omega (arith, few_there, ap length rows_are)

  pub looks_are : looks_now refresh w ≡ length S
  looks_are = ap rows_in leaves_are ∙ one_leaf (sub table.rows S) ∙ length-map S (row_at table.rows)

  abbrev made_of : List Row → Relation
  made_of L = record { kinds = plan_kinds (plan_of view.plan) (table.kinds ∷ []); rows = eval (plan_of view.plan) (L ∷ []) }

  content_is : made_of (sub table.rows S) ≡ content_of (book_at refresh) (state_next refresh) w
  content_is =
      related (sym kinds_now)
      (sym (ap (eval plan) leaves_are ∙ ap (λ (p : Expr). eval p (sub table.rows S ∷ [])) there.kept.plan.plan_is))

  never : length table.rows ≤ 1048576 → first_full plan (leaves_now (book_at refresh) (state_next refresh) w) ≡ None
  never small =
      ap (first_full plan) leaves_are ∙ ap (λ (p : Expr). first_full p (sub table.rows S ∷ [])) there.kept.plan.plan_is
      ∙ never_full view.plan.keys.now view.plan.aggs.now chain (sub table.rows S) there.kept.plan.chain (omega (arith, small, few_selected, length-map S (row_at table.rows)))

  -- the rids that are chosen
  pub chosen_are : (chosen : Option (List ℕ)) (rids : List ℕ) → chosen ≡ brushed_of (book_at refresh) refresh.brushes.now w t (length (table_at (each_rows tables) t)) → chosen ≡ Some rids → rids ≡ S
  chosen_are chosen rids made some = some_is (list_any (concerns (book_at refresh) w t) refresh.brushes.now) rids S (sym some ∙ made)

  pub chosen_low : All (λ rid. rid < length table.rows) S
  chosen_low = subst (λ (n : ℕ). All (λ rid. rid < n) S) (sym (ap length rows_are)) (places_below _ (length (table_at (each_rows tables) t)))

  pub chosen_few : length table.rows ≤ 1048576 → length S ≤ 1048576
  chosen_few small = omega (arith, small, few_selected)

  rids_low : All (λ rid. rid < length (table_at (each_rows tables) t)) S
  rids_low = places_below _ (length (table_at (each_rows tables) t))

  pub lists_long : length view.forward.now.lists ≡ length table.rows
  lists_long = ap (λ (m : Lists). length m.lists) there.kept.forward ∙ lists_stand.forwards_long plan (each_rows tables) (selected_table plan)
      ∙ ap (λ (p : Expr). length (table_at (each_rows tables) (selected_table p))) there.kept.plan.plan_is ∙ sym (ap length rows_are)

  reached_by : (reached : Reached) → length table.rows ≤ 1048576 → reached.marks ≡ marks_at view.forward.now S → reached.rows ≡ rows_reached view table S → IsReachedBy view table S reached
  reached_by reached small marks rows = record { few = chosen_few small; marks = marks; rows = rows }

  pub marks_shown : (reached : Reached) → length table.rows ≤ 1048576 → reached.marks ≡ marks_at view.forward.now S → reached.rows ≡ rows_reached view table S → Shows refresh w (grouped_by_marks view reached)
  marks_shown reached small marks rows = record {
    content = kept_marks.made view table (each_rows tables) S reached kept_of (reached_by reached small marks rows) rids_low ∙ content_is;
    few = never small;
  }

  pub marks_ready : (reached : Reached) → length table.rows ≤ 1048576 → reached.marks ≡ marks_at view.forward.now S → reached.rows ≡ rows_reached view table S → CanGroup view reached
  marks_ready reached small marks rows = kept_marks.ready view table (each_rows tables) S reached kept_of (reached_by reached small marks rows) rids_low

  -- all rows, where no brush concerns the view
  pub all_rows : list_any (concerns (book_at refresh) w t) refresh.brushes.now ≡ false → sub table.rows S ≡ table.rows
  all_rows alone = ap (λ (L : List Row). sub L S) rows_are ∙ whole_where (book_at refresh) (state_next refresh) w t alone ∙ sym rows_are

  -- or where all are selected
  pub full_rows : length table.rows ≤ length S → sub table.rows S ≡ table.rows
  full_rows all =
      let L = table_at (each_rows tables) t in
      let full : S ≡ upto (length L) = full_places _ (length L) (omega (arith, all, ap length rows_are)) in
      ap (λ (K : List Row). sub K S) rows_are ∙ ap (sub L) full ∙ map_upto L [] ∙ sym rows_are

  pub first_shown : length table.rows ≤ 1048576 → sub table.rows S ≡ table.rows → Shows refresh w view.content.now
  first_shown small all = record {
    content =
        related kept_of.kinds
        (kept_of.content ∙ ap (λ (ts : List ℕ). eval (plan_of view.plan) (map (table_at (each_rows tables)) ts)) (chain_picks.scans chain there.kept.plan.chain)
        ∙ ap (λ (L : List Row). eval (plan_of view.plan) (L ∷ [])) (sym rows_are ∙ sym all))
        ∙ content_is;
    few = never small;
  }

-- the kept parts of a view are what it gives

pub view_kept : (held : Lent) (w t : ℕ) (run : Run) (info : ViewInfo) (view : KeptView) → IsLent held → w < length held.catalog.now.views → run ≡ get_or held.views.now w run → view_image info ≡ view_at (book_of held) w
    → EndsInGroups (expr_of info.plan) view.plan → view.content.now ≡ run.rel → t ≡ selected_table (expr_of view.plan.chain.now) → view.forward.now ≡ forwards (view_at (book_of held) w).plan (each_rows held.tables.now) t → IsKept held w view
view_kept held w t run info view h low is named ends content same fwd =
    let plan = (view_at (book_of held) w).plan in
    let here : EndsInGroups plan view.plan = subst (λ (p : Expr). EndsInGroups p view.plan) (ap (λ (v : ViewImage). v.plan) named) ends in
    record {
      plan = here;
      content = content ∙ ap (λ (r : Run). r.rel) (run_is held.catalog.now held.tables.now held.views.now w run h.opened low is);
      forward = fwd ∙ ap (forwards plan (each_rows held.tables.now)) (same ∙ sym (ap selected_table here.plan_is));
    }

-- what is chosen of the table of such a view
pub record IsReached (refresh : Refresh) (w : ℕ) (view : KeptView) (table : Relation) (chosen : Option (List ℕ)) : Type 0 where
  pub there : IsThere refresh w view table
  pub small : length table.rows ≤ 1048576
  pub chosen_is : chosen ≡ brushed_of (book_at refresh) refresh.brushes.now w (selected_table (expr_of view.plan.chain.now)) (length (table_at (each_rows refresh.held.now.tables.now) (selected_table (expr_of view.plan.chain.now))))

module _ {refresh : Refresh} {w : ℕ} {view : KeptView} (is : IsRefresh refresh) (low : w < length refresh.held.now.catalog.now.views) (kept : IsKept refresh.held.now w view)
    (same : refresh.table ≡ selected_table (expr_of view.plan.chain.now)) where
  abbrev s : ℕ
  s = selected_table (expr_of view.plan.chain.now)

  abbrev tables_held : List Relation
  tables_held = refresh.held.now.tables.now

  pub table_there : refresh.table < length tables_held
  table_there =
      let catalog = refresh.held.now.catalog.now in
      let fits = is.held.opened.checked.typed.views w no_view (omega (arith, low, length-map catalog.views view_image)) in
      let known : s < length catalog.tables = subst (λ (p : Expr). selected_table p < length catalog.tables) kept.plan.plan_is (scanned_low (length catalog.tables) (view_at (book_at refresh) w).plan fits.scans) in
      omega (arith, known, same, tables_long catalog tables_held is.held.opened.kinds)

  pub reached_by_chosen : {table : Relation} {chosen : Option (List ℕ)} → IsBrushed refresh w chosen → table ≡ get_or tables_held refresh.table table → length (get_or tables_held refresh.table table).rows ≤ 1048576 → IsReached refresh w view (get_or tables_held refresh.table table) chosen
  reached_by_chosen {table} {chosen} made at small = record {
    there = record { is = is; low = low; kept = kept; at = ap (get_or tables_held refresh.table) at ∙ ap (λ i. get_or tables_held i (get_or tables_held refresh.table table)) same };
    small = small;
    chosen_is =
        subst (λ (i : ℕ). chosen ≡ brushed_of (book_at refresh) refresh.brushes.now w i (length (table_at (each_rows tables_held) i))) same
        (chosen_there refresh.held.now.catalog.now tables_held refresh.brushes.now w refresh.table chosen is.fit made);
  }

module _ {refresh : Refresh} {w : ℕ} {view : KeptView} {table : Relation} {chosen : Option (List ℕ)} (h : IsReached refresh w view table chosen) where
  rids_are : (rids : List ℕ) → chosen ≡ Some rids → selected_for (book_at refresh) (state_next refresh) w (selected_table (expr_of view.plan.chain.now)) ≡ rids
  rids_are rids some = sym (chosen_are refresh w view table h.there chosen rids h.chosen_is some)

  pub rids_inside : (rids : List ℕ) → chosen ≡ Some rids → All (λ rid. rid < length table.rows) rids
  rids_inside rids some = subst (λ (l : List ℕ). All (λ rid. rid < length table.rows) l) (rids_are rids some) (chosen_low refresh w view table h.there)

  pub rids_few : (rids : List ℕ) → chosen ≡ Some rids → length rids ≤ 1048576
  rids_few rids some = subst (λ (l : List ℕ). length l ≤ 1048576) (rids_are rids some) (chosen_few refresh w view table h.there h.small)

  pub fwd_long : length view.forward.now.lists ≡ length table.rows
  fwd_long = lists_long refresh w view table h.there

  pub rids_looks : (rids : List ℕ) → chosen ≡ Some rids → looks_now refresh w ≡ length rids
  rids_looks rids some = looks_are refresh w view table h.there ∙ ap length (rids_are rids some)

  pub rids_shown : (rids : List ℕ) (reached : Reached) → chosen ≡ Some rids → reached.marks ≡ marks_at view.forward.now rids → reached.rows ≡ rows_reached view table rids → Shows refresh w (grouped_by_marks view reached)
  rids_shown rids reached some marks rows =
      marks_shown refresh w view table h.there reached h.small (marks ∙ ap (marks_at view.forward.now) (sym (rids_are rids some))) (rows ∙ ap (rows_reached view table) (sym (rids_are rids some)))

  pub rids_ready : (rids : List ℕ) (reached : Reached) → chosen ≡ Some rids → reached.marks ≡ marks_at view.forward.now rids → reached.rows ≡ rows_reached view table rids → CanGroup view reached
  rids_ready rids reached some marks rows =
      marks_ready refresh w view table h.there reached h.small (marks ∙ ap (marks_at view.forward.now) (sym (rids_are rids some))) (rows ∙ ap (rows_reached view table) (sym (rids_are rids some)))

  pub whole_shown : chosen ≡ None → Shows refresh w view.content.now
  whole_shown none =
      let alone = none_is (list_any (concerns (book_at refresh) w (selected_table (expr_of view.plan.chain.now))) refresh.brushes.now) (selected_for (book_at refresh) (state_next refresh) w (selected_table (expr_of view.plan.chain.now))) (sym none ∙ h.chosen_is) in
      first_shown refresh w view table h.there h.small (all_rows refresh w view table h.there alone)

  pub full_shown : (rids : List ℕ) → chosen ≡ Some rids → length table.rows ≤ length rids → Shows refresh w view.content.now
  full_shown rids some all = first_shown refresh w view table h.there h.small (full_rows refresh w view table h.there (omega (arith, all, ap length (rids_are rids some))))
