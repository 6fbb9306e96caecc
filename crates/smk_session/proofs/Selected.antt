-- The rids that brushes select of a table for a view, brush by brush, and the leaves over the picks of them.
use Rattle.std.proofs.{Common.{◌≡◌, ℕ, ◌+◌, ◌<◌, Bool, true, false, ◌&&◌, ◌||◌, cond, List, [], ◌∷◌, ◌++◌, length, map, take, get_or, refl, ap, sym, ◌∙◌, subst, arith, nat_eq, suc, Option, Some, None, option_map, All, IfSome, inl, inr, find}, lemmas.Bool.{cases_Bool, cases_lt, eqb-true}, lemmas.List.{map-append, take_more}, lemmas.List.Elements.{All-nil, All-cons, All-head, All-tail, filter-append}, lemmas.List.Folds.list_any_more}
use Rattle.std.specs.List.{filter, list_all, list_any}
use Rattle.smk_base.specs.{CatalogImage.CatalogImage, Picks.{ArePicks, IsAscending}, Places.{IsPlaces, has, places, upto}, declared.brush.BrushOn.BrushOn, declared.list.table_rids.Pick.Pick}
use Rattle.smk_model.specs.{Values.Row, Lineage.sub, Plain.{leaves, table_at}, Selection.{PickFits, kept_rows, over, picked, selected}, Session.{State, concerns, leaves_now, picks_for, rows_of_table, selected_for, view_at}}
use Rattle.smk_base.proofs.Places.{filter_filter, places_below, same_below}
use Rattle.smk_model.proofs.{Replies.whole_sub, Selections.filter-true, Anys.or_false, Keyed.none_pass}
use Rattle.smk_session.specs.{Answers.{AreOn, chosen_by, counts, narrowed_by, pick_for, picks_brushed, rids_or_all}, Behind.RidsFit}
use Rattle.smk_session.proofs.{InForce.put_last, KeptOf.{find_mapped, found, past}, Rids.{filter_ascends, places_ascend}}

-- the rids of all brushes that pass a test

abbrev pub in_all : (BrushOn → Bool) → List BrushOn → ℕ → Bool
in_all test brushes rid = list_all (λ (brush : BrushOn). has brush.rids rid) (filter test brushes)

all_of_more : (test : BrushOn → Bool) (brushes : List BrushOn) (brush : BrushOn) (rid : ℕ) → in_all test (brushes ++ brush ∷ []) rid ≡ (in_all test brushes rid && cond (test brush) (has brush.rids rid) true)
all_of_more test [] brush rid = elim (cases_Bool (test brush)) [
  | inl h ↦ rw h (and_true (has brush.rids rid))
  | inr h ↦ rw h refl
]
  where
    and_true : (b : Bool) → (b && true) ≡ b
    and_true true = refl
    and_true false = refl
all_of_more test (b ∷ bs) brush rid = elim (cases_Bool (test b)) [
  | inl h ↦ rw h (elim (cases_Bool (has b.rids rid)) [ inl e ↦ rw e (all_of_more test bs brush rid) | inr e ↦ rw e refl ])
  | inr h ↦ rw h (all_of_more test bs brush rid)
]

narrowed_is : (test : BrushOn → Bool) (brushes : List BrushOn) (brush : BrushOn) (n : ℕ) → test brush ≡ true → IsPlaces n brush.rids
    → narrowed_by (chosen_by test brushes n) brush.rids ≡ places (in_all test (brushes ++ brush ∷ [])) n
narrowed_is test brushes brush n is are = elim (cases_Bool (list_any test brushes)) [
  | inl h ↦ rw h (filter_filter (has brush.rids) (in_all test brushes) (upto n) ∙ same_below _ _ n (λ rid low. sym (more rid)))
  | inr h ↦ rw h (sym are ∙ same_below _ _ n (λ rid low. sym (more rid ∙ ap (λ (l : List BrushOn). list_all (λ (b : BrushOn). has b.rids rid) l && has brush.rids rid) (none_pass test brushes h))))
]
  where
    more : (rid : ℕ) → in_all test (brushes ++ brush ∷ []) rid ≡ (in_all test brushes rid && has brush.rids rid)
    more rid = all_of_more test brushes brush rid ∙ ap (λ b. in_all test brushes rid && cond b (has brush.rids rid) true) is

or_true : (b : Bool) → (b || true) ≡ true
or_true true = refl
or_true false = refl

-- one brush more, as a loop over brushes meets it

pub chosen_more : (test : BrushOn → Bool) (brushes : List BrushOn) (i n : ℕ) (brush : BrushOn) → i < length brushes → brush ≡ get_or brushes i brush → test brush ≡ true → IsPlaces n brush.rids
    → Some (narrowed_by (chosen_by test (take i brushes) n) brush.rids) ≡ chosen_by test (take (i + 1) brushes) n
chosen_more test brushes i n brush low at is are =
    let longer : take (i + 1) brushes ≡ take i brushes ++ brush ∷ [] = take_more brushes i brush low ∙ ap (λ b. take i brushes ++ b ∷ []) (sym at) in
    let some : list_any test (take (i + 1) brushes) ≡ true = list_any_more test brushes i brush low ∙ ap (λ b. list_any test (take i brushes) || test b) (sym at) ∙ ap (λ b. list_any test (take i brushes) || b) is ∙ or_true (list_any test (take i brushes)) in
    ap Some (narrowed_is test (take i brushes) brush n is are ∙ ap (λ (l : List BrushOn). places (in_all test l) n) (sym longer)) ∙ sym (ap (λ b. cond b (Some (places (in_all test (take (i + 1) brushes)) n)) None) some)

pub chosen_same : (test : BrushOn → Bool) (brushes : List BrushOn) (i n : ℕ) (brush : BrushOn) → i < length brushes → brush ≡ get_or brushes i brush → test brush ≡ false
    → chosen_by test (take i brushes) n ≡ chosen_by test (take (i + 1) brushes) n
chosen_same test brushes i n brush low at is =
    let longer : take (i + 1) brushes ≡ take i brushes ++ brush ∷ [] = take_more brushes i brush low ∙ ap (λ b. take i brushes ++ b ∷ []) (sym at) in
    let kept : filter test (take (i + 1) brushes) ≡ filter test (take i brushes) = ap (filter test) longer ∙ put_last test (take i brushes) brush is in
    let any : list_any test (take (i + 1) brushes) ≡ list_any test (take i brushes) = list_any_more test brushes i brush low ∙ ap (λ b. list_any test (take i brushes) || test b) (sym at) ∙ ap (λ b. list_any test (take i brushes) || b) is ∙ or_false (list_any test (take i brushes)) in
    ap (λ (l : List BrushOn). cond (list_any test (take i brushes)) (Some (places (λ rid. list_all (λ (b : BrushOn). has b.rids rid) l) n)) None) (sym kept)
    ∙ ap (λ b. cond b (Some (places (in_all test (take (i + 1) brushes)) n)) None) (sym any)

-- tests that agree on all brushes choose the same rids

any_alike : (f g : BrushOn → Bool) (brushes : List BrushOn) → All (λ brush. f brush ≡ g brush) brushes → list_any f brushes ≡ list_any g brushes
any_alike f g [] h = refl
any_alike f g (b ∷ bs) h = rw (h 0 b (omega arith), any_alike f g bs (λ k d low. h (suc k) d (omega arith))) refl

filter_alike : (f g : BrushOn → Bool) (brushes : List BrushOn) → All (λ brush. f brush ≡ g brush) brushes → filter f brushes ≡ filter g brushes
filter_alike f g [] h = refl
filter_alike f g (b ∷ bs) h = rw (h 0 b (omega arith), filter_alike f g bs (λ k d low. h (suc k) d (omega arith))) refl

pub chosen_alike : (f g : BrushOn → Bool) (brushes : List BrushOn) (n : ℕ) → All (λ brush. f brush ≡ g brush) brushes → chosen_by f brushes n ≡ chosen_by g brushes n
chosen_alike f g brushes n h =
    rw (any_alike f g brushes h) (ap (λ (l : List BrushOn). cond (list_any g brushes) (Some (places (λ rid. list_all (λ (b : BrushOn). has b.rids rid) l) n)) None) (filter_alike f g brushes h))

-- what is chosen so far is ascending, and stays so
pub narrowed_ascends : (chosen : Option (List ℕ)) (rids : List ℕ) → IfSome chosen IsAscending → IsAscending rids → IsAscending (narrowed_by chosen rids)
narrowed_ascends (Some chosen) rids rises up = filter_ascends (has rids) chosen rises
narrowed_ascends None rids rises up = up

first_of : (a b : Bool) → (a && b) ≡ true → a ≡ true
first_of true b h = refl
first_of false b h = h

-- a brush that counts on a table is on rids of it
on_it : (catalog : CatalogImage) (view : Option ℕ) (t : ℕ) (brush : BrushOn) → counts catalog view t brush ≡ true → nat_eq brush.table t ≡ true
on_it catalog (Some w) t brush on = first_of (nat_eq brush.table t) _ on
on_it catalog None t brush on = on

pub on_table : (catalog : CatalogImage) (view : Option ℕ) (t i n : ℕ) (brushes : List BrushOn) (brush : BrushOn) → i < length brushes → brush ≡ get_or brushes i brush → AreOn t n brushes → counts catalog view t brush ≡ true → IsPlaces n brush.rids
on_table catalog view t i n brushes brush low is are on =
    let here : brush.table ≡ t → IsPlaces n brush.rids = subst (λ (b : BrushOn). b.table ≡ t → IsPlaces n b.rids) (sym is) (are i brush low) in
    here (eqb-true brush.table t (on_it catalog view t brush on))

-- the rows selected: those chosen, or all

pub chosen_or_all : (test : BrushOn → Bool) (brushes : List BrushOn) (n : ℕ) → rids_or_all (chosen_by test brushes n) n ≡ places (in_all test brushes) n
chosen_or_all test brushes n = elim (cases_Bool (list_any test brushes)) [
  | inl h ↦ rw h refl
  | inr h ↦ rw h (sym (filter-true (upto n)) ∙ ap (λ (l : List BrushOn). places (λ rid. list_all (λ (b : BrushOn). has b.rids rid) l) n) (sym (none_pass test brushes h)))
]

pub chosen_fit : (test : BrushOn → Bool) (brushes : List BrushOn) (n : ℕ) → IfSome (chosen_by test brushes n) (RidsFit n)
chosen_fit test brushes n = elim (cases_Bool (list_any test brushes)) [
  | inl h ↦ rw h (record { ascending = places_ascend (in_all test brushes) n; inside = places_below (in_all test brushes) n })
  | inr h ↦ rw h tt
]

-- the picks

abbrev is_picked : CatalogImage → State → ℕ → ℕ → Bool
is_picked catalog state w t = list_any (concerns catalog w t) state.brushes

all_map : {X Y : Type 0} (P : Y → Type 0) (f : X → Y) (xs : List X) → ((x : X) → P (f x)) → All P (map f xs)
all_map P f [] h = All-nil P
all_map P f (x ∷ xs) h = All-cons P (f x) (map f xs) (h x) (all_map P f xs h)

tables_of : (catalog : CatalogImage) (state : State) (w : ℕ) (ts : List ℕ) → map (λ (pick : Pick). pick.table) (map (pick_for catalog state w) ts) ≡ ts
tables_of catalog state w [] = refl
tables_of catalog state w (t ∷ ts) = ap (λ l. t ∷ l) (tables_of catalog state w ts)

pub are_picks : (catalog : CatalogImage) (state : State) (w n : ℕ) → ArePicks (picks_brushed catalog state w n)
are_picks catalog state w n = record {
  by_table = subst (λ l. IsAscending l) (sym (tables_of catalog state w (places (is_picked catalog state w) n))) (places_ascend (is_picked catalog state w) n);
  by_rid = all_map (λ (pick : Pick). IsAscending pick.rids) (pick_for catalog state w) (places (is_picked catalog state w) n) (λ t. places_ascend (in_all (concerns catalog w t) state.brushes) (length (rows_of_table state t)));
}

pub picks_more : (catalog : CatalogImage) (state : State) (w n : ℕ) → is_picked catalog state w n ≡ true → picks_brushed catalog state w (n + 1) ≡ picks_brushed catalog state w n ++ pick_for catalog state w n ∷ []
picks_more catalog state w n is =
    let e : n + 1 ≡ suc n = omega arith in
    rw e (ap (map (pick_for catalog state w)) (filter-append (is_picked catalog state w) (upto n) (n ∷ []) ∙ ap (λ b. places (is_picked catalog state w) n ++ cond b (n ∷ []) []) is) ∙ map-append (pick_for catalog state w) (places (is_picked catalog state w) n) (n ∷ []))

pub picks_same : (catalog : CatalogImage) (state : State) (w n : ℕ) → is_picked catalog state w n ≡ false → picks_brushed catalog state w (n + 1) ≡ picks_brushed catalog state w n
picks_same catalog state w n is =
    let e : n + 1 ≡ suc n = omega arith in
    rw e (ap (map (pick_for catalog state w)) (put_last (is_picked catalog state w) (upto n) n is))

pub picks_fit : (catalog : CatalogImage) (state : State) (w : ℕ) → All (PickFits state.tables) (picks_brushed catalog state w (length state.tables))
picks_fit catalog state w = within (length state.tables) (places (is_picked catalog state w) (length state.tables)) (places_below (is_picked catalog state w) (length state.tables)) refl
  where
    within : (n : ℕ) (ts : List ℕ) → All (λ t. t < n) ts → n ≡ length state.tables → All (PickFits state.tables) (map (pick_for catalog state w) ts)
    within n [] h e = All-nil (PickFits state.tables)
    within n (t ∷ ts) h e = All-cons (PickFits state.tables) (pick_for catalog state w t) (map (pick_for catalog state w) ts)
        (record { known = omega (arith, e, All-head (λ t. t < n) t ts h); rows = places_below (in_all (concerns catalog w t) state.brushes) (length (rows_of_table state t)) })
        (within n ts (All-tail (λ t. t < n) t ts h) e)

-- over the picks the leaves are those of the selected rows

abbrev rows_by : CatalogImage → State → ℕ → ℕ → Option ℕ → List Row
rows_by catalog state w t place = kept_rows (option_map (λ (pick : Pick). pick.rids) (option_map (pick_for catalog state w) place)) (table_at state.tables t)

place_of : (catalog : CatalogImage) (state : State) (w t : ℕ) (q : ℕ → Bool) (n : ℕ) → kept_rows (picked (map (pick_for catalog state w) (places q n)) t) (table_at state.tables t) ≡ rows_by catalog state w t (find (λ i. nat_eq i t) (places q n))
place_of catalog state w t q n = ap (λ o. kept_rows (option_map (λ (pick : Pick). pick.rids) o) (table_at state.tables t)) (find_mapped (λ (pick : Pick). nat_eq pick.table t) (pick_for catalog state w) (places q n))

pub whole_where : (catalog : CatalogImage) (state : State) (w t : ℕ) → is_picked catalog state w t ≡ false → sub (table_at state.tables t) (selected_for catalog state w t) ≡ table_at state.tables t
whole_where catalog state w t alone =
    ap (λ (l : List BrushOn). sub (table_at state.tables t) (places (λ rid. list_all (λ (b : BrushOn). has b.rids rid) l) (length (table_at state.tables t)))) (none_pass (concerns catalog w t) state.brushes alone) ∙ whole_sub (table_at state.tables t)

same_leaf : (catalog : CatalogImage) (state : State) (w t : ℕ) → selected state.tables (picks_brushed catalog state w (length state.tables)) t ≡ selected state.tables (picks_for catalog state w) t
same_leaf catalog state w t =
    let n : ℕ = length state.tables in
    let all : places (λ i. true) n ≡ upto n = filter-true (upto n) in
    place_of catalog state w t (is_picked catalog state w) n
    ∙ here n
    ∙ sym (place_of catalog state w t (λ i. true) n)
    ∙ ap (λ l. kept_rows (picked (map (pick_for catalog state w) l) t) (table_at state.tables t)) all
  where
    here : (n : ℕ) → rows_by catalog state w t (find (λ i. nat_eq i t) (places (is_picked catalog state w) n)) ≡ rows_by catalog state w t (find (λ i. nat_eq i t) (places (λ i. true) n))
    here n = elim (cases_lt t n) [
      | inl l ↦ ap (rows_by catalog state w t) (found (is_picked catalog state w) n t l) ∙ there (is_picked catalog state w t) (λ h. h) ∙ sym (ap (rows_by catalog state w t) (found (λ i. true) n t l))
      | inr g ↦ ap (rows_by catalog state w t) (past (is_picked catalog state w) n t g ∙ sym (past (λ i. true) n t g))
    ]
      where
        there : (b : Bool) → (b ≡ false → is_picked catalog state w t ≡ false) → rows_by catalog state w t (cond b (Some t) None) ≡ rows_by catalog state w t (Some t)
        there true h = refl
        there false h = sym (whole_where catalog state w t (h refl))

pub same_leaves : (catalog : CatalogImage) (state : State) (w : ℕ) → over (view_at catalog w).plan state.tables (picks_brushed catalog state w (length state.tables)) ≡ leaves_now catalog state w
same_leaves catalog state w = each (leaves (view_at catalog w).plan)
  where
    each : (ts : List ℕ) → map (selected state.tables (picks_brushed catalog state w (length state.tables))) ts ≡ map (selected state.tables (picks_for catalog state w)) ts
    each [] = refl
    each (t ∷ ts) = let h = same_leaf catalog state w t in let k = each ts in cc
