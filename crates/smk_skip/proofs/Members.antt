-- What a split gives for some marks and a value.
use Rattle.std.proofs.{Common.{◌≡◌, ◌∙◌, ◌<◌, ◌≤◌, ◌+◌, ℕ, zero, suc, pos, Bool, false, List, [], ◌∷◌, ◌&&◌, length, map, take, drop, refl, sym, ap, arith, inl, inr, filter, get_or, nat_eq, subst, position, Some, None}, lemmas.Bool.{cases_Bool, cases_lt, lt-ltb, eqb-true, false≢true}, lemmas.List.{length-map, get_or-map, get_or_default}, lemmas.List.Folds.list_any_none, lemmas.List.Sums.fails_before_first, lemmas.List.Quantifiers.position-Some}
use Rattle.std.specs.List.{concat, flat_map, list_any, position_or_len}
use Rattle.smk_base.specs.{declared.value.Value.Value, declared.value.Value.TheVariants.Int, Places.{Lists, IsPlaces, upto, places, has, list_at, pairs_of}, Values.{value_eq, value_same}}
use Rattle.smk_model.specs.{Values.value_at, Lineage.row_at, Replies.with_value}
use Rattle.smk_base.proofs.Places.{filter_filter, same_below, places_false, places_below, places_are, has_places, flat_map_agree}
use Rattle.smk_rid.proofs.{Packs.length-concat, Joins.has-flat_map}
use Rattle.smk_skip.specs.{Splits.{SplitImage, members_with}, Parts.{ranks, run, IsParted}}
use Rattle.smk_skip.proofs.{Filters.{and_false, filter_none}, Orders.{split_at, within_order}, Stretches.run_is}
use Rattle.smk_model.proofs.Anys.{any_and}

-- what a filter has
has_kept : (t : ℕ → Bool) (xs : List ℕ) (r : ℕ) → has (filter t xs) r ≡ (t r && has xs r)
has_kept t [] r = sym (and_false (t r) false refl)
has_kept t (x ∷ xs) r = elim (cases_Bool (nat_eq r x)) [
  | inl e ↦ (let same : t r ≡ t x = ap t (eqb-true r x e) in elim (cases_Bool (t x)) [
    | inl p ↦ rw (p, e, same ∙ p) refl
    | inr p ↦ rw p (has_kept t xs r ∙ rw (same ∙ p) refl)
  ])
  | inr e ↦ elim (cases_Bool (t x)) [ inl p ↦ rw (p, e) (has_kept t xs r) | inr p ↦ rw (p, e) (has_kept t xs r) ]
]

-- a list of a map whose lists were changed one by one
list_of : (f : List ℕ → List ℕ) → f [] ≡ [] → (lists : List (List ℕ)) (i : ℕ) → get_or (map f lists) i [] ≡ f (get_or lists i [])
list_of f e [] i = sym e
list_of f e (x ∷ xs) zero = refl
list_of f e (x ∷ xs) (suc i) = list_of f e xs i

-- the members with a value are the places that have a mark and the value
pub members_are : (split : SplitImage) (marks : List ℕ) (v : Value) → members_with split marks v ≡ places (λ r. list_any (λ i. has (list_at split.map i) r) marks && value_eq (value_at (row_at split.rows r) split.col) v) split.map.bound
members_are split marks v = filter_filter (λ r. value_eq (value_at (row_at split.rows r) split.col) v) (λ r. list_any (λ i. has (list_at split.map i) r) marks) (upto split.map.bound)

pub members_set : (split : SplitImage) (marks : List ℕ) (v : Value) → IsPlaces split.map.bound (members_with split marks v)
members_set split marks v = subst (IsPlaces split.map.bound) (sym (members_are split marks v)) (places_are (λ r. list_any (λ i. has (list_at split.map i) r) marks && value_eq (value_at (row_at split.rows r) split.col) v) split.map.bound)

-- a value that no row has
pub none_found : (split : SplitImage) (of_values : List Value) (by_value places_of : Lists) (marks : List ℕ) (v : Value) → IsParted split of_values by_value places_of → list_any (value_eq v) of_values ≡ false → members_with split marks v ≡ []
none_found split of_values by_value places_of marks v is none =
    let P = λ (r : ℕ). list_any (λ i. has (list_at split.map i) r) marks in
    let val = λ (r : ℕ). value_at (row_at split.rows r) split.col in
    filter_none (λ r. value_eq (val r) v) (places P split.map.bound) (λ k d l.
    let r = get_or (places P split.map.bound) k d in
    let low : r < length split.rows = omega (arith, places_below P split.map.bound k d l, is.bound) in
    elim (cases_Bool (value_eq (val r) v)) [
      | inl t ↦ absurd (false≢true (sym none ∙ ap (λ z. list_any (value_eq z) of_values) (sym ((value_same (val r) v).0 t)) ∙ is.whole r low))
      | inr f ↦ f
    ])

-- what the lists of places at some marks have of the stretch of a value
pub members_found : (split : SplitImage) (of_values : List Value) (by_value places_of : Lists) (c : ℕ) (marks : List ℕ) (v : Value) → IsParted split of_values by_value places_of → c < length of_values → v ≡ get_or of_values c (Int (pos 0))
    → places (has (flat_map (λ mark. run (pairs_of (take c by_value.lists)) (list_at by_value c) (list_at places_of mark)) marks)) by_value.bound ≡ members_with split marks v
members_found split of_values by_value places_of c marks v is low e =
    let n = length split.rows in
    let L = by_value.lists in
    let order = concat L in
    let rids = list_at by_value c in
    let val = λ (r : ℕ). value_at (row_at split.rows r) split.col in
    let lists : L ≡ map (λ value. with_value split.rows split.col value (upto n)) of_values = is.lists in
    let here : c < length L = omega (arith, low, ap length lists, length-map of_values (λ value. with_value split.rows split.col value (upto n))) in
    let own : rids ≡ with_value split.rows split.col v (upto n) =
    ap (λ (z : List (List ℕ)). get_or z c []) lists ∙ get_or-map (λ value. with_value split.rows split.col value (upto n)) of_values c (Int (pos 0)) [] low ∙ ap (λ value. with_value split.rows split.col value (upto n)) (sym e) in
    let none : ranks order [] ≡ [] = places_false (length order) in
    let at : (mark : ℕ) → list_at places_of mark ≡ ranks order (list_at split.map mark) = λ mark.
    ap (λ (m : Lists). list_at m mark) is.ranked_are ∙ list_of (ranks order) none split.map.lists mark in
    let start : pairs_of (take c L) ≡ length (concat (take c L)) = sym (length-concat (take c L)) in
    let each : (mark : ℕ) → run (pairs_of (take c L)) rids (list_at places_of mark) ≡ filter (has (list_at split.map mark)) rids = λ mark.
    ap (λ s. run s rids (list_at places_of mark)) start
    ∙ ap (run (length (concat (take c L))) rids) (at mark)
    ∙ run_is order (concat (take c L)) rids (concat (drop (suc c) L)) (list_at split.map mark) (split_at L c here) in
    ap (λ z. places (has z) by_value.bound) (flat_map_agree (λ mark. run (pairs_of (take c L)) rids (list_at places_of mark)) (λ mark. filter (has (list_at split.map mark)) rids) each marks)
    ∙ ap (places (has (flat_map (λ mark. filter (has (list_at split.map mark)) rids) marks))) (is.low ∙ sym is.bound)
    ∙ same_below (has (flat_map (λ mark. filter (has (list_at split.map mark)) rids) marks)) (λ r. list_any (λ i. has (list_at split.map i) r) marks && value_eq (val r) v) split.map.bound (λ r l.
    let small : r < n = omega (arith, l, is.bound) in
    has-flat_map (λ mark. filter (has (list_at split.map mark)) rids) marks r
    ∙ any_same (λ mark. has (filter (has (list_at split.map mark)) rids) r) (λ mark. has (list_at split.map mark) r && has rids r) (λ mark. has_kept (has (list_at split.map mark)) rids r) marks
    ∙ any_and (λ mark. has (list_at split.map mark) r) (has rids r) marks
    ∙ ap (λ b. list_any (λ i. has (list_at split.map i) r) marks && b) (ap (λ z. has z r) own ∙ has_places (λ i. value_eq (val i) v) n r small))
    ∙ sym (members_are split marks v)
  where
    any_same : (f g : ℕ → Bool) → ((x : ℕ) → f x ≡ g x) → (xs : List ℕ) → list_any f xs ≡ list_any g xs
    any_same f g h [] = refl
    any_same f g h (x ∷ xs) = rw (h x, any_same f g h xs) refl

-- the place of a value that is not among others
pub position_none : {X : Type 0} (p : X → Bool) (xs : List X) (d : X) → position p xs ≡ None → list_any p xs ≡ false
position_none p xs d e = elim (cases_lt (position_or_len p xs) (length xs)) [
  | inl l ↦ (let some : position p xs ≡ Some (position_or_len p xs) = rw (lt-ltb (position_or_len p xs) (length xs) l) refl in absurd (cc (some, e)))
  | inr g ↦ list_any_none p xs (λ k f l. ap p (get_or_default xs k f d l) ∙ fails_before_first p xs k d (omega arith))
]

-- the lists of a part are as many as its values
pub parted_long : (split : SplitImage) (of_values : List Value) (by_value places_of : Lists) → IsParted split of_values by_value places_of → length by_value.lists ≡ length of_values
parted_long split of_values by_value places_of is = ap length is.lists ∙ length-map of_values (λ value. with_value split.rows split.col value (upto (length split.rows)))

-- the same of the place of a value, from what the parts of a split give there
pub members_run : (split : SplitImage) (of_values : List Value) (by_value places_of : Lists) (c : ℕ) (marks : List ℕ) (v : Value) (start : ℕ) (rids : List ℕ) (bound : ℕ)
    → IsParted split of_values by_value places_of → position (value_eq v) of_values ≡ Some c → start ≡ pairs_of (take c by_value.lists) → rids ≡ list_at by_value c → bound ≡ by_value.bound
    → places (has (flat_map (λ mark. run start rids (list_at places_of mark)) marks)) bound ≡ members_with split marks v
members_run split of_values by_value places_of c marks v start rids bound is e at_start at_rids at_bound =
    let found = position-Some (value_eq v) of_values c (Int (pos 0)) e in
    let same : v ≡ get_or of_values c (Int (pos 0)) = (value_same v (get_or of_values c (Int (pos 0)))).0 found.1 in
    rw (at_start, at_rids, at_bound) (members_found split of_values by_value places_of c marks v is found.0 same)

-- the stretch of a value lies within the order
pub stretch_within : (split : SplitImage) (of_values : List Value) (by_value places_of : Lists) (c : ℕ) (v : Value) → IsParted split of_values by_value places_of → position (value_eq v) of_values ≡ Some c
    → pairs_of (take c by_value.lists) + length (list_at by_value c) ≤ 1048576
stretch_within split of_values by_value places_of c v is e =
    let found = position-Some (value_eq v) of_values c (Int (pos 0)) e in
    omega (arith, within_order by_value.lists c (omega (arith, found.0, parted_long split of_values by_value places_of is)), is.few)
