-- The places of one step meet the conditions of Cui and Widom.
use Rattle.std.proofs.{Common.{◌≡◌, ◌≢◌, ℕ, suc, ◌+◌, ◌-◌, ◌<◌, ◌≤◌, Bool, true, List, [], ◌∷◌, ◌++◌, length, map, refl, ap, sym, ◌∙◌, subst, arith, get_or, nat_eq, nat_lt, inl, inr}, lemmas.List.{get_or-map, length-append, length-map, append-nil, get_or_append_left, get_or-append_right, nil_from_length}, lemmas.List.Elements.{filter-append, All-get_or, filter_passes, All-nil, All-append, All-map}, lemmas.Bool.{eq-eqb, cases_Bool, or_left, or_right, false≢true, ltb-true, ltb-false}}
use Rattle.std.specs.List.{flat_map, filter, All}
use Rattle.smk_base.specs.{declared.book.plan.Item.Item, declared.book.plan.Agg.Agg, Plans.{Formula, Unary, Selection, Projection, Distinction, Grouping, Binary, Equijoin, ThetaJoin, CrossProduct, BagUnion, SetUnion}}
use Rattle.smk_model.specs.{Values.{Row, meets}, Plain.{row_eq, image, key_of, aggregate, firsts, grouped, agree, meets_together, always, nested, step1, step2}, Lineage.{upto, places, has, row_at, sub, matching, match_at, from1, from_left, from_right}, CuiWidom.{CuiWidom1, CuiWidom2}, LineageLaws.CuiWidom}
use Rattle.smk_base.proofs.Places.{at_places, upto_below, places_below, places_are, single, has_single, single_has, one_place, no_place}
use Rattle.smk_model.proofs.{Annotated.nested_is, Firsts.{only_passing, row_same, holds, holds_here, holds_single, holds_place, holds_left, holds_right, holds_some, holds_at, firsts_holds, firsts_from, once, sub_key, keys_once, all_of_key}, QueryAnswers.all_below}

-- selection

-- each row alone passes, so all do
all_pass : (f : Row → Bool) (L : List Row) (A : List ℕ) → ((a : ℕ) → has A a ≡ true → filter f (row_at L a ∷ []) ≢ []) → filter f (sub L A) ≡ sub L A
all_pass f L [] h = refl
all_pass f L (x ∷ xs) h = elim (cases_Bool (f (row_at L x))) [
  | inl p ↦ rw p (ap (λ t. row_at L x ∷ t) (all_pass f L xs (λ a q. h a (or_right (nat_eq a x) _ q))))
  | inr p ↦ absurd (h x (or_left (nat_eq x x) _ (eq-eqb x x refl)) (rw p refl))
]

pub length_selected : (f : Row → Bool) (L : List Row) → length (places (λ i. f (row_at L i)) (length L)) ≡ length (filter f L)
length_selected f L = sym (length-map (places (λ i. f (row_at L i)) (length L)) (row_at L)) ∙ ap length (at_places f L [])

pub selected_below : (f : Row → Bool) (L : List Row) (o : ℕ) → o < length (filter f L) → get_or (places (λ i. f (row_at L i)) (length L)) o 0 < length L
selected_below f L o h =
    All-get_or (λ r. r < length L) (places (λ i. f (row_at L i)) (length L)) o 0 (omega (arith, h, length_selected f L)) (places_below (λ i. f (row_at L i)) (length L))

pub selected_row : (f : Row → Bool) (L : List Row) (o : ℕ) → o < length (filter f L) → row_at L (get_or (places (λ i. f (row_at L i)) (length L)) o 0) ≡ row_at (filter f L) o
selected_row f L o h =
    let P = places (λ i. f (row_at L i)) (length L) in
    sym (get_or-map (row_at L) P o 0 [] (omega (arith, h, length_selected f L))) ∙ ap (λ t. row_at t o) (at_places f L [])

passes_at : (f : Row → Bool) (L : List Row) (o : ℕ) → o < length (filter f L) → f (row_at (filter f L) o) ≡ true
passes_at f L o h = All-get_or (λ x. f x ≡ true) (filter f L) o [] h (filter_passes f L)

of_selection : (formula : Formula) (L : List Row) (o : ℕ) → o < length (filter (meets formula) L) → CuiWidom1 (step1 (Selection formula)) L o (from1 (Selection formula) L o)
of_selection formula L o h =
    let f = meets formula in
    let p = get_or (places (λ i. f (row_at L i)) (length L)) o 0 in
    let row = selected_row f L o h in
    let pass : f (row_at L p) ≡ true = ap f row ∙ passes_at f L o h in
    record {
      places = one_place (length L) p (selected_below f L o h);
      gives = record {
        exact = rw pass (ap (λ t. t ∷ []) row);
        each = λ a q. subst (λ (z : ℕ). filter f (row_at L z ∷ []) ≢ []) (sym (has_single p a q)) (rw pass (λ e. (cc)));
      };
      maximal = λ A' is all g.
          single A' p (omega (arith, length-map A' (row_at L), ap length (all_pass f L A' g.each), ap length g.exact)) (all p (single_has p));
    }

of_projection : (items : List Item) (L : List Row) (o : ℕ) → o < length (map (image items) L) → CuiWidom1 (step1 (Projection items)) L o (from1 (Projection items) L o)
of_projection items L o h =
    let low : o < length L = omega (arith, h, length-map L (image items)) in
    record {
      places = one_place (length L) o low;
      gives = record { exact = ap (λ t. t ∷ []) (sym (get_or-map (image items) L o [] [] low)); each = λ a q e. (cc) };
      maximal = λ A' is all g. single A' o (omega (arith, length-map A' (row_at L), length-map (sub L A') (image items), ap length g.exact)) (all o (single_has o));
    }

-- distinction and grouping

of_distinction : (items : List Item) (L : List Row) (o : ℕ) → o < length (firsts (map (image items) L)) → CuiWidom1 (step1 (Distinction items)) L o (from1 (Distinction items) L o)
of_distinction items L o h =
    let k = row_at (firsts (map (image items) L)) o in
    let there : holds (map (image items) L) k ≡ true = firsts_from (map (image items) L) k (holds_at (firsts (map (image items) L)) o h) in
    record {
      places = places_are (λ i. row_eq k (image items (row_at L i))) (length L);
      gives = record {
        exact = ap (λ t. firsts (map (image items) t)) (sub_key (image items) L k) ∙ keys_once (image items) L k there;
        each = λ a q e. (cc);
      };
      maximal = λ A' is all g. all_of_key (image items) L k k (from1 (Distinction items) L o) A' is refl there all g.exact;
    }

one_item : {X Y : Type 0} (f : X → Y) (xs : List X) (y : Y) → map f xs ≡ y ∷ [] → (x : X) × (xs ≡ x ∷ [])
one_item f [] y e = absurd (cc)
one_item f (x ∷ []) y e = (x, refl)
one_item f (x ∷ x' ∷ xs) y e = absurd (cc)

filter_twice : (f : Row → Bool) (xs : List Row) → filter f (filter f xs) ≡ filter f xs
filter_twice f [] = refl
filter_twice f (x ∷ xs) = elim (cases_Bool (f x)) [ inl p ↦ rw (p, p) (ap (λ t. x ∷ t) (filter_twice f xs)) | inr p ↦ rw p (filter_twice f xs) ]

of_grouping : (keys : List ℕ) (aggs : List Agg) (L : List Row) (o : ℕ) → o < length (map (grouped keys aggs L) (firsts (map (key_of keys) L))) → CuiWidom1 (step1 (Grouping keys aggs)) L o (from1 (Grouping keys aggs) L o)
of_grouping keys aggs L o h =
    let found = firsts (map (key_of keys) L) in
    let k = row_at found o in
    let low : o < length found = omega (arith, h, length-map found (grouped keys aggs L)) in
    let there : holds (map (key_of keys) L) k ≡ true = firsts_from (map (key_of keys) L) k (holds_at found o low) in
    let mine = filter (λ row. row_eq k (key_of keys row)) L in
    record {
      places = places_are (λ i. row_eq k (key_of keys (row_at L i))) (length L);
      gives = record {
        exact = ap (λ t. map (grouped keys aggs t) (firsts (map (key_of keys) t))) (sub_key (key_of keys) L k)
            ∙ ap (map (grouped keys aggs mine)) (keys_once (key_of keys) L k there)
            ∙ ap (λ t. (k ++ map (aggregate t) aggs) ∷ []) (filter_twice (λ row. row_eq k (key_of keys row)) L)
            ∙ ap (λ t. t ∷ []) (sym (get_or-map (grouped keys aggs L) found o [] [] low));
        each = λ a q e. (cc);
      };
      maximal = λ A' is all g.
          let one = one_item (grouped keys aggs (sub L A')) _ _ g.exact in
          all_of_key (key_of keys) L k one.0 (from1 (Grouping keys aggs) L o) A' is refl there all one.1;
    }

of_one : (op : Unary) (L : List Row) (o : ℕ) → o < length (step1 op L) → CuiWidom1 (step1 op) L o (from1 op L o)
of_one (Selection formula) L o h = of_selection formula L o h
of_one (Projection items) L o h = of_projection items L o h
of_one (Distinction items) L o h = of_distinction items L o h
of_one (Grouping keys aggs) L o h = of_grouping keys aggs L o h

-- nested loops

pub nested_rows : (test : Row → Row → Bool) (L R : List Row) → nested test L R ≡ map (λ p. row_at L p.0 ++ row_at R p.1) (matching test L R)
nested_rows test L R = nested_is test (λ l r. l ++ r) L R [] []

all_matching : (t : ℕ → ℕ → Bool) (m n : ℕ) (xs : List ℕ) → All (λ r. r < m) xs → All (λ (p : ℕ × ℕ). (p.0 < m) × (p.1 < n) × (t p.0 p.1 ≡ true)) (flat_map (λ i. map (λ j. (i, j)) (places (t i) n)) xs)
all_matching t m n [] h = All-nil (λ (p : ℕ × ℕ). (p.0 < m) × (p.1 < n) × (t p.0 p.1 ≡ true))
all_matching t m n (x ∷ xs) h =
    let inner : All (λ j. (x < m) × (j < n) × (t x j ≡ true)) (places (t x) n) = λ k d l. (h 0 0 (omega arith), places_below (t x) n k d l, filter_passes (t x) (upto n) k d l) in
    All-append (λ (p : ℕ × ℕ). (p.0 < m) × (p.1 < n) × (t p.0 p.1 ≡ true)) (map (λ j. (x, j)) (places (t x) n)) _
    (All-map (λ (p : ℕ × ℕ). (p.0 < m) × (p.1 < n) × (t p.0 p.1 ≡ true)) (λ j. (x, j)) (places (t x) n) inner)
    (all_matching t m n xs (λ k d l. h (suc k) d (omega arith)))

pub length_matching : (test : Row → Row → Bool) (L R : List Row) → length (matching test L R) ≡ length (nested test L R)
length_matching test L R = sym (length-map (matching test L R) (λ (p : ℕ × ℕ). row_at L p.0 ++ row_at R p.1)) ∙ sym (ap length (nested_rows test L R))

-- a matching pair is in range, and its rows pass
pub matched : (test : Row → Row → Bool) (L R : List Row) (o : ℕ) → o < length (nested test L R)
    → ((match_at test L R o).0 < length L) × ((match_at test L R o).1 < length R) × (test (row_at L (match_at test L R o).0) (row_at R (match_at test L R o).1) ≡ true)
matched test L R o h = all_matching (λ i j. test (row_at L i) (row_at R j)) (length L) (length R) (upto (length L)) (upto_below (length L)) o (0, 0) (omega (arith, h, length_matching test L R))

some_long : {X : Type 0} (xs : List X) → xs ≢ [] → 1 ≤ length xs
some_long [] h = absurd (h refl)
some_long (x ∷ xs) h = omega arith

-- each left row alone gives something, so there are at least as many rows as left rows
at_least : (test : Row → Row → Bool) (L R : List Row) (A : List ℕ) → ((a : ℕ) → has A a ≡ true → nested test (sub L (a ∷ [])) R ≢ []) → length A ≤ length (nested test (sub L A) R)
at_least test L R [] h = omega arith
at_least test L R (x ∷ xs) h =
    let mine = map (λ r. row_at L x ++ r) (filter (test (row_at L x)) R) in
    let one : 1 ≤ length mine = some_long mine (λ e. h x (or_left (nat_eq x x) _ (eq-eqb x x refl)) (append-nil mine ∙ e)) in
    let rest : length xs ≤ length (nested test (sub L xs) R) = at_least test L R xs (λ a q. h a (or_right (nat_eq a x) _ q)) in
    omega (arith, length-append mine (nested test (sub L xs) R))

of_nested : (test : Row → Row → Bool) (L R : List Row) (o : ℕ) → o < length (nested test L R) → CuiWidom2 (nested test) L R o ((match_at test L R o).0 ∷ []) ((match_at test L R o).1 ∷ [])
of_nested test L R o h =
    let join = nested test in
    let i = (match_at test L R o).0 in
    let j = (match_at test L R o).1 in
    let fits = matched test L R o h in
    let row : row_at (join L R) o ≡ row_at L i ++ row_at R j =
    ap (λ t. row_at t o) (nested_rows test L R) ∙ get_or-map (λ p. row_at L p.0 ++ row_at R p.1) (matching test L R) o (0, 0) [] (omega (arith, h, length_matching test L R)) in
    let here : join (row_at L i ∷ []) (row_at R j ∷ []) ≡ (row_at L i ++ row_at R j) ∷ [] = rw fits.2 refl in
    record {
      places_left = one_place (length L) i fits.0;
      places_right = one_place (length R) j fits.1;
      gives = record {
        exact = here ∙ ap (λ t. t ∷ []) (sym row);
        each_left = λ a q. subst (λ (z : ℕ). join (row_at L z ∷ []) (row_at R j ∷ []) ≢ []) (sym (has_single i a q)) (λ e. (cc));
        each_right = λ b q. subst (λ (z : ℕ). join (row_at L i ∷ []) (row_at R z ∷ []) ≢ []) (sym (has_single j b q)) (λ e. (cc));
      };
      maximal = λ A' B' isA isB allA allB g.
          let A'-is : A' ≡ i ∷ [] = single A' i (omega (arith, at_least test L (sub R B') A' g.each_left, ap length g.exact)) (allA i (single_has i)) in
          let right : (b : ℕ) → has B' b ≡ true → join (row_at L i ∷ []) (row_at R b ∷ []) ≢ [] = λ b q. subst (λ (z : List ℕ). join (sub L z) (row_at R b ∷ []) ≢ []) A'-is (g.each_right b q) in
          let all : filter (test (row_at L i)) (sub R B') ≡ sub R B' = all_pass (test (row_at L i)) R B' (λ b q e. right b q (ap (λ t. map (λ r. row_at L i ++ r) t ++ []) e)) in
          let one : join (row_at L i ∷ []) (sub R B') ≡ row_at (join L R) o ∷ [] = subst (λ (z : List ℕ). join (sub L z) (sub R B') ≡ row_at (join L R) o ∷ []) A'-is g.exact in
          let mine = map (λ r. row_at L i ++ r) (filter (test (row_at L i)) (sub R B')) in
          (A'-is, single B' j (omega (arith, ap length one, ap length (append-nil mine), length-map (filter (test (row_at L i)) (sub R B')) (λ r. row_at L i ++ r), ap length all, length-map B' (row_at R))) (allB j (single_has j)));
    }

-- unions

from_the_left : (L R : List Row) (o : ℕ) → o < length L → CuiWidom2 (step2 BagUnion) L R o (o ∷ []) []
from_the_left L R o h = record {
  places_left = one_place (length L) o h;
  places_right = no_place (length R);
  gives = record {
    exact = ap (λ t. t ∷ []) (sym (get_or_append_left L R [] o h));
    each_left = λ a q e. (cc);
    each_right = λ b q. absurd (false≢true q);
  };
  maximal = λ A' B' isA isB allA allB g.
      let long : length A' + length B' ≡ 1 = omega (arith, ap length g.exact, length-append (sub L A') (sub R B'), length-map A' (row_at L), length-map B' (row_at R)) in
      let A'-is : A' ≡ o ∷ [] = single A' o (omega arith) (allA o (single_has o)) in
      (A'-is, nil_from_length B' (omega (arith, ap length A'-is)));
}

from_the_right : (L R : List Row) (o : ℕ) → length L ≤ o → o < length (L ++ R) → CuiWidom2 (step2 BagUnion) L R o [] ((o - length L) ∷ [])
from_the_right L R o h low = record {
  places_left = no_place (length L);
  places_right = one_place (length R) (o - length L) (omega (arith, h, low, length-append L R));
  gives = record {
    exact = ap (λ t. t ∷ []) (sym (get_or-append_right L R (length L) o [] refl h));
    each_left = λ a q. absurd (false≢true q);
    each_right = λ b q e. (cc);
  };
  maximal = λ A' B' isA isB allA allB g.
      let long : length A' + length B' ≡ 1 = omega (arith, ap length g.exact, length-append (sub L A') (sub R B'), length-map A' (row_at L), length-map B' (row_at R)) in
      let B'-is : B' ≡ (o - length L) ∷ [] = single B' (o - length L) (omega arith) (allB (o - length L) (single_has (o - length L))) in
      (nil_from_length A' (omega (arith, ap length B'-is)), B'-is);
}

of_union : (L R : List Row) (o : ℕ) → o < length (firsts (L ++ R)) → CuiWidom2 (step2 SetUnion) L R o (from_left SetUnion L R o) (from_right SetUnion L R o)
of_union L R o h =
    let k = row_at (firsts (L ++ R)) o in
    let there : holds (L ++ R) k ≡ true = firsts_from (L ++ R) k (holds_at (firsts (L ++ R)) o h) in
    let A = from_left SetUnion L R o in
    let B = from_right SetUnion L R o in
    let subs : sub L A ++ sub R B ≡ filter (row_eq k) (L ++ R) = rw (at_places (row_eq k) L [], at_places (row_eq k) R []) (sym (filter-append (row_eq k) L R)) in
    record {
      places_left = places_are (λ i. row_eq k (row_at L i)) (length L);
      places_right = places_are (λ i. row_eq k (row_at R i)) (length R);
      gives = record {
        exact = ap firsts subs ∙ once k (L ++ R) there;
        each_left = λ a q. holds_some (firsts (row_at L a ∷ sub R B)) (row_at L a) (firsts_holds (row_at L a ∷ sub R B) (row_at L a) (holds_here (row_at L a) (sub R B)));
        each_right = λ b q. holds_some (firsts (sub L A ++ row_at R b ∷ [])) (row_at R b) (firsts_holds (sub L A ++ row_at R b ∷ []) (row_at R b) (holds_right (sub L A) (row_at R b ∷ []) (row_at R b) (holds_here (row_at R b) [])));
      };
      maximal = λ A' B' isA isB allA allB g.
          let equal : (x : Row) → holds (sub L A' ++ sub R B') x ≡ true → row_eq k x ≡ true = λ x q.
          (row_same k x).1 (sym (holds_single k x (subst (λ (z : List Row). holds z x ≡ true) g.exact (firsts_holds (sub L A' ++ sub R B') x q)))) in (
            only_passing (length L) (λ i. row_eq k (row_at L i)) A' isA allA (λ i q. equal (row_at L i) (holds_left (sub L A') (sub R B') (row_at L i) (holds_place L A' i q))),
            only_passing (length R) (λ i. row_eq k (row_at R i)) B' isB allB (λ i q. equal (row_at R i) (holds_right (sub L A') (sub R B') (row_at R i) (holds_place R B' i q))),
          );
    }

of_two : (op : Binary) (L R : List Row) (o : ℕ) → o < length (step2 op L R) → CuiWidom2 (step2 op) L R o (from_left op L R o) (from_right op L R o)
of_two (Equijoin pairs) L R o h = of_nested (agree pairs) L R o h
of_two (ThetaJoin formula) L R o h = of_nested (meets_together formula) L R o h
of_two CrossProduct L R o h = of_nested always L R o h
of_two BagUnion L R o h = elim (cases_Bool (nat_lt o (length L))) [
  | inl p ↦ rw p (from_the_left L R o (ltb-true o (length L) p))
  | inr p ↦ rw p (from_the_right L R o (ltb-false o (length L) p) h)
]
of_two SetUnion L R o h = of_union L R o h

pub cui_widom : CuiWidom
cui_widom = record { one = of_one; two = of_two }

-- so they are in range
pub from1_below : (op : Unary) (L : List Row) (o : ℕ) → o < length (step1 op L) → All (λ r. r < length L) (from1 op L o)
from1_below op L o h = all_below (length L) (from1 op L o) (of_one op L o h).places

pub left_below : (op : Binary) (L R : List Row) (o : ℕ) → o < length (step2 op L R) → All (λ r. r < length L) (from_left op L R o)
left_below op L R o h = all_below (length L) (from_left op L R o) (of_two op L R o h).places_left

pub right_below : (op : Binary) (L R : List Row) (o : ℕ) → o < length (step2 op L R) → All (λ r. r < length R) (from_right op L R o)
right_below op L R o h = all_below (length R) (from_right op L R o) (of_two op L R o h).places_right
