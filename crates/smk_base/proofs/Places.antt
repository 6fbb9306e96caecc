-- Lists of places: filters of the numbers below n, and lists by their elements.
use Rattle.std.proofs.{Common.{◌≡◌, ◌&&◌, ℕ, zero, suc, ◌+◌, ◌<◌, ◌≤◌, Bool, true, false, cond, not, List, [], ◌∷◌, ◌++◌, length, map, refl, ap, sym, ◌∙◌, arith, get_or, take, nat_eq, zero-add, inl, inr, ◌⊎◌}, lemmas.List.{take_more, take_all, map-append, append_assoc, append-nil, get_or-map, length-append, get_or_append_left, get_or_push, same_lists}, lemmas.List.FromFn.{get_or-range_with_len, length-range_with_len}, lemmas.List.Elements.{filter-append, All-filter, All-nil, All-push, All-weaker}, lemmas.Bool.{eqb-true, eq-eqb, ne_eqb, cases_eq, cases_lt, cases_Bool, or_cases, or_left, or_right, false≢true}, lemmas.List.Filters.length-filter_both, lemmas.List.Folds.list_any-append}
use Rattle.std.specs.List.{flat_map, filter, list_any, All, range_with_len}
use Rattle.smk_base.specs.Places.{upto, places, has, IsPlaces}

-- filter, map and flat_map, one after the other

pub map_cond : {X Y : Type 0} (g : X → Y) (b : Bool) (xs ys : List X) → map g (cond b xs ys) ≡ cond b (map g xs) (map g ys)
map_cond g true xs ys = refl
map_cond g false xs ys = refl

pub filter_map : {X Y : Type 0} (f : Y → Bool) (g : X → Y) (xs : List X) → filter f (map g xs) ≡ map g (filter (λ x. f (g x)) xs)
filter_map f g [] = refl
filter_map f g (x ∷ xs) = rw (filter_map f g xs) (sym (map_cond g (f (g x)) _ _))

pub filter_filter : {X : Type 0} (f g : X → Bool) (xs : List X) → filter f (filter g xs) ≡ filter (λ x. g x && f x) xs
filter_filter f g [] = refl
filter_filter f g (x ∷ xs) = elim (cases_Bool (g x)) [
  | inl p ↦ rw p (rw (filter_filter f g xs) refl)
  | inr p ↦ rw p (filter_filter f g xs)
]

pub map_map : {X Y Z : Type 0} (f : Y → Z) (g : X → Y) (xs : List X) → map f (map g xs) ≡ map (λ x. f (g x)) xs
map_map f g [] = refl
map_map f g (x ∷ xs) = ap (λ t. f (g x) ∷ t) (map_map f g xs)

pub map_flat_map : {X Y Z : Type 0} (f : Y → Z) (g : X → List Y) (xs : List X) → map f (flat_map g xs) ≡ flat_map (λ x. map f (g x)) xs
map_flat_map f g [] = refl
map_flat_map f g (x ∷ xs) = map-append f (g x) (flat_map g xs) ∙ ap (λ t. map f (g x) ++ t) (map_flat_map f g xs)

pub flat_map_agree : {X Y : Type 0} (f g : X → List Y) → ((x : X) → f x ≡ g x) → (xs : List X) → flat_map f xs ≡ flat_map g xs
flat_map_agree f g h [] = refl
flat_map_agree f g h (x ∷ xs) = rw (h x, flat_map_agree f g h xs) refl

pub flat_map_map : {X Y Z : Type 0} (f : Y → List Z) (g : X → Y) (xs : List X) → flat_map f (map g xs) ≡ flat_map (λ x. f (g x)) xs
flat_map_map f g [] = refl
flat_map_map f g (x ∷ xs) = ap (λ t. f (g x) ++ t) (flat_map_map f g xs)

-- a list is its elements at 0, 1 and so on

pub map_upto_take : {X : Type 0} (xs : List X) (d : X) (n : ℕ) → n ≤ length xs → map (λ i. get_or xs i d) (upto n) ≡ take n xs
map_upto_take xs d zero h = refl
map_upto_take xs d (suc n) h =
    let rest : map (λ i. get_or xs i d) (upto n) ≡ take n xs = map_upto_take xs d n (omega arith) in
    let more : take (n + 1) xs ≡ take n xs ++ get_or xs n d ∷ [] = take_more xs n d (omega arith) in
    let same : suc n ≡ n + 1 = omega arith in
    map-append (λ i. get_or xs i d) (upto n) (n ∷ []) ∙ rw (rest, same, more) refl

pub map_upto : {X : Type 0} (xs : List X) (d : X) → map (λ i. get_or xs i d) (upto (length xs)) ≡ xs
map_upto xs d = map_upto_take xs d (length xs) (omega arith) ∙ take_all (length xs) xs (omega arith)

-- the elements at the places that pass are the elements that pass
pub at_places : {X : Type 0} (f : X → Bool) (xs : List X) (d : X) → map (λ i. get_or xs i d) (places (λ i. f (get_or xs i d)) (length xs)) ≡ filter f xs
at_places f xs d = sym (filter_map f (λ i. get_or xs i d) (upto (length xs))) ∙ ap (filter f) (map_upto xs d)

-- two tests that agree below n
pub same_below : (f g : ℕ → Bool) (n : ℕ) → ((k : ℕ) → k < n → f k ≡ g k) → places f n ≡ places g n
same_below f g zero h = refl
same_below f g (suc n) h =
    let last : f n ≡ g n = h n (omega arith) in
    let rest : filter f (upto n) ≡ filter g (upto n) = same_below f g n (λ k l. h k (omega arith)) in
    filter-append f (upto n) (n ∷ []) ∙ rw (rest, last) (sym (filter-append g (upto n) (n ∷ [])))

-- the numbers below n

pub length_upto : (n : ℕ) → length (upto n) ≡ n
length_upto zero = refl
length_upto (suc n) = omega (arith, length-append (upto n) (n ∷ []), length_upto n)

pub get_or_upto : (n i d : ℕ) → i < n → get_or (upto n) i d ≡ i
get_or_upto zero i d h = absurd (omega arith)
get_or_upto (suc n) i d h = elim (cases_lt i n) [
  | inl l ↦ get_or_append_left (upto n) (n ∷ []) d i (omega (arith, length_upto n)) ∙ get_or_upto n i d l
  | inr g ↦ (let e : i ≡ n = omega arith in rw e (get_or_push (upto n) n d n (length_upto n)))
]

pub get_or_map_upto : {X : Type 0} (f : ℕ → X) (n i : ℕ) (d : X) → i < n → get_or (map f (upto n)) i d ≡ f i
get_or_map_upto f n i d h = get_or-map f (upto n) i 0 d (omega (arith, length_upto n)) ∙ ap f (get_or_upto n i 0 h)

pub map_upto_agree : {X : Type 0} (f g : ℕ → X) (n : ℕ) → ((i : ℕ) → i < n → f i ≡ g i) → map f (upto n) ≡ map g (upto n)
map_upto_agree f g zero h = refl
map_upto_agree f g (suc n) h = map-append f (upto n) (n ∷ []) ∙ rw (map_upto_agree f g n (λ i l. h i (omega arith)), h n (omega arith)) (sym (map-append g (upto n) (n ∷ [])))

pub upto_add : (m n : ℕ) → upto (m + n) ≡ upto m ++ map (λ i. m + i) (upto n)
upto_add m zero = let e : m + 0 ≡ m = omega arith in rw e (sym (append-nil (upto m)))
upto_add m (suc n) =
    let e : m + suc n ≡ suc (m + n) = omega arith in
    rw e (rw (upto_add m n) (append_assoc (upto m) (map (λ i. m + i) (upto n)) ((m + n) ∷ []) ∙ ap (λ t. upto m ++ t) (sym (map-append (λ i. m + i) (upto n) (n ∷ [])))))

pub upto_below : (n : ℕ) → All (λ r. r < n) (upto n)
upto_below zero = All-nil (λ r. r < 0)
upto_below (suc n) = All-push (λ r. r < suc n) (upto n) n (All-weaker (λ r. r < n) (λ r. r < suc n) (λ x h. omega arith) (upto n) (upto_below n)) (omega arith)

pub places_below : (t : ℕ → Bool) (n : ℕ) → All (λ r. r < n) (places t n)
places_below t n = All-filter t (λ r. r < n) (upto n) (upto_below n)

-- no place, and one place

pub places_false : (n : ℕ) → places (λ r. false) n ≡ []
places_false zero = refl
places_false (suc n) = filter-append (λ r. false) (upto n) (n ∷ []) ∙ rw (places_false n) refl

pub places_past : (o n : ℕ) → n ≤ o → places (λ r. nat_eq o r) n ≡ []
places_past o n h = same_below (λ r. nat_eq o r) (λ r. false) n (λ r l. ne_eqb o r (λ e. absurd (omega arith))) ∙ places_false n

pub places_own : (o n : ℕ) → o < n → places (λ r. nat_eq o r) n ≡ o ∷ []
places_own o zero h = absurd (omega arith)
places_own o (suc n) h = filter-append (λ r. nat_eq o r) (upto n) (n ∷ []) ∙ elim (cases_lt o n) [
  | inl l ↦ rw (places_own o n l, ne_eqb o n (λ e. absurd (omega arith))) refl
  | inr g ↦ (let e : o ≡ n = omega arith in rw (places_past o n g, eq-eqb o n e) (ap (λ t. t ∷ []) (sym e)))
]

-- what a place among some passes

pub has_passes : (t : ℕ → Bool) (xs : List ℕ) (i : ℕ) → has (filter t xs) i ≡ true → t i ≡ true
has_passes t [] i h = absurd (false≢true h)
has_passes t (x ∷ xs) i h = elim (cases_Bool (t x)) [
  | inl p ↦ (let h2 : has (x ∷ filter t xs) i ≡ true = rw p at h in
      elim (or_cases (nat_eq i x) _ h2) [ inl e ↦ rw (eqb-true i x e) p | inr r ↦ has_passes t xs i r ])
  | inr p ↦ (let h2 : has (filter t xs) i ≡ true = rw p at h in has_passes t xs i h2)
]

pub has_filter : (t : ℕ → Bool) (xs : List ℕ) (i : ℕ) → has xs i ≡ true → t i ≡ true → has (filter t xs) i ≡ true
has_filter t [] i h k = absurd (false≢true h)
has_filter t (x ∷ xs) i h k = elim (or_cases (nat_eq i x) _ h) [
  | inl e ↦ (let here : t x ≡ true = rw (sym (eqb-true i x e)) k in rw here (or_left (nat_eq i x) _ e))
  | inr r ↦ (let rest : has (filter t xs) i ≡ true = has_filter t xs i r k in
      elim (cases_Bool (t x)) [ inl p ↦ rw p (or_right (nat_eq i x) _ rest) | inr p ↦ rw p rest ])
]

pub has_upto : (n i : ℕ) → i < n → has (upto n) i ≡ true
has_upto zero i h = absurd (omega arith)
has_upto (suc n) i h = list_any-append (nat_eq i) (upto n) (n ∷ []) ∙ elim (at_most i n (omega arith)) [
  | inl e ↦ or_right (has (upto n) i) _ (or_left (nat_eq i n) false (eq-eqb i n e))
  | inr l ↦ or_left _ _ (has_upto n i l)
]
  where
    at_most : (i n : ℕ) → i < suc n → (i ≡ n) ⊎ (i < n)
    at_most i n h = grind arith

pub has_places : (t : ℕ → Bool) (n i : ℕ) → i < n → has (places t n) i ≡ t i
has_places t n i h = elim (cases_Bool (t i)) [
  | inl p ↦ has_filter t (upto n) i (has_upto n i h) p ∙ sym p
  | inr p ↦ elim (cases_Bool (has (places t n) i)) [ inl q ↦ absurd (false≢true (sym p ∙ has_passes t (upto n) i q)) | inr q ↦ q ∙ sym p ]
]

pub has_below : (n : ℕ) (A : List ℕ) → All (λ r. r < n) A → (i : ℕ) → has A i ≡ true → i < n
has_below n [] h i q = absurd (false≢true q)
has_below n (x ∷ xs) h i q = elim (or_cases (nat_eq i x) _ q) [
  | inl e ↦ (let l : x < n = h 0 0 (omega arith) in rw (eqb-true i x e) l)
  | inr r ↦ has_below n xs (λ k d l. h (suc k) d (omega arith)) i r
]

-- the places that pass are ascending, without repeats and in range
pub places_are : (t : ℕ → Bool) (n : ℕ) → IsPlaces n (places t n)
places_are t n = same_below (has (places t n)) t n (λ i l. has_places t n i l)

pub single : (A : List ℕ) (i : ℕ) → length A ≤ 1 → has A i ≡ true → A ≡ i ∷ []
single [] i l h = absurd (false≢true h)
single (x ∷ []) i l h = elim (or_cases (nat_eq i x) false h) [ inl e ↦ ap (λ t. t ∷ []) (sym (eqb-true i x e)) | inr r ↦ absurd (false≢true r) ]
single (x ∷ y ∷ ys) i l h = absurd (omega arith)

pub has_single : (i a : ℕ) → has (i ∷ []) a ≡ true → a ≡ i
has_single i a h = elim (or_cases (nat_eq a i) false h) [ inl e ↦ eqb-true a i e | inr r ↦ absurd (false≢true r) ]

pub single_has : (i : ℕ) → has (i ∷ []) i ≡ true
single_has i = or_left (nat_eq i i) false (eq-eqb i i refl)

-- one place below n

pub has_one : (i k : ℕ) → has (i ∷ []) k ≡ nat_eq i k
has_one i k = elim (cases_Bool (nat_eq i k)) [
  | inl p ↦ or_left (nat_eq k i) false (eq-eqb k i (sym (eqb-true i k p))) ∙ sym p
  | inr p ↦ rw (ne_eqb k i (λ e. false≢true (sym p ∙ eq-eqb i k (sym e))), p) refl
]

pub one_place : (n i : ℕ) → i < n → IsPlaces n (i ∷ [])
one_place n i h = same_below (has (i ∷ [])) (nat_eq i) n (λ k l. has_one i k) ∙ places_own i n h

pub no_place : (n : ℕ) → IsPlaces n []
no_place n = places_false n

-- the places below the next number
pub places_more : (t : ℕ → Bool) (i : ℕ) → places t (i + 1) ≡ places t i ++ cond (t i) (i ∷ []) []
places_more t i =
    let next : i + 1 ≡ suc i = omega arith in
    ap (places t) next ∙ filter-append t (upto i) (i ∷ [])

pub few_places : (t : ℕ → Bool) (n : ℕ) → length (places t n) ≤ n
few_places t n = omega (arith, length-filter_both t (λ c. not (t c)) (λ c. refl) (upto n), length_upto n)

-- one more number
pub upto_more : (n : ℕ) → upto (n + 1) ≡ upto n ++ n ∷ []
upto_more n = let e : n + 1 ≡ suc n = omega arith in rw e refl

pub some_member : (f : ℕ → Bool) (A : List ℕ) → list_any f A ≡ true → (i : ℕ) × (has A i ≡ true) × (f i ≡ true)
some_member f [] h = absurd (false≢true h)
some_member f (x ∷ xs) h = elim (or_cases (f x) (list_any f xs) h) [
  | inl p ↦ (x, or_left (nat_eq x x) _ (eq-eqb x x refl), p)
  | inr q ↦ (let s = some_member f xs q in (s.0, or_right (nat_eq s.0 x) _ s.1, s.2))
]

pub nat_eq-sym : (a b : ℕ) → nat_eq a b ≡ nat_eq b a
nat_eq-sym a b = elim (cases_eq a b) [
  | inl e ↦ eq-eqb a b e ∙ sym (eq-eqb b a (sym e))
  | inr ne ↦ ne_eqb a b ne ∙ sym (ne_eqb b a (λ e. ne (sym e)))
]

-- the numbers below n as a range
pub upto_range : (n : ℕ) → upto n ≡ range_with_len 0 n
upto_range n = same_lists (upto n) (range_with_len 0 n) (length_upto n ∙ sym (length-range_with_len 0 n)) (λ i d h.
    let low : i < n = omega (arith, h, length_upto n) in
    get_or_upto n i d low ∙ sym (get_or-range_with_len 0 n i d low ∙ zero-add i))
