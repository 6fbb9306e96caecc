-- Lists one after the other as an order of their rids, and other lists as places in it.
use Rattle.std.proofs.{Common.{◌≡◌, ◌∙◌, ◌<◌, ◌≤◌, ◌+◌, ℕ, zero, suc, Bool, true, false, cond, List, [], ◌∷◌, ◌++◌, ◌&&◌, length, map, take, drop, refl, sym, ap, arith, inl, inr, filter, get_or, nat_eq, nat_lt}, lemmas.Bool.{cases_Bool, cases_lt, eq-eqb, ne_eqb, lt-ltb, le-ltb}, lemmas.List.{length-append, length-map, get_or-map, append-nil, map-append, append_assoc}, lemmas.List.Elements.{All-map, All-push, filter-append}, lemmas.List.Folds.concat-append, lemmas.List.Sums.{sum_by-cons, sum_by_more_le}}
use Rattle.std.specs.List.{All, concat, list_any}
use Rattle.smk_base.specs.Places.{Lists, IsPlaces, upto, places, has, list_at, pairs_of, members_at, composed, inverted}
use Rattle.smk_model.specs.Locals.{singles}
use Rattle.smk_base.proofs.Places.{filter_filter, same_below, at_places, places_false, places_are, map_map, map_upto, map_upto_agree, few_places}
use Rattle.smk_model.proofs.{Anys.or_false, Composed.{lists_by, bounded, lists_agree, compose_by, invert_by}, Counts.pairs_forward, Pairs.filter_le}
use Rattle.smk_rid.proofs.Packs.{length-concat}
use Rattle.smk_skip.specs.Parts.{ranks, ranked}
use Rattle.smk_skip.proofs.Filters.{and_second, filter_all}

-- the list at a place, behind those before it and before those after it
pub split_at : (lists : List (List ℕ)) (i : ℕ) → i < length lists → concat lists ≡ (concat (take i lists) ++ get_or lists i []) ++ concat (drop (suc i) lists)
split_at [] i h = absurd (omega arith)
split_at (x ∷ xs) zero h = refl
split_at (x ∷ xs) (suc i) h =
    ap (λ z. x ++ z) (split_at xs i (omega arith))
    ∙ sym (append_assoc x (concat (take i xs) ++ get_or xs i []) (concat (drop (suc i) xs)))
    ∙ ap (λ z. z ++ concat (drop (suc i) xs)) (sym (append_assoc x (concat (take i xs)) (get_or xs i [])))

-- one list more
pub concat_more : (lists : List (List ℕ)) (i : ℕ) → i < length lists → concat (take (i + 1) lists) ≡ concat (take i lists) ++ get_or lists i []
concat_more [] i h = absurd (omega arith)
concat_more (x ∷ xs) zero h = append-nil x
concat_more (x ∷ xs) (suc i) h =
    let next : suc i + 1 ≡ suc (i + 1) = omega arith in
    ap (λ k. concat (take k (x ∷ xs))) next
    ∙ ap (λ z. x ++ z) (concat_more xs i (omega arith))
    ∙ sym (append_assoc x (concat (take i xs)) (get_or xs i []))

-- for each place in an order the lists of a map that have its rid
owners_by : (order : List ℕ) (m : Lists) → All (λ r. r < m.bound) order → composed (singles order m.bound) (inverted m) ≡ lists_by (λ k g. list_any (λ r. has (list_at m g) r) (get_or order k 0 ∷ [])) (length order) (length m.lists)
owners_by order m low =
    let own : map (λ r. r ∷ []) order ≡ map (λ k. get_or order k 0 ∷ []) (upto (length order)) = ap (map (λ r. r ∷ [])) (sym (map_upto order 0)) ∙ map_map (λ r. r ∷ []) (λ k. get_or order k 0) (upto (length order)) in
    ap (λ (lists : List (List ℕ)). composed (bounded m.bound lists) (inverted m)) own
    ∙ compose_by (λ r g. has (list_at m g) r) (λ k. get_or order k 0 ∷ []) (length order) m.bound (length m.lists) (λ k l. All-push (λ r. r < m.bound) [] (get_or order k 0) (λ j d none. absurd (omega (arith, none))) (low k 0 l))

-- and inverted they are the places of each list's rids
pub owners_turned : (order : List ℕ) (m : Lists) → All (λ r. r < m.bound) order → inverted (composed (singles order m.bound) (inverted m)) ≡ ranked order m
owners_turned order m low =
    let n = length m.lists in
    ap inverted (owners_by order m low)
    ∙ invert_by (λ k g. list_any (λ r. has (list_at m g) r) (get_or order k 0 ∷ [])) (length order) n
    ∙ lists_agree (λ g k. list_any (λ r. has (list_at m g) r) (get_or order k 0 ∷ [])) (λ g k. has (list_at m g) (get_or order k 0)) n (length order) (λ g k _ _. or_false (has (list_at m g) (get_or order k 0)))
    ∙ ap (bounded (length order)) (sym (map_map (ranks order) (list_at m) (upto n)) ∙ ap (map (ranks order)) (map_upto m.lists []))

-- as many of them
pub owners_few : (order : List ℕ) (m : Lists) → All (λ r. r < m.bound) order → pairs_of (composed (singles order m.bound) (inverted m)).lists ≡ pairs_of (ranked order m).lists
owners_few order m low =
    let made : Lists = composed (singles order m.bound) (inverted m) in
    sym (pairs_forward.inverting made (All-map (IsPlaces made.bound) (members_at (inverted m)) (singles order m.bound).lists (λ i d l. places_are (λ r. list_any (λ i. has (list_at (inverted m) i) r) (get_or (singles order m.bound).lists i d)) made.bound))) ∙ ap (λ (z : Lists). pairs_of z.lists) (owners_turned order m low)

-- one where a test passes
abbrev tally : Bool → ℕ
tally b = cond b 1 0

counted : (t : ℕ → Bool) (n : ℕ) → length (places t (suc n)) ≡ length (places t n) + tally (t n)
counted t n =
    ap length (filter-append t (upto n) (n ∷ [])) ∙ elim (cases_Bool (t n)) [
      | inl p ↦ rw p (length-append (places t n) (n ∷ []))
      | inr p ↦ rw p (length-append (places t n) [])
    ]

count_both : (a b c : ℕ → Bool) (n : ℕ) → ((i : ℕ) → tally (a i) + tally (b i) ≡ tally (c i)) → length (places a n) + length (places b n) ≡ length (places c n)
count_both a b c zero h = refl
count_both a b c (suc n) h = omega (arith, counted a n, counted b n, counted c n, h n, count_both a b c n h)

split_tally : (x C : ℕ) (b : Bool) → tally (nat_lt x C && b) + tally (nat_eq C x && b) ≡ tally (nat_lt x (suc C) && b)
split_tally x C b = elim (cases_lt x C) [
  | inl l ↦ rw (lt-ltb x C l, ne_eqb C x (λ e. absurd (omega arith)), lt-ltb x (suc C) (omega arith)) (omega arith)
  | inr g ↦ elim (cases_lt C x) [
    | inl up ↦ rw (le-ltb x C g, ne_eqb C x (λ e. absurd (omega arith)), le-ltb x (suc C) (omega arith)) refl
    | inr le ↦ rw (le-ltb x C g, eq-eqb C x (omega arith), lt-ltb x (suc C) (omega arith)) (omega arith)
  ]
]

-- of lists by the number of each place, every place with a number below C has one
once_each : (t : ℕ → Bool) (o : ℕ → ℕ) (n C : ℕ) → length (filter t (concat (map (λ r. places (λ i. nat_eq r (o i)) n) (upto C)))) ≡ length (places (λ i. nat_lt (o i) C && t i) n)
once_each t o n zero = sym (ap length (same_below (λ i. nat_lt (o i) 0 && t i) (λ i. false) n (λ i l. ap (λ b. b && t i) (le-ltb (o i) 0 (omega arith))) ∙ places_false n))
once_each t o n (suc C) =
    let F = λ (r : ℕ). places (λ i. nat_eq r (o i)) n in
    let before = concat (map F (upto C)) in
    let parts : concat (map F (upto (suc C))) ≡ before ++ F C = ap concat (map-append F (upto C) (C ∷ [])) ∙ concat-append (map F (upto C)) (F C ∷ []) ∙ ap (λ z. before ++ z) (append-nil (F C)) in
    let kept : length (filter t (concat (map F (upto (suc C))))) ≡ length (filter t before) + length (filter t (F C)) = ap (λ z. length (filter t z)) parts ∙ ap length (filter-append t before (F C)) ∙ length-append (filter t before) (filter t (F C)) in
    let last : length (filter t (F C)) ≡ length (places (λ i. nat_eq C (o i) && t i) n) = ap length (filter_filter t (λ i. nat_eq C (o i)) (upto n)) in
    let both = count_both (λ i. nat_lt (o i) C && t i) (λ i. nat_eq C (o i) && t i) (λ i. nat_lt (o i) (suc C) && t i) n (λ i. split_tally (o i) C (t i)) in
    omega (arith, kept, last, both, once_each t o n C)

-- the places that have each number
pub turned_is : (of : List ℕ) (C : ℕ) → (inverted (singles of C)).lists ≡ map (λ r. places (λ i. nat_eq r (get_or of i 0)) (length of)) (upto C)
turned_is of C =
    let long : length (singles of C).lists ≡ length of = length-map of (λ r. r ∷ []) in
    ap (λ n. map (λ r. places (λ i. has (list_at (singles of C) i) r) n) (upto C)) long
    ∙ map_upto_agree (λ r. places (λ i. has (list_at (singles of C) i) r) (length of)) (λ r. places (λ i. nat_eq r (get_or of i 0)) (length of)) C (λ r low.
    same_below (λ i. has (list_at (singles of C) i) r) (λ i. nat_eq r (get_or of i 0)) (length of) (λ i l.
    ap (λ z. has z r) (get_or-map (λ r. r ∷ []) of i 0 [] l) ∙ or_false (nat_eq r (get_or of i 0))))

-- no place is there twice
pub once : (of : List ℕ) (C : ℕ) (t : ℕ → Bool) → length (filter t (concat (inverted (singles of C)).lists)) ≤ length (places t (length of))
once of C t =
    let o = λ (i : ℕ). get_or of i 0 in
    let same : length (filter t (concat (inverted (singles of C)).lists)) ≡ length (places (λ i. nat_lt (o i) C && t i) (length of)) = ap (λ z. length (filter t (concat z))) (turned_is of C) ∙ once_each t o (length of) C in
    omega (arith, same, filter_le (λ i. nat_lt (o i) C && t i) t (λ i h. and_second (nat_lt (o i) C) (t i) h) (upto (length of)))

-- the places that a list has in an order without repeats are no more than its rids
ranks_few : (order A : List ℕ) (n : ℕ) → ((t : ℕ → Bool) → length (filter t order) ≤ length (places t n)) → IsPlaces n A → length (ranks order A) ≤ length A
ranks_few order A n apart set =
    let kept : map (λ k. get_or order k 0) (ranks order A) ≡ filter (has A) order = at_places (has A) order 0 in
    omega (arith, ap length kept, length-map (ranks order A) (λ k. get_or order k 0), apart (has A), ap length set)

pairs_less : (f : List ℕ → List ℕ) (lists : List (List ℕ)) → All (λ A. length (f A) ≤ length A) lists → pairs_of (map f lists) ≤ pairs_of lists
pairs_less f [] h = omega arith
pairs_less f (x ∷ xs) h =
    let here : length (f x) ≤ length x = h 0 x (omega arith) in
    omega (arith, here, sum_by-cons (length {A = ℕ}) x xs, sum_by-cons (length {A = ℕ}) (f x) (map f xs), pairs_less f xs (λ k d l. h (suc k) d (omega arith)))

pub ranked_few : (order : List ℕ) (m : Lists) → ((t : ℕ → Bool) → length (filter t order) ≤ length (places t m.bound)) → All (IsPlaces m.bound) m.lists → pairs_of (ranked order m).lists ≤ pairs_of m.lists
ranked_few order m apart sets = pairs_less (ranks order) m.lists (λ k d l. ranks_few order (get_or m.lists k d) m.bound apart (sets k d l))

-- a list lies within the order
pub within_order : (lists : List (List ℕ)) (i : ℕ) → i < length lists → pairs_of (take i lists) + length (get_or lists i []) ≤ length (concat lists)
within_order lists i h = omega (arith, sum_by_more_le (length {A = ℕ}) lists i [] h, length-concat lists)

-- an order without repeats is no longer than its rids are many
pub order_few : (order : List ℕ) (n : ℕ) → ((t : ℕ → Bool) → length (filter t order) ≤ length (places t n)) → length order ≤ n
order_few order n apart = omega (arith, apart (λ i. true), ap length (filter_all (λ i. true) order (λ k d l. refl)), few_places (λ i. true) n)
