-- The rids of a stretch of an order that a list of places reaches.
use Rattle.std.proofs.{Common.{◌≡◌, ◌∙◌, ◌<◌, ◌≤◌, ◌+◌, ◌-◌, ℕ, true, false, List, [], ◌∷◌, ◌++◌, ◌&&◌, length, map, take, drop, refl, sym, ap, arith, inl, inr, filter, get_or, nat_le, nat_lt, ltb}, lemmas.Bool.{cases_lt, le-leb, lt-leb, lt-ltb, le-ltb, ltb-true, ltb-false, leb-true}, lemmas.List.{length-append, get_or_append_left, get_or-append-add, append-nil, take-append-drop, length-take-le, length-drop, get_or-take, get_or-drop}, lemmas.List.Elements.{filter-append, All-map, All-append, All-nil, filter_passes}, lemmas.List.Sorted.IsPartitionedBy-ltb}
use Rattle.std.specs.{List.{All, AllPairs, flat_map, slice_range}, List.Sorted.{IsNonDecreasingBy, IsPartitionedBy, IsPartitionPoint}}
use Rattle.smk_base.specs.Places.{upto, places, has}
use Rattle.smk_base.proofs.Places.{filter_filter, filter_map, map_map, same_below, at_places, upto_add, upto_below}
use Rattle.smk_model.proofs.Parts.{map_agree}
use Rattle.smk_skip.specs.Parts.{ranks, run}
use Rattle.smk_skip.proofs.Filters.{and_true, and_false, and_first, and_second, filter_none, filter_all}

-- a stretch of an order behind other rids
stretch_at : (before rids after : List ℕ) (i : ℕ) → i < length rids → get_or ((before ++ rids) ++ after) (length before + i) 0 ≡ get_or rids i 0
stretch_at before rids after i h =
    get_or_append_left (before ++ rids) after 0 (length before + i) (omega (arith, length-append before rids))
    ∙ get_or-append-add before rids i 0

-- what a list has of a stretch of the order
pub run_is : (order before rids after A : List ℕ) → order ≡ (before ++ rids) ++ after → run (length before) rids (ranks order A) ≡ filter (has A) rids
run_is order before rids after A e =
    let s = length before in
    let n = length rids in
    let m = length after in
    let t = λ (k : ℕ). has A (get_or order k 0) in
    let w = λ (k : ℕ). nat_le s k && nat_lt k (s + n) in
    let g = λ (k : ℕ). t k && w k in
    let f = λ (k : ℕ). get_or rids (k - s) 0 in
    let size : length order ≡ (s + n) + m = ap length e ∙ length-append (before ++ rids) after ∙ ap (λ z. z + m) (length-append before rids) in
    let middle = map (λ i. s + i) (upto n) in
    let last = map (λ i. (s + n) + i) (upto m) in
    let cut : upto (length order) ≡ (upto s ++ middle) ++ last = ap upto size ∙ upto_add (s + n) m ∙ ap (λ z. z ++ last) (upto_add s n) in
    let low : filter g (upto s) ≡ [] = filter_none g (upto s) (λ k d l.
    let is : get_or (upto s) k d < s = upto_below s k d l in
    and_false (t (get_or (upto s) k d)) (w (get_or (upto s) k d)) (ap (λ b. b && nat_lt (get_or (upto s) k d) (s + n)) (lt-leb s (get_or (upto s) k d) is))) in
    let high : filter g last ≡ [] = filter_none g last (All-map (λ k. g k ≡ false) (λ i. (s + n) + i) (upto m) (λ k d l.
    let j = (s + n) + get_or (upto m) k d in
    and_false (t j) (w j) (and_false (nat_le s j) (nat_lt j (s + n)) (le-ltb j (s + n) (omega arith))))) in
    let inner : (i : ℕ) → i < n → g (s + i) ≡ has A (get_or rids i 0) = λ i l.
    and_true (t (s + i)) (w (s + i)) (rw (le-leb s (s + i) (omega arith)) (lt-ltb (s + i) (s + n) (omega arith)))
    ∙ ap (λ z. has A (get_or z (s + i) 0)) e ∙ ap (has A) (stretch_at before rids after i l) in
    let kept : filter w (ranks order A) ≡ map (λ i. s + i) (places (λ i. g (s + i)) n) =
    filter_filter w t (upto (length order))
    ∙ ap (filter g) cut
    ∙ filter-append g (upto s ++ middle) last
    ∙ ap (λ z. z ++ filter g last) (filter-append g (upto s) middle)
    ∙ rw (low, high) (append-nil (filter g middle))
    ∙ filter_map g (λ i. s + i) (upto n) in
    ap (map f) kept
    ∙ map_map f (λ i. s + i) (places (λ i. g (s + i)) n)
    ∙ map_agree (λ i. f (s + i)) (λ i. get_or rids i 0) (λ i. ap (λ z. get_or rids z 0) (omega arith)) (places (λ i. g (s + i)) n)
    ∙ ap (map (λ i. get_or rids i 0)) (same_below (λ i. g (s + i)) (λ i. has A (get_or rids i 0)) n inner)
    ∙ at_places (has A) rids 0

rising : (xs : List ℕ) → AllPairs (λ j k. j < k) xs → IsNonDecreasingBy (λ k. k) xs
rising xs up i j d le low = elim (cases_lt i j) [
  | inl l ↦ (let lt : get_or xs i d < get_or xs j d = up i j d l low in omega arith)
  | inr g ↦ (let same : i ≡ j = omega arith in rw same (omega arith))
]

-- what `partition_point` asks and says at ascending places
pub parted_at : (xs : List ℕ) (t : ℕ) → AllPairs (λ j k. j < k) xs → IsPartitionedBy (λ y. ltb y t) xs
parted_at xs t up = IsPartitionedBy-ltb (λ k. k) xs t (rising xs up)

-- a cut, as the search for it says it
pub cut_from : (xs : List ℕ) (t i : ℕ) → IsPartitionPoint (λ y. ltb y t ≡ true) (λ y. ltb y t ≡ false) xs i → IsPartitionPoint (λ k. k < t) (λ k. t ≤ k) xs i
cut_from xs t i point = (λ k d l h. ltb-true (get_or xs k d) t (point.0 k d l h), λ k d l h. ltb-false (get_or xs k d) t (point.1 k d l h))

-- the places before i are below t, and those from i on are not
abbrev pub Cut : List ℕ → ℕ → ℕ → Type 0
Cut xs t i = IsPartitionPoint (λ k. k < t) (λ k. t ≤ k) xs i

-- the cut at a greater number comes no earlier
pub cuts_ordered : (xs : List ℕ) (s e i j : ℕ) → s ≤ e → Cut xs s i → Cut xs e j → i ≤ length xs → i ≤ j
cuts_ordered xs s e i j le first last within = elim (cases_lt j i) [
  | inl l ↦ (let small : get_or xs j 0 < s = first.0 j 0 (omega arith) l in
      let big : e ≤ get_or xs j 0 = last.1 j 0 (omega arith) (omega arith) in
      absurd (omega arith))
  | inr g ↦ g
]

-- the places from s on and before e lie between the two cuts
pub stretch_low : (xs : List ℕ) (s i j : ℕ) → Cut xs s i → j ≤ length xs → All (λ k. s ≤ k) (slice_range xs i j)
stretch_low xs s i j first within k d l =
    let size : length (slice_range xs i j) ≡ j - i = length-take-le (j - i) (drop i xs) (omega (arith, length-drop i xs)) in
    let at : get_or (slice_range xs i j) k d ≡ get_or xs (i + k) d = get_or-take (j - i) (drop i xs) k d (omega (arith, l, size)) ∙ get_or-drop i xs k d in
    rw at (first.1 (i + k) d (omega arith) (omega (arith, l, size)))

pub stretch_high : (xs : List ℕ) (e i j : ℕ) → Cut xs e j → j ≤ length xs → All (λ k. k < e) (slice_range xs i j)
stretch_high xs e i j last within k d l =
    let size : length (slice_range xs i j) ≡ j - i = length-take-le (j - i) (drop i xs) (omega (arith, length-drop i xs)) in
    let at : get_or (slice_range xs i j) k d ≡ get_or xs (i + k) d = get_or-take (j - i) (drop i xs) k d (omega (arith, l, size)) ∙ get_or-drop i xs k d in
    rw at (last.0 (i + k) d (omega arith) (omega (arith, l, size)))

pub between_is : (xs : List ℕ) (s e i j : ℕ) → Cut xs s i → Cut xs e j → i ≤ j → j ≤ length xs → slice_range xs i j ≡ filter (λ k. nat_le s k && nat_lt k e) xs
between_is xs s e i j first last le within =
    let g = λ (k : ℕ). nat_le s k && nat_lt k e in
    let mid = slice_range xs i j in
    let rest = drop (j - i) (drop i xs) in
    let low : filter g (take i xs) ≡ [] = filter_none g (take i xs) (λ k d l.
    let here : k < i = omega (arith, l, length-take-le i xs (omega arith)) in
    let x = get_or xs k d in
    let at : get_or (take i xs) k d ≡ x = get_or-take i xs k d here in
    rw (at, lt-leb s x (first.0 k d (omega arith) here)) refl) in
    let kept : filter g mid ≡ mid = filter_all g mid (λ k d l.
    let x = get_or mid k d in
    rw (le-leb s x (stretch_low xs s i j first within k d l)) (lt-ltb x e (stretch_high xs e i j last within k d l))) in
    let high : filter g rest ≡ [] = filter_none g rest (λ k d l.
    let size : length rest ≡ (length xs - i) - (j - i) = length-drop (j - i) (drop i xs) ∙ ap (λ n. n - (j - i)) (length-drop i xs) in
    let x = get_or xs (i + ((j - i) + k)) d in
    let at : get_or rest k d ≡ x = get_or-drop (j - i) (drop i xs) k d ∙ get_or-drop i xs ((j - i) + k) d in
    rw at (and_false (nat_le s x) (nat_lt x e) (le-ltb x e (last.1 (i + ((j - i) + k)) d (omega arith) (omega (arith, l, size)))))) in
    let parts : xs ≡ take i xs ++ (mid ++ rest) = sym (ap (λ z. take i xs ++ z) (take-append-drop (j - i) (drop i xs)) ∙ take-append-drop i xs) in
    sym (ap (filter g) parts ∙ filter-append g (take i xs) (mid ++ rest) ∙ ap (λ z. filter g (take i xs) ++ z) (filter-append g mid rest) ∙ rw (low, kept, high) (append-nil mid))

-- a run has rids of the stretch alone
pub run_below : (start : ℕ) (rids xs : List ℕ) (n : ℕ) → All (λ r. r < n) rids → All (λ r. r < n) (run start rids xs)
run_below start rids xs n low =
    let g = λ (k : ℕ). nat_le start k && nat_lt k (start + length rids) in
    let kept = filter g xs in
    All-map (λ r. r < n) (λ k. get_or rids (k - start) 0) kept (λ k d l.
    let x = get_or kept k d in
    let passes : g x ≡ true = filter_passes g xs k d l in
    let from : start ≤ x = leb-true start x (and_first (nat_le start x) (nat_lt x (start + length rids)) passes) in
    let to : x < start + length rids = ltb-true x (start + length rids) (and_second (nat_le start x) (nat_lt x (start + length rids)) passes) in
    low (x - start) 0 (omega arith))

pub all_below : (f : ℕ → List ℕ) (xs : List ℕ) (n : ℕ) → ((x : ℕ) → All (λ r. r < n) (f x)) → All (λ r. r < n) (flat_map f xs)
all_below f [] n h = All-nil (λ r. r < n)
all_below f (x ∷ xs) n h = All-append (λ r. r < n) (f x) (flat_map f xs) (h x) (all_below f xs n h)
