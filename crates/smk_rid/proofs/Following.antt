-- Lists behind lists.
use Rattle.std.proofs.{Common.{◌≡◌, ◌<◌, ◌≤◌, ◌+◌, ℕ, length, List, [], ◌∷◌, refl, map, arith}, lemmas.List.{length-map, length-append, get_or-map}, lemmas.List.Elements.{All-map, All-append, All-weaker}, lemmas.List.Sums.{sum_by-append, sum_by-cons}}
use Rattle.std.specs.List.{All}
use Rattle.smk_base.specs.Places.{Lists, IsPlaces, pairs_of, followed}
use Rattle.smk_rid.specs.Maps.{IsMap, IsSingle}
use Rattle.smk_rid.proofs.{Sets.{is_below, lifted, set_rises}, Rising.rising_is}

-- a set whose places are moved
moved_set : (by n : ℕ) (A : List ℕ) → IsPlaces n A → IsPlaces (by + n) (map (λ i. by + i) A)
moved_set by n A is =
    let long = length-map A (λ i. by + i) in
    rising_is (by + n) (map (λ i. by + i) A)
    (λ i j d lt low.
    let p = get_or-map (λ i. by + i) A i d d (omega (arith, long)) in
    let q = get_or-map (λ i. by + i) A j d d (omega (arith, long)) in
    rw (p, q) (omega (arith, set_rises n A is i j d lt (omega (arith, long)))))
    (All-map (λ r. r < by + n) (λ i. by + i) A (All-weaker (λ r. r < n) (λ r. by + r < by + n) (λ r low. omega arith) A (is_below n A is)))

-- as many rids are moved
pub pairs_moved : (by : ℕ) (lists : List (List ℕ)) → pairs_of (map (map (λ i. by + i)) lists) ≡ pairs_of lists
pairs_moved by [] = refl
pairs_moved by (x ∷ xs) = omega (arith, sum_by-cons (length {A = ℕ}) (map (λ i. by + i) x) (map (map (λ i. by + i)) xs), sum_by-cons (length {A = ℕ}) x xs, pairs_moved by xs, length-map x (λ i. by + i))

pub pairs_followed : (a b : Lists) → pairs_of (followed a b).lists ≡ pairs_of a.lists + pairs_of b.lists
pairs_followed a b = omega (arith, sum_by-append (length {A = ℕ}) a.lists (map (map (λ i. a.bound + i)) b.lists), pairs_moved a.bound b.lists)

pub IsMap-followed : (a b : Lists) → IsMap a → IsMap b → length a.lists + length b.lists < 4294967296 → pairs_of a.lists + pairs_of b.lists ≤ 16777216 → IsMap (followed a b)
IsMap-followed a b h k short few = record {
  sets = All-append (IsPlaces (a.bound + b.bound)) a.lists (map (map (λ i. a.bound + i)) b.lists)
      (All-weaker (IsPlaces a.bound) (IsPlaces (a.bound + b.bound)) (λ A is. lifted a.bound (a.bound + b.bound) A is (omega arith)) a.lists h.sets)
      (All-map (IsPlaces (a.bound + b.bound)) (map (λ i. a.bound + i)) b.lists (All-weaker (IsPlaces b.bound) (λ A. IsPlaces (a.bound + b.bound) (map (λ i. a.bound + i) A)) (moved_set a.bound b.bound) b.lists k.sets));
  short = omega (arith, length-append a.lists (map (map (λ i. a.bound + i)) b.lists), length-map b.lists (map (λ i. a.bound + i)));
  few = omega (arith, pairs_followed a b);
}

pub single-followed : (a b : Lists) → IsSingle a.lists → IsSingle b.lists → IsSingle (followed a b).lists
single-followed a b h k =
    All-append (λ (l : List ℕ). length l ≤ 1) a.lists (map (map (λ i. a.bound + i)) b.lists) h
    (All-map (λ (l : List ℕ). length l ≤ 1) (map (λ i. a.bound + i)) b.lists (All-weaker (λ (l : List ℕ). length l ≤ 1) (λ (l : List ℕ). length (map (λ i. a.bound + i) l) ≤ 1) (λ l low. omega (arith, length-map l (λ i. a.bound + i))) b.lists k))

-- what is below a bound, moved, is below both bounds together
pub below_moved : (by n top : ℕ) (lists : List (List ℕ)) → by + n ≤ top → All (IsPlaces n) lists → All (All (λ rid. by + rid < top)) lists
below_moved by n top lists low sets = All-weaker (IsPlaces n) (All (λ rid. by + rid < top)) (λ A is. All-weaker (λ r. r < n) (λ r. by + r < top) (λ r h. omega arith) A (is_below n A is)) lists sets
