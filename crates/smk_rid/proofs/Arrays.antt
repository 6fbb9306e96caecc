-- Lists of at most one rid.
use Rattle.std.proofs.{Common.{◌≡◌, ◌∙◌, ◌<◌, ◌≤◌, ℕ, zero, suc, length, List, [], ◌∷◌, ◌++◌, refl, sym, ap, map, arith, get_or, set, take, drop, Option, None, Some, inl, inr}, lemmas.Bool.{cases_eq, eq-eqb, ne_eqb}, Math.ListN.replicate, lemmas.List.{length-map, map-append, length-take-le, length-drop, length-replicate, same_lists, get_or-map, map-set}, lemmas.List.Elements.{All-map, All-weaker, All-take, All-drop, All-replicate}, lemmas.List.Sums.{sum_by-le, sum_by-take-drop, sum_by-cons}, lemmas.List.Folds.sum_by-replicate}
use Rattle.std.specs.{Option.{option_to_list, IfSome}, List.All}
use Rattle.smk_base.specs.Places.{upto, IsPlaces, pairs_of, own_lists, empty_lists}
use Rattle.smk_rid.specs.{Maps.{IsMap, IsSingle, array_lists}, Packing.one_of}
use Rattle.smk_rid.proofs.Packs.{one_is}
use Rattle.smk_base.proofs.Places.{no_place, upto_below, length_upto, one_place}

-- lists of at most one rid have no more rids than there are lists
pub pairs_single : (lists : List (List ℕ)) → IsSingle lists → pairs_of lists ≤ length lists
pairs_single lists h = omega (arith, sum_by-le (length {A = ℕ}) 1 lists h)

-- where each has one, as many stand before a list as there are lists before it
pub start_full : (lists : List (List ℕ)) (i : ℕ) → IsSingle lists → pairs_of lists ≡ length lists → i ≤ length lists → i ≡ pairs_of (take i lists)
start_full lists i h full low =
    omega (arith, full, sum_by-take-drop (length {A = ℕ}) lists i, pairs_single (take i lists) (All-take (λ l. length l ≤ 1) i lists h), pairs_single (drop i lists) (All-drop (λ l. length l ≤ 1) i lists h), length-take-le i lists low, length-drop i lists)

pub ones-upto : (n : ℕ) → n ≤ 4294967295 → map one_of (upto n) ≡ map (λ i. i ∷ []) (upto n)
ones-upto zero h = refl
ones-upto (suc n) h =
    map-append one_of (upto n) (n ∷ [])
    ∙ rw (ones-upto n (omega arith), one_is n (omega arith)) (sym (map-append (λ i. i ∷ []) (upto n) (n ∷ [])))

pub pairs_ones : (xs : List ℕ) → pairs_of (map (λ i. i ∷ []) xs) ≡ length xs
pairs_ones [] = refl
pairs_ones (x ∷ xs) = omega (arith, sum_by-cons (length {A = ℕ}) (x ∷ []) (map (λ i. i ∷ []) xs), pairs_ones xs)

pub pairs-own : (n : ℕ) → pairs_of (map (λ i. i ∷ []) (upto n)) ≡ n
pairs-own n = pairs_ones (upto n) ∙ length_upto n

pub IsMap-own_lists : (n : ℕ) → n ≤ 1048576 → IsMap (own_lists n)
IsMap-own_lists n h = record {
  sets = All-map (IsPlaces n) (λ i. i ∷ []) (upto n) (All-weaker (λ i. i < n) (λ i. IsPlaces n (i ∷ [])) (one_place n) (upto n) (upto_below n));
  short = omega (arith, length-map (upto n) (λ i. i ∷ []), length_upto n);
  few = omega (arith, pairs-own n);
}

pub single-own : (n : ℕ) → IsSingle (map (λ i. i ∷ []) (upto n))
single-own n = All-map (λ l. length l ≤ 1) (λ i. i ∷ []) (upto n) (λ k d l. omega arith)

-- rids below a bound stand for lists of one each
pub ones_are : (rids : List ℕ) (bound : ℕ) → bound < 4294967296 → All (λ r. r < bound) rids → map one_of rids ≡ map (λ r. r ∷ []) rids
ones_are rids bound h below =
    let long : length (map one_of rids) ≡ length rids = length-map rids one_of in
    let long2 : length (map (λ (r : ℕ). r ∷ []) rids) ≡ length rids = length-map rids (λ r. r ∷ []) in
    same_lists (map one_of rids) (map (λ r. r ∷ []) rids) (long ∙ sym long2) (λ k d low.
    let lowk : k < length rids = omega (arith, low, long) in
    get_or-map one_of rids k 0 d lowk ∙ one_is (get_or rids k 0) (omega (arith, below k 0 lowk)) ∙ sym (get_or-map (λ r. r ∷ []) rids k 0 d lowk))

pub IsMap-ones : (rids : List ℕ) (bound : ℕ) → length rids ≤ 1048576 → All (λ r. r < bound) rids → IsMap (record { lists = map (λ r. r ∷ []) rids; bound = bound })
IsMap-ones rids bound few below = record {
  sets = All-map (IsPlaces bound) (λ r. r ∷ []) rids (All-weaker (λ r. r < bound) (λ r. IsPlaces bound (r ∷ [])) (one_place bound) rids below);
  short = omega (arith, length-map rids (λ r. r ∷ []));
  few = omega (arith, pairs_ones rids);
}

pub single-ones : (rids : List ℕ) → IsSingle (map (λ r. r ∷ []) rids)
single-ones rids = All-map (λ l. length l ≤ 1) (λ r. r ∷ []) rids (λ k d l. omega arith)

-- numbers that stand for none are empty lists
pub ones-replicate : (n : ℕ) → map one_of (replicate n 4294967295) ≡ replicate n []
ones-replicate zero = refl
ones-replicate (suc n) = ap (λ (z : List (List ℕ)). [] ∷ z) (ones-replicate n)

pub pairs-replicate : (n : ℕ) → pairs_of (replicate n []) ≡ 0
pairs-replicate n = omega (arith, sum_by-replicate (length {A = ℕ}) n [])

pub IsMap-empty_lists : (n bound : ℕ) → n < 4294967296 → IsMap (empty_lists n bound)
IsMap-empty_lists n bound h = record {
  sets = All-replicate (IsPlaces bound) n [] (no_place bound);
  short = omega (arith, length-replicate n (let e : List ℕ = [] in e));
  few = omega (arith, pairs-replicate n);
}

-- numbers stand for lists of at most one rid
one_single : (r : ℕ) → length (one_of r) ≤ 1
one_single r = elim (cases_eq r 4294967295) [
  | inl none ↦ rw (eq-eqb r 4294967295 none) (omega arith)
  | inr some ↦ rw (ne_eqb r 4294967295 some) (omega arith)
]

pub single-ones_of : (rids : List ℕ) → IsSingle (map one_of rids)
single-ones_of rids = All-map (λ l. length l ≤ 1) one_of rids (λ k d l. one_single (get_or rids k d))

-- a rid that is set in the place of none is the last of its list
pub ones-set : (rids : List ℕ) (bound i rid : ℕ) → rid < bound → bound < 4294967296 → get_or (map one_of rids) i [] ≡ [] → map one_of (set rids i rid) ≡ set (map one_of rids) i (get_or (map one_of rids) i [] ++ rid ∷ [])
ones-set rids bound i rid below h free =
    map-set one_of rids i rid ∙ ap (set (map one_of rids) i) (one_is rid (omega arith) ∙ ap (λ (front : List ℕ). front ++ rid ∷ []) (sym free))

-- optional rids
option_set : (n : ℕ) (o : Option ℕ) → IfSome o (λ r. r < n) → IsPlaces n (option_to_list o)
option_set n None h = no_place n
option_set n (Some r) h = one_place n r h

option_single : (o : Option ℕ) → length (option_to_list o) ≤ 1
option_single None = omega arith
option_single (Some r) = omega arith

pub single-options : (of : List (Option ℕ)) → IsSingle (map option_to_list of)
single-options of = All-map (λ l. length l ≤ 1) option_to_list of (λ k d l. option_single (get_or of k d))

pub IsMap-array_lists : (of : List (Option ℕ)) (bound : ℕ) → length of ≤ 1048576 → All (λ o. IfSome o (λ r. r < bound)) of → IsMap (array_lists of bound)
IsMap-array_lists of bound few below = record {
  sets = All-map (IsPlaces bound) option_to_list of (λ k d l. option_set bound (get_or of k d) (below k d l));
  short = omega (arith, length-map {B = List ℕ} of option_to_list);
  few = omega (arith, pairs_single (map option_to_list of) (single-options of), length-map {B = List ℕ} of option_to_list);
}
