-- Lists of at most one place, looked up in other lists.
use Rattle.std.proofs.{Common.{◌≡◌, ◌∙◌, ◌<◌, ◌≤◌, ◌+◌, ℕ, suc, length, List, [], ◌∷◌, ◌++◌, refl, sym, map, arith}, lemmas.List.{append-nil, map-append}, lemmas.List.Elements.{All-append, All-nil, All-weaker}, lemmas.List.Sums.sum_by_push}
use Rattle.std.specs.List.{All, flat_map}
use Rattle.smk_base.specs.Places.{Lists, IsPlaces, pairs_of, list_at, members_at, upto}
use Rattle.smk_rid.specs.{Maps.IsMap, Packing.one_of}
use Rattle.smk_rid.proofs.{Sets.{is_below, lifted}, Joins.members_one}
use Rattle.smk_base.proofs.Places.{places_false, upto_below}

-- the members of the list at no place or at one are that list
pub members_single : (m : Lists) (xs : List ℕ) → All (IsPlaces m.bound) m.lists → All (λ p. p < length m.lists) xs → length xs ≤ 1 → flat_map (list_at m) xs ≡ members_at m xs
members_single m [] sets below few = sym (places_false m.bound)
members_single m (x ∷ []) sets below few =
    append-nil (list_at m x) ∙ members_one m (x ∷ []) refl (sets x [] (below 0 0 (omega arith)))
members_single m (x ∷ y ∷ ys) sets below few = absurd (omega arith)

-- what lists of rids below a bound have is below it
pub flat_below : (m : Lists) (xs : List ℕ) → All (IsPlaces m.bound) m.lists → All (λ p. p < length m.lists) xs → All (λ r. r < m.bound) (flat_map (list_at m) xs)
flat_below m [] sets below = All-nil (λ r. r < m.bound)
flat_below m (x ∷ xs) sets below =
    All-append (λ r. r < m.bound) (list_at m x) (flat_map (list_at m) xs) (is_below m.bound (list_at m x) (sets x [] (below 0 0 (omega arith))))
    (flat_below m xs sets (λ k d low. below (suc k) d (omega arith)))

-- lists below a bound are below a greater one
pub IsMap-wider : (m : Lists) (n : ℕ) → IsMap m → m.bound ≤ n → IsMap (record { lists = m.lists; bound = n })
IsMap-wider m n h le = record {
  sets = All-weaker (IsPlaces m.bound) (IsPlaces n) (λ A is. lifted m.bound n A is le) m.lists h.sets;
  short = h.short;
  few = h.few;
}

-- one more number, and the list that it stands for
pub ones_push : (rids : List ℕ) (r : ℕ) → map one_of (rids ++ r ∷ []) ≡ map one_of rids ++ one_of r ∷ []
ones_push rids r = map-append one_of rids (r ∷ [])

pub pairs_push : (lists : List (List ℕ)) (list : List ℕ) → pairs_of (lists ++ list ∷ []) ≡ pairs_of lists + length list
pairs_push lists list = sum_by_push (length {A = ℕ}) lists list

-- the rids of all lists, one after the other, are below the bound
pub all_below : (m : Lists) → All (IsPlaces m.bound) m.lists → All (λ r. r < m.bound) (flat_map (list_at m) (upto (length m.lists)))
all_below m sets = flat_below m (upto (length m.lists)) sets (upto_below (length m.lists))
