-- Lists put together.
use Rattle.std.proofs.{Common.{◌≡◌, ◌∙◌, ◌<◌, ◌≤◌, ◌+◌, ℕ, length, List, [], ◌∷◌, ◌++◌, refl, sym, ap, arith, map, get_or, set, ◌||◌, nat_eq}, lemmas.List.Elements.{All-map, All-push, All-set}, lemmas.List.Concat.concat_is, lemmas.List.Folds.{flat_map-map, list_any-append}, lemmas.List.Sums.{sum_by_push, sum_by-set}, lemmas.List.{get_or_default, length_push, length-set, length-map, same_lists}}
use Rattle.std.specs.List.{All, concat, list_any, flat_map}
use Rattle.smk_base.specs.Places.{Lists, upto, places, has, IsPlaces, pairs_of, list_at, members_at, composed, merged}
use Rattle.smk_rid.specs.Maps.{IsMap, with_list, with_rid_at, merge_at}
use Rattle.smk_rid.proofs.{Sets.{or_false, alone}, Rising.set_push}
use Rattle.smk_base.proofs.Places.{get_or_map_upto, same_below, no_place, places_are, length_upto}

pub has-flat_map : (f : ℕ → List ℕ) (xs : List ℕ) (r : ℕ) → has (flat_map f xs) r ≡ list_any (λ i. has (f i) r) xs
has-flat_map f [] r = refl
has-flat_map f (x ∷ xs) r = list_any-append (nat_eq r) (f x) (flat_map f xs) ∙ ap (λ b. has (f x) r || b) (has-flat_map f xs r)

-- the members of lists put one after the other
pub members_is : (m : Lists) (xs : List ℕ) → places (has (flat_map (list_at m) xs)) m.bound ≡ members_at m xs
members_is m xs = same_below (has (flat_map (list_at m) xs)) (λ r. list_any (λ i. has (list_at m i) r) xs) m.bound (λ k l. has-flat_map (list_at m) xs k)

pub members_set : (m : Lists) (xs : List ℕ) → IsPlaces m.bound (members_at m xs)
members_set m xs = places_are (λ r. list_any (λ i. has (list_at m i) r) xs) m.bound

pub IsMap-more : (m : Lists) → IsMap m → length m.lists < 4294967295 → IsMap (with_list m [])
IsMap-more m h room = record {
  sets = All-push (IsPlaces m.bound) m.lists [] h.sets (no_place m.bound);
  short = omega (arith, length_push {X = List ℕ} m.lists []);
  few = omega (arith, h.few, sum_by_push (length {A = ℕ}) m.lists []);
}

pub pairs-add : (m : Lists) (i x : ℕ) → i < length m.lists → pairs_of (with_rid_at m i x).lists ≡ pairs_of m.lists + 1
pairs-add m i x low = omega (arith, sum_by-set (length {A = ℕ}) m.lists i (get_or m.lists i [] ++ x ∷ []) [] low, length_push (get_or m.lists i []) x)

pub IsMap-add : (m : Lists) (i x : ℕ) → IsMap m → i < length m.lists → x < m.bound → All (λ r. r < x) (get_or m.lists i []) → pairs_of m.lists < 16777216 → IsMap (with_rid_at m i x)
IsMap-add m i x h low below above few = record {
  sets = All-set (IsPlaces m.bound) m.lists i (get_or m.lists i [] ++ x ∷ []) (set_push m.bound (get_or m.lists i []) x (h.sets i [] low) above below) h.sets;
  short = omega (arith, h.short, length-set m.lists i (get_or m.lists i [] ++ x ∷ []));
  few = omega (arith, few, pairs-add m i x low);
}

pub IsMap-composed : (a b : Lists) → length a.lists < 4294967296 → pairs_of (composed a b).lists ≤ 16777216 → IsMap (composed a b)
IsMap-composed a b short few = record {
  sets = All-map (IsPlaces b.bound) (members_at b) a.lists (λ k d l. members_set b (get_or a.lists k d));
  short = omega (arith, short, length-map a.lists (members_at b));
  few = few;
}

pub IsMap-merged : (a b : Lists) → length a.lists < 4294967296 → pairs_of (merged a b).lists ≤ 16777216 → IsMap (merged a b)
IsMap-merged a b short few = record {
  sets = All-map (IsPlaces a.bound) (merge_at a b) (upto (length a.lists)) (λ k d l. let i = get_or (upto (length a.lists)) k d in places_are (λ r. has (list_at a i) r || has (list_at b i) r) a.bound);
  short = omega (arith, short, length-map (upto (length a.lists)) (merge_at a b), length_upto (length a.lists));
  few = few;
}

-- the members of one list
pub members_one : (m : Lists) (xs : List ℕ) → length xs ≡ 1 → IsPlaces m.bound (list_at m (get_or xs 0 0)) → list_at m (get_or xs 0 0) ≡ members_at m xs
members_one m xs h set =
    let l = list_at m (get_or xs 0 0) in
    sym set ∙ same_below (has l) (λ r. list_any (λ i. has (list_at m i) r) (get_or xs 0 0 ∷ [])) m.bound (λ k low. or_false (has l k)) ∙ ap (members_at m) (sym (alone xs h))

-- all lists one after the other
pub flat_all : (lists : List (List ℕ)) → concat lists ≡ flat_map (λ i. get_or lists i []) (upto (length lists))
flat_all lists =
    concat_is lists ∙ sym (sym (flat_map-map (λ (l : List ℕ). l) (λ i. get_or lists i []) (upto (length lists))) ∙ ap (flat_map (λ (l : List ℕ). l)) (all_lists lists))
  where
    all_lists : (lists : List (List ℕ)) → map (λ i. get_or lists i []) (upto (length lists)) ≡ lists
    all_lists lists =
        let at = λ (i : ℕ). get_or lists i [] in
        let n = length lists in
        let long : length (map at (upto n)) ≡ n = length-map (upto n) at ∙ length_upto n in
        same_lists (map at (upto n)) lists long (λ k d low.
        let lowk : k < n = omega (arith, low, long) in
        get_or_map_upto at n k d lowk ∙ get_or_default lists k [] d lowk)
