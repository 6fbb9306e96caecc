-- Classes of keys by first occurrence.
use Rattle.std.proofs.{Common.{◌≡◌, ◌∙◌, ◌<◌, ◌≤◌, ◌+◌, ℕ, suc, zero, Bool, true, false, cond, not, List, [], ◌∷◌, ◌++◌, length, map, take, refl, sym, ap, subst, arith, get_or, nat_eq, inl, inr}, lemmas.List.{length-map, get_or-map, same_lists, map-append, append-nil, take_all, take_more, length-take-le, get_or_append_left, get_or_default, get_or-append-add, length-append, take-append-le}, Math.Seq.take-append-add, lemmas.List.Sums.passes_at_first, lemmas.List.Elements.filter-append, lemmas.Bool.{cases_Bool, cases_eq, cases_order, or_right, eq-eqb, ne_eqb, false≢true, false_from_ne_true}}
use Rattle.std.specs.List.{list_any, position_or_len, All}
use Rattle.smk_model.specs.{Values.Row, Plain.{row_eq, add_first, firsts}, Lineage.{upto, places, row_at, sub}, Classes.{places_in, classes, first_places, new_places}, ClassLaws.{AreClasses, ClassesAre}}
use Rattle.smk_base.proofs.Places.{map_map, same_below, places_below}
use Rattle.smk_model.proofs.{Firsts.{row_same, row_is, row_itself, holds, holds_here, holds_at, firsts_holds, firsts_from, fold_append, add_known}, Locals.{IsApart, firsts_apart}, Parts.places_add}

-- the place of a row among rows that have it

abbrev pub place_in : List Row → Row → ℕ
place_in found row = position_or_len (row_eq row) found

place_below : (f : Row → Bool) (xs : List Row) → list_any f xs ≡ true → position_or_len f xs < length xs
place_below f [] h = absurd (false≢true h)
place_below f (x ∷ xs) h = elim (cases_Bool (f x)) [
  | inl p ↦ rw p (omega arith)
  | inr p ↦ let rest : list_any f xs ≡ true = rw p at h in rw p (omega (arith, place_below f xs rest))
]

pub found_below : (found : List Row) (row : Row) → holds found row ≡ true → place_in found row < length found
found_below found row h = place_below (row_eq row) found h

pub found_at : (found : List Row) (row : Row) → holds found row ≡ true → row_at found (place_in found row) ≡ row
found_at found row h = sym (row_is row _ (passes_at_first (row_eq row) found [] (found_below found row h)))

-- rows that are apart have one place each
pub same_place : (found : List Row) (p q : ℕ) → IsApart found → p < length found → q < length found → row_at found p ≡ row_at found q → p ≡ q
same_place found p q apart low high e = elim (cases_order p q) [
  | inl same ↦ same
  | inr o ↦ elim o [ inl l ↦ absurd (apart p q [] l high e) | inr g ↦ absurd (apart q p [] g low (sym e)) ]
]

-- the place of a row tells which of the found ones it is
pub key_test : (found : List Row) (row : Row) (p : ℕ) → IsApart found → holds found row ≡ true → p < length found → row_eq (row_at found p) row ≡ nat_eq (place_in found row) p
key_test found row p apart h low = elim (cases_eq (place_in found row) p) [
  | inl e ↦ (row_same (row_at found p) row).1 (ap (row_at found) (sym e) ∙ found_at found row h) ∙ sym (eq-eqb (place_in found row) p e)
  | inr ne ↦ rw (ne_eqb (place_in found row) p ne) (false_from_ne_true (row_eq (row_at found p) row) (λ q.
      ne (same_place found (place_in found row) p apart (found_below found row h) low (found_at found row h ∙ sym (row_is (row_at found p) row q)))))
]

pub known_key : (keys : List Row) (i : ℕ) → i < length keys → holds (firsts keys) (row_at keys i) ≡ true
known_key keys i h = firsts_holds keys (row_at keys i) (holds_at keys i h)

pub class_at : (found rows : List Row) (i : ℕ) → i < length rows → get_or (places_in found rows) i 0 ≡ place_in found (row_at rows i)
class_at found rows i h = get_or-map (place_in found) rows i [] 0 h

stand : (keys : List Row) → AreClasses keys (classes keys)
stand keys = record {
  long = length-map keys (place_in (firsts keys));
  below = λ i h. rw (class_at (firsts keys) keys i h) (found_below (firsts keys) (row_at keys i) (known_key keys i h));
  at = λ i h. rw (class_at (firsts keys) keys i h) (found_at (firsts keys) (row_at keys i) (known_key keys i h));
}

alone : (keys : List Row) (of : List ℕ) → AreClasses keys of → of ≡ classes keys
alone keys of are =
    let made = stand keys in
    same_lists of (classes keys) (are.long ∙ sym made.long) (λ k d h.
    let low : k < length keys = omega (arith, h, are.long) in
    get_or_default of k d 0 h ∙ same_place (firsts keys) (get_or of k 0) (get_or (classes keys) k 0) (firsts_apart keys) (are.below k low) (made.below k low) (are.at k low ∙ sym (made.at k low))
    ∙ sym (get_or_default (classes keys) k d 0 (omega (arith, h, are.long, made.long))))

pub members : (keys : List Row) (p : ℕ) → p < length (firsts keys) → places (λ i. row_eq (row_at (firsts keys) p) (row_at keys i)) (length keys) ≡ places (λ i. nat_eq (get_or (classes keys) i 0) p) (length keys)
members keys p low = same_below (λ i. row_eq (row_at (firsts keys) p) (row_at keys i)) (λ i. nat_eq (get_or (classes keys) i 0) p) (length keys) (λ i h.
    key_test (firsts keys) (row_at keys i) p (firsts_apart keys) (known_key keys i h) low ∙ ap (λ z. nat_eq z p) (sym (class_at (firsts keys) keys i h)))

-- first places

found_each : (keys found : List Row) → ((k : Row) → holds found k ≡ true → holds keys k ≡ true) → map (λ k. row_at keys (place_in keys k)) found ≡ found
found_each keys [] h = refl
found_each keys (x ∷ xs) h = rw (found_at keys x (h x (holds_here x xs)), found_each keys xs (λ k q. h k (or_right (row_eq k x) _ q))) refl

pub first_keys : (keys : List Row) → sub keys (first_places keys) ≡ firsts keys
first_keys keys = map_map (row_at keys) (place_in keys) (firsts keys) ∙ found_each keys (firsts keys) (λ k h. firsts_from keys k h)

-- a row that is there keeps its place when another follows
kept_place : (keys : List Row) (x k : Row) → holds keys k ≡ true → place_in (keys ++ x ∷ []) k ≡ place_in keys k
kept_place [] x k h = absurd (false≢true h)
kept_place (y ∷ ys) x k h = elim (cases_Bool (row_eq k y)) [
  | inl p ↦ rw p refl
  | inr p ↦ let rest : holds ys k ≡ true = rw p at h in rw p (ap (λ n. 1 + n) (kept_place ys x k rest))
]

kept_places : (keys found : List Row) (x : Row) → ((k : Row) → holds found k ≡ true → holds keys k ≡ true) → places_in (keys ++ x ∷ []) found ≡ places_in keys found
kept_places keys [] x h = refl
kept_places keys (k ∷ ks) x h = rw (kept_place keys x k (h k (holds_here k ks)), kept_places keys ks x (λ z q. h z (or_right (row_eq z k) _ q))) refl

last_place : (keys : List Row) (x : Row) → holds keys x ≡ false → place_in (keys ++ x ∷ []) x ≡ length keys
last_place [] x h = rw (row_itself x) refl
last_place (y ∷ ys) x h = elim (cases_Bool (row_eq x y)) [
  | inl p ↦ let wrong : true ≡ false = rw p at h in absurd (false≢true (sym wrong))
  | inr p ↦ let rest : holds ys x ≡ false = rw p at h in rw p (omega (arith, last_place ys x rest))
]

first_more : (keys : List Row) (x : Row) → first_places (keys ++ x ∷ []) ≡ first_places keys ++ cond (not (holds keys x)) (length keys ∷ []) []
first_more keys x =
    let all = keys ++ x ∷ [] in
    let old : places_in all (firsts keys) ≡ first_places keys = kept_places keys (firsts keys) x (λ k h. firsts_from keys k h) in
    let more : firsts all ≡ add_first (firsts keys) x = fold_append [] keys (x ∷ []) in
    elim (cases_Bool (holds keys x)) [
      | inl p ↦ rw p (ap (places_in all) (more ∙ add_known (firsts keys) x (firsts_holds keys x p)) ∙ old ∙ sym (append-nil (first_places keys)))
      | inr p ↦ (let new : holds (firsts keys) x ≡ false = false_from_ne_true (holds (firsts keys) x) (λ q. false≢true (sym p ∙ firsts_from keys x q)) in
          let grown : add_first (firsts keys) x ≡ firsts keys ++ x ∷ [] = rw new refl in
          rw p (ap (places_in all) (more ∙ grown) ∙ map-append (place_in all) (firsts keys) (x ∷ []) ∙ rw (old, last_place keys x p) refl))
    ]

-- whether the key at a place is at no earlier one
abbrev is_first : List Row → ℕ → Bool
is_first keys i = not (holds (take i keys) (row_at keys i))

firsts_among : (keys : List Row) (n : ℕ) → n ≤ length keys → first_places (take n keys) ≡ places (is_first keys) n
firsts_among keys zero h = refl
firsts_among keys (suc n) h =
    let e : suc n ≡ n + 1 = omega arith in
    let low : n < length keys = omega (arith, h) in
    let grown : take (suc n) keys ≡ take n keys ++ row_at keys n ∷ [] = ap (λ m. take m keys) e ∙ take_more keys n [] low in
    ap first_places grown ∙ first_more (take n keys) (row_at keys n)
    ∙ rw (firsts_among keys n (omega (arith, h)), length-take-le n keys (omega (arith, h))) (sym (filter-append (is_first keys) (upto n) (n ∷ [])))

first_of_all : (keys : List Row) → first_places keys ≡ places (is_first keys) (length keys)
first_of_all keys = ap first_places (sym (take_all (length keys) keys (omega arith))) ∙ firsts_among keys (length keys) (omega arith)

-- what is first in two lists after each other
pub first_of_two : (L R : List Row) → first_places (L ++ R) ≡ first_places L ++ map (λ j. length L + j) (new_places L R)
first_of_two L R =
    let m = length L in
    let all = L ++ R in
    let left : places (is_first all) m ≡ places (is_first L) m = same_below (is_first all) (is_first L) m (λ i l. rw (get_or_append_left L R [] i l, take-append-le i L R (omega (arith, l))) refl) in
    let right : places (λ j. is_first all (m + j)) (length R) ≡ new_places L R =
    same_below (λ j. is_first all (m + j)) (λ j. not (holds (L ++ take j R) (row_at R j))) (length R) (λ j l. rw (get_or-append-add L R j [], take-append-add L R j) refl) in
    first_of_all all ∙ ap (places (is_first all)) (length-append L R) ∙ places_add (is_first all) m (length R) ∙ rw (left, right, sym (first_of_all L)) refl

pub first_below : (keys : List Row) → All (λ r. r < length keys) (first_places keys)
first_below keys = subst (All (λ r. r < length keys)) (sym (first_of_all keys)) (places_below (is_first keys) (length keys))

pub classes_are : ClassesAre
classes_are = record { stand = stand; alone = alone; members = members; first_keys = first_keys; first_of_two = first_of_two; first_of_all = first_of_all }
