-- Keys of rows, and their places among first occurrences.
use Rattle.std.proofs.{Common.{◌≡◌, ◌∙◌, ◌<◌, ◌≤◌, ◌+◌, ℕ, true, None, Some, List, [], ◌∷◌, ◌++◌, not, length, map, refl, sym, ap, subst, arith, All, get_or, nat_eq, inl, inr}, lemmas.List.{get_or-map, length-append, length-map, same_lists}, lemmas.List.Elements.{All-map, All-weaker}, lemmas.List.Sums.{passes_at_first, prefix_len-le-length}, lemmas.Map.Made.AllPairs-from_IsDistinct, lemmas.Slice.Zip.AllZip-long, lemmas.Bool.{cases_Bool, cases_lt, eq-eqb, lt-ltb, ne_eqb, false≢true}}
use Rattle.smk_base.specs.{Places.upto, Plans.Grouping, declared.book.plan.Agg.Agg, declared.value.Kind.Kind, Rels.{Fits, RowFits, kind_in, picked, rows_at}}
use Rattle.smk_keys.specs.{Classes.{ClassesImage, classes_of}, Keys.{AreKeys, place_of, with_key}}
use Rattle.smk_model.specs.{Values.Row, Kinds.{kind_of_agg, kinds1}, Plain.{row_eq, key_of, add_first, firsts, step1}, Lineage.row_at, Classes.{places_in, classes, first_places}}
use Rattle.smk_base.proofs.Places.{map_upto}
use Rattle.smk_model.proofs.{Firsts.{row_same, row_is, holds, holds_at, fold_append, add_firsts}, Classes.{place_in, found_below, found_at, same_place, first_below, classes_are}, Bulk.bulk, Regroups.group_keys}
use Rattle.smk_body.proofs.{Classing.few_firsts, Siding.{classes_below, left_below, right_below}}

-- first occurrences have no other first occurrences than themselves
pub firsts_twice : (xs : List Row) → firsts (firsts xs) ≡ firsts xs
firsts_twice xs = add_firsts [] [] xs

-- the keys of a grouping stand first in its rows
pub group_first : (keys : List ℕ) (aggs : List Agg) (L rows : List Row) → rows ≡ step1 (Grouping keys aggs) L → firsts (map (picked (upto (length keys))) rows) ≡ firsts (map (key_of keys) L)
group_first keys aggs L rows e = ap (λ (z : List Row). firsts (map (picked (upto (length keys))) z)) e ∙ ap firsts (group_keys keys aggs L) ∙ firsts_twice (map (key_of keys) L)

pub keys_within : (keys : List ℕ) (aggs : List Agg) (kinds made : List Kind) → made ≡ kinds1 (Grouping keys aggs) kinds → length keys ≤ length made
keys_within keys aggs kinds made e = omega (arith, ap length e, length-append (map (kind_in kinds) keys) (map (kind_of_agg kinds) aggs), length-map keys (kind_in kinds))

-- a table of first occurrences with one more key
pub with_more : (xs : List Row) (x : Row) → with_key (firsts xs) x ≡ firsts (xs ++ x ∷ [])
with_more xs x =
    let added : with_key (firsts xs) x ≡ add_first (firsts xs) x = elim (cases_Bool (holds (firsts xs) x)) [ inl p ↦ rw p refl | inr p ↦ rw p refl ] in
    added ∙ sym (fold_append [] xs (x ∷ []))

-- the keys at the first places of their classes
pub keys_first : (cols : List ℕ) (rows : List Row) (A : List ℕ) → A ≡ first_places (map (key_of cols) rows) → map (picked cols) (rows_at rows A) ≡ firsts (map (key_of cols) rows)
keys_first cols rows A e = ap (λ (z : List ℕ). map (picked cols) (rows_at rows z)) e ∙ sym (bulk.keys cols rows)

-- their places are those of rows
pub firsts_within : (cols : List ℕ) (rows : List Row) → All (λ i. i < length rows) (first_places (map (key_of cols) rows))
firsts_within cols rows = subst (λ n. All (λ i. i < n) (first_places (map (key_of cols) rows))) (length-map rows (key_of cols)) (first_below (map (key_of cols) rows))

pub firsts_few : (cols : List ℕ) (rows : List Row) → length (first_places (map (key_of cols) rows)) ≤ length rows
firsts_few cols rows = omega (arith, few_firsts (map (key_of cols) rows), length-map rows (key_of cols))

-- rows are their own keys by all columns, and the rows at all places are the rows
pub whole_rows : (kinds : List Kind) (rows : List Row) (cols : List ℕ) → All (RowFits kinds) rows → cols ≡ upto (length kinds) → map (picked cols) rows ≡ rows
whole_rows kinds rows cols fit e =
    let long : All (λ (row : Row). length row ≡ length kinds) rows = All-weaker (RowFits kinds) (λ row. length row ≡ length kinds) (λ row fits. AllZip-long Fits kinds row fits) rows fit in
    ap (λ (z : List ℕ). map (picked z) rows) e ∙ bulk.whole (length kinds) rows long

pub all_rows : (rows : List Row) (places : List ℕ) → places ≡ upto (length rows) → rows_at rows places ≡ rows
all_rows rows places e = ap (rows_at rows) e ∙ map_upto rows []

-- all keys are among their first occurrences
pub known : (keys all : List Row) → keys ≡ firsts all → All (λ p. p < length keys) (places_in keys all)
known keys all e = rw e (classes_below all)

-- those of both sides of a union, on the left and on the right
pub known_left : (keys L R : List Row) → keys ≡ firsts (L ++ R) → All (λ p. p < length keys) (places_in keys L)
known_left keys L R e = rw e (left_below L R)

pub known_right : (keys L R : List Row) → keys ≡ firsts (L ++ R) → All (λ p. p < length keys) (places_in keys R)
known_right keys L R e = rw e (right_below L R)

-- a place among keys is at most their number, which it is for a key that isn't there
pub place_within : (keys : List Row) (key : Row) → place_in keys key < length keys + 1
place_within keys key = omega (arith, prefix_len-le-length (λ k. not (row_eq key k)) keys)

pub places_within : (keys rows : List Row) → All (λ p. p < length keys + 1) (places_in keys rows)
places_within keys rows = All-map (λ p. p < length keys + 1) (place_in keys) rows (λ k d h. place_within keys (get_or rows k d))

pub place_none : (keys : List Row) (key : Row) → place_of keys key ≡ None → place_in keys key ≡ length keys
place_none keys key h = elim (cases_lt (place_in keys key) (length keys)) [
  | inl low ↦ (let there : place_of keys key ≡ Some (place_in keys key) = rw (lt-ltb (place_in keys key) (length keys) low) refl in absurd (cc))
  | inr high ↦ omega (arith, high, place_within keys key)
]

-- the place of a key that is there, where no two are equal
pub place_here : (keys : List Row) (key : Row) (p : ℕ) → AreKeys keys → p < length keys → row_at keys p ≡ key → place_in keys key ≡ p
place_here keys key p apart low e =
    let there : holds keys key ≡ true = subst (λ (k : Row). holds keys k ≡ true) e (holds_at keys p low) in
    same_place keys (place_in keys key) p (AllPairs-from_IsDistinct row_same keys apart) (found_below keys key there) low (found_at keys key there ∙ sym e)

-- the place of a key is that of its class
pub by_class : (keys rows : List Row) → map (λ p. get_or (places_in keys (firsts rows)) p 0) (classes rows) ≡ places_in keys rows
by_class keys rows =
    let at = classes_are.stand rows in
    let f = λ (p : ℕ). get_or (places_in keys (firsts rows)) p 0 in
    same_lists (map f (classes rows)) (places_in keys rows) (length-map (classes rows) f ∙ length-map rows (place_in (firsts rows)) ∙ sym (length-map rows (place_in keys))) (λ i d h.
    let low : i < length rows = omega (arith, h, length-map (classes rows) f, length-map rows (place_in (firsts rows))) in
    get_or-map f (classes rows) i 0 d (omega (arith, low, at.long))
    ∙ get_or-map (place_in keys) (firsts rows) (get_or (classes rows) i 0) [] 0 (at.below i low)
    ∙ ap (place_in keys) (at.at i low)
    ∙ sym (get_or-map (place_in keys) rows i [] d low))

-- the places of the keys of classes, and each class is one of the table
pub found_first : (cols : List ℕ) (rows keys : List Row) (m : ClassesImage) (A table : List ℕ) → m ≡ classes_of (map (picked cols) rows) → A ≡ m.firsts → table ≡ places_in keys (map (picked cols) (rows_at rows A)) → table ≡ places_in keys (firsts (map (key_of cols) rows))
found_first cols rows keys m A table is first e = e ∙ ap (places_in keys) (keys_first cols rows A (first ∙ ap (λ (z : ClassesImage). z.firsts) is))

pub classes_within : (keys rows : List Row) (of table : List ℕ) → of ≡ classes rows → table ≡ places_in keys (firsts rows) → All (λ r. r < length table) of
classes_within keys rows of table e f = rw (e, f) (subst (λ n. All (λ r. r < n) (classes rows)) (sym (length-map (firsts rows) (place_in keys))) (classes_below rows))

pub length_places : (keys : List Row) (cols : List ℕ) (rows : List Row) (items : List ℕ) → items ≡ places_in keys (map (picked cols) rows) → length items ≡ length rows
length_places keys cols rows items e = ap length e ∙ length-map (map (picked cols) rows) (place_in keys) ∙ length-map rows (picked cols)

-- of two keys, the second of which is there, the places are the same exactly where the keys are
pub place_test : (keys : List Row) (a b : Row) → holds keys b ≡ true → nat_eq (place_in keys a) (place_in keys b) ≡ row_eq a b
place_test keys a b h = elim (cases_Bool (row_eq a b)) [
  | inl same ↦ rw same (eq-eqb (place_in keys a) (place_in keys b) (ap (place_in keys) (row_is a b same)))
  | inr differ ↦ rw differ (ne_eqb (place_in keys a) (place_in keys b) (λ e.
      let low : place_in keys a < length keys = omega (arith, e, found_below keys b h) in
      let hit : row_eq a (row_at keys (place_in keys a)) ≡ true = passes_at_first (row_eq a) keys [] low in
      false≢true (sym differ ∙ ap (row_eq a) (sym (ap (row_at keys) e ∙ found_at keys b h)) ∙ hit)))
]
