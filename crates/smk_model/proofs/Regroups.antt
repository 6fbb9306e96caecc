-- A grouping of parts after each other, from the groupings of the parts.
use Rattle.std.proofs.{Common.{◌≡◌, ℕ, ◌+◌, pos, true, false, List, [], ◌∷◌, ◌++◌, length, map, refl, ap, sym, ◌∙◌, subst, arith, inl, inr}, lemmas.List.{map-append, append-nil, append_assoc, length-append, length-map, get_or_at, length_push, take_at}, lemmas.List.Elements.{filter-append, filter_agree}, lemmas.Bool.{cases_Bool, or_parts, false≢true}}
use Rattle.std.specs.List.{filter, flat_map}
use Rattle.smk_base.specs.{declared.value.Value.TheVariants.Int, declared.book.plan.Agg.Agg, Plans.Grouping}
use Rattle.smk_model.specs.{Values.{Row, value_at}, Plain.{row_eq, key_of, firsts, aggregate, grouped, step1}, Lineage.{upto, sub}, Classes.first_places, LocalLaws.together, Growth.{all_over_parts, regrouping}, GrowthLaws.GroupsRegroup}
use Rattle.smk_model.proofs.{Aggregates.{all_rows, once_more, rows_in_part}, Firsts.{holds, key_there}, Parts.{filter_parts, map_agree, cut}, Bulk.bulk, Keyed.{none_pass, once_first, never_first}}
use Rattle.smk_base.proofs.Places.{filter_map, map_map, flat_map_map, map_upto_take}

-- all aggregates, of rows that have those of the parts behind n values
all_once_more : (aggs : List Agg) (n : ℕ) (front : Row × List Row → Row) (parts : List (Row × List Row)) → ((p : Row × List Row) → length (front p) ≡ n)
    → map (aggregate (map (λ p. front p ++ map (aggregate (rows_in_part p)) aggs) parts)) (all_over_parts n aggs) ≡ map (aggregate (all_rows parts)) aggs
all_once_more [] n front parts long = refl
all_once_more (agg ∷ aggs) n front parts long =
    let row = λ (p : Row × List Row). front p ++ aggregate (rows_in_part p) agg ∷ map (aggregate (rows_in_part p)) aggs in
    let next = λ (p : Row × List Row). front p ++ aggregate (rows_in_part p) agg ∷ [] in
    let here = once_more agg n row parts (λ p. get_or_at (front p) (aggregate (rows_in_part p) agg) (map (aggregate (rows_in_part p)) aggs) (Int (pos 0)) n (long p)) in
    let rest = all_once_more aggs (n + 1) next parts (λ p. omega (arith, length_push (front p) (aggregate (rows_in_part p) agg), long p)) in
    let same : map row parts ≡ map (λ p. next p ++ map (aggregate (rows_in_part p)) aggs) parts =
    map_agree row (λ p. next p ++ map (aggregate (rows_in_part p)) aggs) (λ p. sym (append_assoc (front p) (aggregate (rows_in_part p) agg ∷ []) (map (aggregate (rows_in_part p)) aggs))) parts in
    ap (λ z. z ∷ map (aggregate (map row parts)) (all_over_parts (n + 1) aggs)) here
    ∙ ap (λ rows. aggregate (all_rows parts) agg ∷ map (aggregate rows) (all_over_parts (n + 1) aggs)) same
    ∙ ap (λ z. aggregate (all_rows parts) agg ∷ z) rest

-- the rows of one key in the groupings of parts

abbrev pub of_key : List ℕ → Row → List Row → List Row
of_key keys k L = filter (λ row. row_eq k (key_of keys row)) L

-- those of the parts that have rows
abbrev some_in : List (List Row) → List (Row × List Row)
some_in [] = []
some_in ([] ∷ parts) = some_in parts
some_in ((x ∷ xs) ∷ parts) = (x, xs) ∷ some_in parts

all_some : (parts : List (List Row)) → all_rows (some_in parts) ≡ together parts
all_some [] = refl
all_some ([] ∷ parts) = all_some parts
all_some ((x ∷ xs) ∷ parts) = ap (λ z. x ∷ xs ++ z) (all_some parts)

-- the first columns of the row of a group are its key
pub key_first : (keys : List ℕ) (aggs : List Agg) (L : List Row) (row : Row) → key_of (upto (length keys)) (grouped keys aggs L (key_of keys row)) ≡ key_of keys row
key_first keys aggs L row =
    let key = key_of keys row in
    let values = map (aggregate (of_key keys key L)) aggs in
    let long : length key ≡ length keys = length-map keys (value_at row) in
    map_upto_take (key ++ values) (Int (pos 0)) (length keys) (omega (arith, long, length-append key values)) ∙ take_at key values (length keys) long

-- the groups of rows of L, by rows that have their keys
abbrev pub firsts_of : List ℕ → List Row → List Row
firsts_of keys L = sub L (first_places (map (key_of keys) L))

pub group_rows : (keys : List ℕ) (aggs : List Agg) (L : List Row) → step1 (Grouping keys aggs) L ≡ map (λ row. grouped keys aggs L (key_of keys row)) (firsts_of keys L)
group_rows keys aggs L = ap (map (grouped keys aggs L)) (bulk.keys keys L) ∙ map_map (grouped keys aggs L) (key_of keys) (firsts_of keys L)

pub group_keys : (keys : List ℕ) (aggs : List Agg) (L : List Row) → map (key_of (upto (length keys))) (step1 (Grouping keys aggs) L) ≡ firsts (map (key_of keys) L)
group_keys keys aggs L =
    ap (map (key_of (upto (length keys)))) (group_rows keys aggs L)
    ∙ map_map (key_of (upto (length keys))) (λ row. grouped keys aggs L (key_of keys row)) (firsts_of keys L)
    ∙ map_agree (λ row. key_of (upto (length keys)) (grouped keys aggs L (key_of keys row))) (key_of keys) (key_first keys aggs L) (firsts_of keys L)
    ∙ sym (bulk.keys keys L)

pub both_keys : (keys : List ℕ) (aggs : List Agg) (L M : List Row) → map (key_of (upto (length keys))) (step1 (Grouping keys aggs) L ++ step1 (Grouping keys aggs) M) ≡ firsts (map (key_of keys) L) ++ firsts (map (key_of keys) M)
both_keys keys aggs L M = map-append (key_of (upto (length keys))) (step1 (Grouping keys aggs) L) (step1 (Grouping keys aggs) M) ∙ rw (group_keys keys aggs L, group_keys keys aggs M) refl

-- the groups of a key: those made of the first occurrences that are the key
groups_of_key : (keys : List ℕ) (aggs : List Agg) (L : List Row) (k : Row) → of_key (upto (length keys)) k (step1 (Grouping keys aggs) L) ≡ map (grouped keys aggs L) (filter (row_eq k) (firsts (map (key_of keys) L)))
groups_of_key keys aggs L k =
    let made = λ (row : Row). grouped keys aggs L (key_of keys row) in
    ap (of_key (upto (length keys)) k) (group_rows keys aggs L)
    ∙ filter_map (λ row. row_eq k (key_of (upto (length keys)) row)) made (firsts_of keys L)
    ∙ ap (map made) (filter_agree (λ row. row_eq k (key_of (upto (length keys)) (made row))) (λ row. row_eq k (key_of keys row)) (λ row. ap (row_eq k) (key_first keys aggs L row)) (firsts_of keys L))
    ∙ sym (map_map (grouped keys aggs L) (key_of keys) (of_key keys k (firsts_of keys L)))
    ∙ ap (map (grouped keys aggs L)) (sym (filter_map (row_eq k) (key_of keys) (firsts_of keys L)) ∙ ap (filter (row_eq k)) (sym (bulk.keys keys L)))

-- a key that no row has
pub no_rows : (keys : List ℕ) (L : List Row) (k : Row) → holds (map (key_of keys) L) k ≡ false → of_key keys k L ≡ []
no_rows keys [] k none = refl
no_rows keys (x ∷ xs) k none = let each = or_parts (row_eq k (key_of keys x)) (holds (map (key_of keys) xs) k) none in rw each.0 (no_rows keys xs k each.1)

-- whether L has a key tells whether it has rows of it
pub one_group : (keys : List ℕ) (aggs : List Agg) (L : List Row) (k x : Row) (xs : List Row) → of_key keys k L ≡ x ∷ xs → of_key (upto (length keys)) k (step1 (Grouping keys aggs) L) ≡ (k ++ map (aggregate (x ∷ xs)) aggs) ∷ []
one_group keys aggs L k x xs is =
    let some : holds (map (key_of keys) L) k ≡ true = elim (cases_Bool (holds (map (key_of keys) L) k)) [
      | inl p ↦ p
      | inr p ↦ (let none : map (key_of keys) (x ∷ xs) ≡ [] = ap (map (key_of keys)) (sym is) ∙ sym (filter_map (row_eq k) (key_of keys) L) ∙ none_pass (row_eq k) (map (key_of keys) L) p in absurd (cc))
    ] in
    groups_of_key keys aggs L k ∙ ap (map (grouped keys aggs L)) (once_first k (map (key_of keys) L) some) ∙ ap (λ rows. (k ++ map (aggregate rows) aggs) ∷ []) is

pub no_group : (keys : List ℕ) (aggs : List Agg) (L : List Row) (k : Row) → of_key keys k L ≡ [] → of_key (upto (length keys)) k (step1 (Grouping keys aggs) L) ≡ []
no_group keys aggs L k is =
    let none : holds (map (key_of keys) L) k ≡ false = elim (cases_Bool (holds (map (key_of keys) L) k)) [
      | inl p ↦ (let there : holds (map (key_of keys) []) k ≡ true = subst (λ (z : List Row). holds (map (key_of keys) z) k ≡ true) is (key_there (key_of keys) L k p) in absurd (false≢true there))
      | inr p ↦ p
    ] in
    groups_of_key keys aggs L k ∙ ap (map (grouped keys aggs L)) (never_first k (map (key_of keys) L) none)

groups_in_parts : (keys : List ℕ) (aggs : List Agg) (k : Row) (parts : List (List Row))
    → of_key (upto (length keys)) k (flat_map (step1 (Grouping keys aggs)) parts) ≡ map (λ p. k ++ map (aggregate (rows_in_part p)) aggs) (some_in (map (of_key keys k) parts))
groups_in_parts keys aggs k [] = refl
groups_in_parts keys aggs k (part ∷ parts) =
    filter-append (λ row. row_eq k (key_of (upto (length keys)) row)) (step1 (Grouping keys aggs) part) (flat_map (step1 (Grouping keys aggs)) parts)
    ∙ ap (λ z. of_key (upto (length keys)) k (step1 (Grouping keys aggs) part) ++ z) (groups_in_parts keys aggs k parts)
    ∙ here (of_key keys k part) refl
  where
    rest : List (Row × List Row)
    rest = some_in (map (of_key keys k) parts)

    here : (rows : List Row) → of_key keys k part ≡ rows
        → of_key (upto (length keys)) k (step1 (Grouping keys aggs) part) ++ map (λ p. k ++ map (aggregate (rows_in_part p)) aggs) rest ≡ map (λ p. k ++ map (aggregate (rows_in_part p)) aggs) (some_in (rows ∷ map (of_key keys k) parts))
    here [] is = ap (λ z. z ++ map (λ p. k ++ map (aggregate (rows_in_part p)) aggs) rest) (no_group keys aggs part k is)
    here (x ∷ xs) is = ap (λ z. z ++ map (λ p. k ++ map (aggregate (rows_in_part p)) aggs) rest) (one_group keys aggs part k x xs is)

regrouped_keys : (keys : List ℕ) (aggs : List Agg) (parts : List (List Row)) → firsts (map (key_of (upto (length keys))) (flat_map (step1 (Grouping keys aggs)) parts)) ≡ firsts (map (key_of keys) (together parts))
regrouped_keys keys aggs parts = ap firsts (each parts) ∙ sym (cut.keys (key_of keys) parts)
  where
    each : (parts : List (List Row)) → map (key_of (upto (length keys))) (flat_map (step1 (Grouping keys aggs)) parts) ≡ flat_map (λ part. firsts (map (key_of keys) part)) parts
    each [] = refl
    each (part ∷ parts) = map-append (key_of (upto (length keys))) (step1 (Grouping keys aggs) part) (flat_map (step1 (Grouping keys aggs)) parts) ∙ rw (group_keys keys aggs part, each parts) refl

regroups : (keys : List ℕ) (aggs : List Agg) (parts : List (List Row)) → step1 (Grouping keys aggs) (together parts) ≡ step1 (regrouping keys aggs) (flat_map (step1 (Grouping keys aggs)) parts)
regroups keys aggs parts =
    let L = together parts in
    let G = flat_map (step1 (Grouping keys aggs)) parts in
    let again = grouped (upto (length keys)) (all_over_parts (length keys) aggs) G in
    let each : (row : Row) → grouped keys aggs L (key_of keys row) ≡ again (key_of keys row) = λ row.
    let k = key_of keys row in
    let some = some_in (map (of_key keys k) parts) in
    let rows : all_rows some ≡ of_key keys k L = all_some (map (of_key keys k) parts) ∙ flat_map_map (λ part. part) (of_key keys k) parts ∙ filter_parts (λ row. row_eq k (key_of keys row)) parts in
    ap (λ z. k ++ map (aggregate z) aggs) (sym rows)
    ∙ ap (λ z. k ++ z) (sym (all_once_more aggs (length keys) (λ p. k) some (λ p. length-map keys (value_at row))))
    ∙ ap (λ z. k ++ map (aggregate z) (all_over_parts (length keys) aggs)) (sym (groups_in_parts keys aggs k parts)) in
    group_rows keys aggs L
    ∙ map_agree (λ row. grouped keys aggs L (key_of keys row)) (λ row. again (key_of keys row)) each (firsts_of keys L)
    ∙ sym (map_map again (key_of keys) (firsts_of keys L))
    ∙ ap (map again) (sym (bulk.keys keys L) ∙ sym (regrouped_keys keys aggs parts))

-- of two parts

pub regrouped_two : (keys : List ℕ) (aggs : List Agg) (L M : List Row) → firsts (map (key_of (upto (length keys))) (step1 (Grouping keys aggs) L ++ step1 (Grouping keys aggs) M)) ≡ firsts (map (key_of keys) (L ++ M))
regrouped_two keys aggs L M =
    ap (λ z. firsts (map (key_of (upto (length keys))) (step1 (Grouping keys aggs) L ++ z))) (sym (append-nil (step1 (Grouping keys aggs) M)))
    ∙ regrouped_keys keys aggs (L ∷ M ∷ []) ∙ ap (λ z. firsts (map (key_of keys) (L ++ z))) (append-nil M)

pub groups_regroup : GroupsRegroup
groups_regroup = record {
  parts = regroups;
  two = λ keys aggs L M.
      let S = step1 (Grouping keys aggs) in
      ap S (ap (λ z. L ++ z) (sym (append-nil M))) ∙ regroups keys aggs (L ∷ M ∷ []) ∙ ap (λ z. step1 (regrouping keys aggs) (S L ++ z)) (append-nil (S M));
}
