-- Each row of a table reaches at most one row of a growing chain.
use Rattle.std.proofs.{Common.{◌≡◌, ℕ, zero, suc, ◌<◌, ◌≤◌, Bool, true, false, List, [], ◌∷◌, length, map, refl, ap, sym, ◌∙◌, subst, arith, get_or, nat_eq, inl, inr}, lemmas.List.{length-map, append-nil}, lemmas.List.Elements.{filter-append, All-map}, lemmas.List.Kept.AllPairs-filter, lemmas.List.Sums.sum_by-le, lemmas.Bool.{cases_Bool, cases_order, and_parts, eqb-true, false≢true, false_from_ne_true}}
use Rattle.std.specs.List.{All, AllPairs}
use Rattle.smk_base.specs.{Places.Lists, declared.book.plan.Agg.Agg, declared.book.plan.Item.Item, Plans.{Formula, Unary, Selection, Projection, Distinction, Grouping, Expr, Leaf, Apply, Combine}}
use Rattle.smk_model.specs.{Values.{Row, meets}, Plain.{row_eq, image, key_of, firsts, grouped, leaves}, Lineage.{upto, places, row_at}, Composed.{table_at, forwards}, LineageLaws.selected_table, Growth.{is_chain, is_growing}, GrowthLaws.GrowingIsThin}
use Rattle.smk_base.proofs.Places.{same_below, places_false, places_below, length_upto, get_or_upto, has_passes, has_below, some_member}
use Rattle.smk_model.proofs.{Anys.or_false, CuiWidom.{length_selected, selected_below}, Firsts.row_is, Locals.firsts_apart, Classes.same_place, Sizes.adds_no_rows, Counts.pairs_forward, Comes.{rows_in, comes, rows_whole}, Composed.{length_lists, forwards_by}}

-- places that pass are apart
same_nth : (t : ℕ → Bool) (n i j : ℕ) → i < length (places t n) → j < length (places t n) → get_or (places t n) i 0 ≡ get_or (places t n) j 0 → i ≡ j
same_nth t n i j l m e =
    let rises : AllPairs (λ x y. x < y) (upto n) = λ i j d h k. let long = length_upto n in rw (get_or_upto n i d (omega arith), get_or_upto n j d (omega arith)) h in
    let ascend : AllPairs (λ x y. x < y) (places t n) = AllPairs-filter (λ x y. x < y) t (upto n) rises in
    elim (cases_order i j) [
      | inl same ↦ same
      | inr o ↦ elim o [ inl lt ↦ absurd (omega (arith, ascend i j 0 lt m, e)) | inr gt ↦ absurd (omega (arith, ascend j i 0 gt l, e)) ]
    ]

at_most_one : (t : ℕ → Bool) (n : ℕ) → ((i j : ℕ) → i < n → j < n → t i ≡ true → t j ≡ true → i ≡ j) → length (places t n) ≤ 1
at_most_one t zero one = omega arith
at_most_one t (suc n) one = elim (cases_Bool (t n)) [
  | inl p ↦ (let none : places t n ≡ [] = same_below t (λ i. false) n (λ i l. false_from_ne_true (t i) (λ q. let e : i ≡ n = one i n (omega arith) (omega arith) q p in absurd (omega arith))) ∙ places_false n in
      let all : places t (suc n) ≡ n ∷ [] = filter-append t (upto n) (n ∷ []) ∙ rw (none, p) refl in omega (arith, ap length all))
  | inr p ↦ (let all : places t (suc n) ≡ places t n = filter-append t (upto n) (n ∷ []) ∙ rw p (append-nil (places t n)) in
      omega (arith, ap length all, at_most_one t n (λ i j l m. one i j (omega arith) (omega arith))))
]

-- that a row of a table reaches one row at most
abbrev IsOne : Expr → List (List Row) → ℕ → Type 0
IsOne plan tables table = (o p r : ℕ) → o < length (rows_in plan tables) → p < length (rows_in plan tables) → comes plan tables table o r ≡ true → comes plan tables table p r ≡ true → o ≡ p

one_scan : (table : ℕ) (tables : List (List Row)) → IsOne (Leaf table) tables table
one_scan table tables o p r l m a b = eqb-true o r (and_parts (nat_eq table table) (nat_eq o r) a).1 ∙ sym (eqb-true p r (and_parts (nat_eq table table) (nat_eq p r) b).1)

one_selection : (formula : Formula) (input : Expr) (tables : List (List Row)) → IsOne input tables (selected_table input) → IsOne (Apply (Selection formula) input) tables (selected_table input)
one_selection formula input tables one o p r l m a b =
    let X = rows_in input tables in
    let t = λ (i : ℕ). meets formula (row_at X i) in
    let f = λ (i : ℕ). comes input tables (selected_table input) i r in
    let long = length_selected (meets formula) X in
    let i = get_or (places t (length X)) o 0 in
    let j = get_or (places t (length X)) p 0 in
    same_nth t (length X) o p (omega (arith, l, long)) (omega (arith, m, long)) (one i j r (selected_below (meets formula) X o l) (selected_below (meets formula) X p m) (sym (or_false (f i)) ∙ a) (sym (or_false (f j)) ∙ b))

one_projection : (items : List Item) (input : Expr) (tables : List (List Row)) → IsOne input tables (selected_table input) → IsOne (Apply (Projection items) input) tables (selected_table input)
one_projection items input tables one o p r l m a b =
    let long = length-map (rows_in input tables) (image items) in
    let f = λ (i : ℕ). comes input tables (selected_table input) i r in
    one o p r (omega (arith, l, long)) (omega (arith, m, long)) (sym (or_false (f o)) ∙ a) (sym (or_false (f p)) ∙ b)

one_chain : (plan : Expr) (tables : List (List Row)) → is_chain plan ≡ true → IsOne plan tables (selected_table plan)
one_chain (Leaf table) tables c = one_scan table tables
one_chain (Apply (Selection formula) input) tables c = one_selection formula input tables (one_chain input tables c)
one_chain (Apply (Projection items) input) tables c = one_projection items input tables (one_chain input tables c)
one_chain _ tables c = absurd (false≢true c)

one_group : (keys : List ℕ) (aggs : List Agg) (input : Expr) (tables : List (List Row)) → is_chain input ≡ true → IsOne (Apply (Grouping keys aggs) input) tables (selected_table input)
one_group keys aggs input tables c o p r l m a b =
    let X = rows_in input tables in
    let found = firsts (map (key_of keys) X) in
    let f = λ (i : ℕ). comes input tables (selected_table input) i r in
    let t = λ (o i : ℕ). row_eq (row_at found o) (key_of keys (row_at X i)) in
    let s = some_member f (places (t o) (length X)) a in
    let u = some_member f (places (t p) (length X)) b in
    let same : s.0 ≡ u.0 = one_chain input tables c s.0 u.0 r (has_below (length X) (places (t o) (length X)) (places_below (t o) (length X)) s.0 s.1) (has_below (length X) (places (t p) (length X)) (places_below (t p) (length X)) u.0 u.1) s.2 u.2 in
    let long = length-map found (grouped keys aggs X) in
    same_place found o p (firsts_apart (map (key_of keys) X)) (omega (arith, l, long)) (omega (arith, m, long))
    (row_is _ _ (has_passes (t o) (upto (length X)) s.0 s.1) ∙ ap (λ i. key_of keys (row_at X i)) same ∙ sym (row_is _ _ (has_passes (t p) (upto (length X)) u.0 u.1)))

one_growing : (plan : Expr) (tables : List (List Row)) → is_growing plan ≡ true → IsOne plan tables (selected_table plan)
one_growing (Apply (Grouping keys aggs) input) tables c = one_group keys aggs input tables c
one_growing plan tables c = one_chain plan tables c

chain_grows_too : (plan : Expr) → is_chain plan ≡ true → is_growing plan ≡ true
chain_grows_too (Apply (Grouping keys aggs) input) c = absurd (false≢true c)
chain_grows_too _ c = c

pub below : (op : Unary) (input : Expr) → is_growing (Apply op input) ≡ true → is_growing input ≡ true
below (Distinction items) input c = absurd (false≢true c)
below _ input c = chain_grows_too input c

pub few_rows : (plan : Expr) (tables : List (List Row)) → is_growing plan ≡ true → length (rows_in plan tables) ≤ length (table_at tables (selected_table plan))
few_rows (Leaf table) tables c = omega arith
few_rows (Apply op input) tables c = omega (arith, adds_no_rows op (rows_in input tables), few_rows input tables (below op input c))
few_rows (Combine op left right) tables c = absurd (false≢true c)

scans : (plan : Expr) → is_growing plan ≡ true → leaves plan ≡ selected_table plan ∷ []
scans (Leaf table) c = refl
scans (Apply op input) c = scans input (below op input c)
scans (Combine op left right) c = absurd (false≢true c)

single : (plan : Expr) (tables : List (List Row)) → is_growing plan ≡ true → All (λ (rows : List ℕ). length rows ≤ 1) (forwards plan tables (selected_table plan)).lists
single plan tables c =
    let k = length (rows_in plan tables) in
    let n = length (table_at tables (selected_table plan)) in
    let t = λ (r o : ℕ). comes plan tables (selected_table plan) o r in
    subst (λ (z : Lists). All (λ (rows : List ℕ). length rows ≤ 1) z.lists) (sym (forwards_by plan tables (selected_table plan)))
    (All-map (λ (rows : List ℕ). length rows ≤ 1) (λ r. places (t r) k) (upto n) (λ i d l. at_most_one (t (get_or (upto n) i d)) k (λ o p h j. one_growing plan tables c o p (get_or (upto n) i d) h j)))

pub growing_is_thin : GrowingIsThin
growing_is_thin = record {
  scans = scans;
  below = below;
  rows = λ plan tables c. rw (rows_whole plan tables) (few_rows plan tables c);
  single = single;
  pairs = λ plan tables c.
      let table = selected_table plan in
      let n = length (table_at tables table) in
      let long : length (forwards plan tables table).lists ≡ n = ap (λ z. length z.lists) (forwards_by plan tables table) ∙ length_lists (λ r o. comes plan tables table o r) n (length (rows_in plan tables)) in
      omega (arith, pairs_forward.pairs_are plan tables table, sum_by-le length 1 (forwards plan tables table).lists (single plan tables c), long);
}
