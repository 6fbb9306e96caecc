-- The annotated meaning: its rows are the plain rows, and its sets are those of one step after the other.
use Rattle.std.proofs.{Common.{◌≡◌, ℕ, suc, ◌+◌, ◌<◌, Bool, false, List, [], ◌∷◌, ◌++◌, length, map, refl, ap, sym, ◌∙◌, subst, arith, get_or, ◌&&◌, ◌||◌, nat_eq, nat_lt, inl, inr}, lemmas.List.{map-append, length-map, map-id, get_or_append_left, get_or-append_right, get_or-map}, lemmas.List.Elements.filter_agree, lemmas.Bool.{cases_Bool, ltb-true, ltb-false}}
use Rattle.std.specs.List.{list_any, flat_map, filter}
use Rattle.smk_base.specs.Plans.{Formula, Unary, Selection, Projection, Distinction, Grouping, Binary, Equijoin, ThetaJoin, CrossProduct, BagUnion, SetUnion, Expr, Leaf, Apply, Combine}
use Rattle.smk_model.specs.{Values.{Row, meets}, Plain.{row_eq, image, key_of, firsts, grouped, agree, meets_together, always, nested, step1, step2, width, eval_from}, Lineage.{upto, places, row_at, matching, match_at, from1, from_left, from_right}, Annotated.{Marked, no_mark, mark_at, rows_of, both, gathered, nested_marks, ann1, ann2, ann_from}, LineageLaws.{RowsAgree, united, StepByStep}}
use Rattle.smk_base.proofs.{Texts.list_any-map, Places.{filter_map, map_map, map_flat_map, flat_map_map, flat_map_agree, map_upto, at_places}}
use Rattle.smk_model.proofs.Anys.{or_false}

-- rows

-- a nested loop is a loop over its matching pairs
pub nested_is : {X Y Z : Type 0} (t : X → Y → Bool) (h : X → Y → Z) (L : List X) (R : List Y) (d : X) (e : Y)
    → flat_map (λ l. map (h l) (filter (t l) R)) L ≡ map (λ (p : ℕ × ℕ). h (get_or L p.0 d) (get_or R p.1 e)) (flat_map (λ i. map (λ j. (i, j)) (places (λ j. t (get_or L i d) (get_or R j e)) (length R))) (upto (length L)))
nested_is {X} {Y} {Z} t h L R d e =
    let pair = λ (p : ℕ × ℕ). h (get_or L p.0 d) (get_or R p.1 e) in
    let fits = λ (i j : ℕ). t (get_or L i d) (get_or R j e) in
    let inner = λ (l : X). map (h l) (filter (t l) R) in
    let each : (i : ℕ) → map pair (map (λ j. (i, j)) (places (fits i) (length R))) ≡ inner (get_or L i d) = λ i.
    map_map pair (λ j. (i, j)) (places (fits i) (length R)) ∙ sym (map_map (h (get_or L i d)) (λ j. get_or R j e) (places (fits i) (length R))) ∙ ap (map (h (get_or L i d))) (at_places (t (get_or L i d)) R e) in
    sym (map_flat_map pair (λ i. map (λ j. (i, j)) (places (fits i) (length R))) (upto (length L))
    ∙ flat_map_agree _ (λ i. inner (get_or L i d)) each (upto (length L))
    ∙ sym (flat_map_map inner (λ i. get_or L i d) (upto (length L)))
    ∙ ap (flat_map inner) (map_upto L d))

rows_one : (op : Unary) (marked : List Marked) → rows_of (ann1 op marked) ≡ step1 op (rows_of marked)
rows_one (Selection formula) marked = sym (filter_map (meets formula) (λ m. m.0) marked)
rows_one (Projection items) marked = map_map (λ m. m.0) (λ m. (image items m.0, m.1)) marked ∙ sym (map_map (image items) (λ m. m.0) marked)
rows_one (Distinction items) marked =
    let keys = firsts (map (image items) (rows_of marked)) in
    map_map (λ m. m.0) (λ r. (r, gathered (λ row. row_eq r (image items row)) marked)) keys ∙ map-id keys
rows_one (Grouping keys aggs) marked =
    map_map (λ m. m.0) (λ key. (grouped keys aggs (rows_of marked) key, gathered (λ row. row_eq key (key_of keys row)) marked)) (firsts (map (key_of keys) (rows_of marked)))

rows_nested : (test : Row → Row → Bool) (ls rs : List Marked) → rows_of (nested_marks test ls rs) ≡ nested test (rows_of ls) (rows_of rs)
rows_nested test ls rs =
    let inner = λ (l : Marked). filter (λ r. test l.0 r.0) rs in
    let join : Marked → Marked → Marked = λ l r. (l.0 ++ r.0, both l.1 r.1) in
    let each : (l : Marked) → map (λ m. m.0) (map (join l) (inner l)) ≡ map (λ r. l.0 ++ r) (filter (test l.0) (rows_of rs)) = λ l.
    map_map (λ m. m.0) (join l) (inner l) ∙ sym (map_map (λ r. l.0 ++ r) (λ m. m.0) (inner l)) ∙ ap (map (λ r. l.0 ++ r)) (sym (filter_map (test l.0) (λ m. m.0) rs)) in
    map_flat_map (λ m. m.0) (λ l. map (join l) (inner l)) ls
    ∙ flat_map_agree _ (λ l. map (λ r. l.0 ++ r) (filter (test l.0) (rows_of rs))) each ls
    ∙ sym (flat_map_map (λ l. map (λ r. l ++ r) (filter (test l) (rows_of rs))) (λ m. m.0) ls)

rows_two : (op : Binary) (ls rs : List Marked) → rows_of (ann2 op ls rs) ≡ step2 op (rows_of ls) (rows_of rs)
rows_two (Equijoin pairs) ls rs = rows_nested (agree pairs) ls rs
rows_two (ThetaJoin formula) ls rs = rows_nested (meets_together formula) ls rs
rows_two CrossProduct ls rs = rows_nested always ls rs
rows_two BagUnion ls rs = map-append (λ m. m.0) ls rs
rows_two SetUnion ls rs =
    let rows = firsts (rows_of ls ++ rows_of rs) in
    map_map (λ m. m.0) (λ r. (r, both (gathered (row_eq r) ls) (gathered (row_eq r) rs))) rows ∙ map-id rows

pub rows_from : (plan : Expr) (E : List (List Row)) (k : ℕ) → rows_of (ann_from plan E k) ≡ eval_from plan E k
rows_from (Leaf table) E k =
    let rows = get_or E k [] in
    map_map (λ m. m.0) (λ i. (row_at rows i, λ leaf rid. nat_eq k leaf && nat_eq i rid)) (upto (length rows)) ∙ map_upto rows []
rows_from (Apply op input) E k = rows_one op (ann_from input E k) ∙ ap (step1 op) (rows_from input E k)
rows_from (Combine op left right) E k = rows_two op (ann_from left E k) (ann_from right E (k + width left)) ∙ rw (rows_from left E k, rows_from right E (k + width left)) refl

pub rows_agree : RowsAgree
rows_agree plan E = rows_from plan E 0

-- sets

pub row_of_mark : (marked : List Marked) (i : ℕ) → (mark_at marked i).0 ≡ row_at (rows_of marked) i
row_of_mark (m ∷ marked) (suc i) = row_of_mark marked i
row_of_mark _ _ = refl

or_both : (a b : Bool) → (a || b) ≡ ((a || false) || (b || false))
or_both a b = rw (or_false a, or_false b) refl

or_twice : (a : Bool) → a ≡ ((a || false) || false)
or_twice a = sym (or_false a) ∙ sym (or_false (a || false))

-- the places of the marked rows that pass are those of the rows
same_places : (f : Row → Bool) (marked : List Marked) → places (λ i. f (mark_at marked i).0) (length marked) ≡ places (λ i. f (row_at (rows_of marked) i)) (length (rows_of marked))
same_places f marked =
    filter_agree (λ i. f (mark_at marked i).0) (λ i. f (row_at (rows_of marked) i)) (λ i. ap f (row_of_mark marked i)) (upto (length marked))
    ∙ ap (places (λ i. f (row_at (rows_of marked) i))) (sym (length-map marked (λ m. m.0)))

gathered_is : (f : Row → Bool) (marked : List Marked) (leaf rid : ℕ) → gathered f marked leaf rid ≡ united marked (places (λ i. f (row_at (rows_of marked) i)) (length (rows_of marked))) leaf rid
gathered_is f marked leaf rid =
    ap (list_any (λ m. m.1 leaf rid)) (sym (at_places (λ m. f m.0) marked no_mark))
    ∙ list_any-map (λ m. m.1 leaf rid) (mark_at marked) (places (λ i. f (mark_at marked i).0) (length marked))
    ∙ ap (list_any (λ i. (mark_at marked i).1 leaf rid)) (same_places f marked)

selected_mark : (formula : Formula) (marked : List Marked) (o : ℕ) → o < length (filter (meets formula) (rows_of marked))
    → mark_at (filter (λ m. meets formula m.0) marked) o ≡ mark_at marked (get_or (places (λ i. meets formula (row_at (rows_of marked) i)) (length (rows_of marked))) o 0)
selected_mark formula marked o h =
    let f = meets formula in
    let P = places (λ i. f (row_at (rows_of marked) i)) (length (rows_of marked)) in
    let is : map (mark_at marked) P ≡ filter (λ m. f m.0) marked = ap (map (mark_at marked)) (sym (same_places f marked)) ∙ at_places (λ m. f m.0) marked no_mark in
    let long : o < length P = omega (arith, h, ap length (at_places f (rows_of marked) []), length-map P (row_at (rows_of marked))) in
    ap (λ t. mark_at t o) (sym is) ∙ get_or-map (mark_at marked) P o 0 no_mark long

step_one : (op : Unary) (marked : List Marked) (o leaf rid : ℕ) → o < length (step1 op (rows_of marked)) → (mark_at (ann1 op marked) o).1 leaf rid ≡ united marked (from1 op (rows_of marked) o) leaf rid
step_one (Selection formula) marked o leaf rid h = ap (λ (m : Marked). m.1 leaf rid) (selected_mark formula marked o h) ∙ sym (or_false _)
step_one (Projection items) marked o leaf rid h =
    let low : o < length marked = omega (arith, h, length-map (rows_of marked) (image items), length-map marked (λ (m : Marked). m.0)) in
    ap (λ (m : Marked). m.1 leaf rid) (get_or-map (λ (m : Marked). (image items m.0, m.1)) marked o no_mark no_mark low) ∙ sym (or_false _)
step_one (Distinction items) marked o leaf rid h =
    let found = firsts (map (image items) (rows_of marked)) in
    ap (λ (m : Marked). m.1 leaf rid) (get_or-map (λ r. (r, gathered (λ row. row_eq r (image items row)) marked)) found o [] no_mark h)
    ∙ gathered_is (λ row. row_eq (row_at found o) (image items row)) marked leaf rid
step_one (Grouping keys aggs) marked o leaf rid h =
    let found = firsts (map (key_of keys) (rows_of marked)) in
    let low : o < length found = omega (arith, h, length-map found (grouped keys aggs (rows_of marked))) in
    ap (λ (m : Marked). m.1 leaf rid) (get_or-map (λ key. (grouped keys aggs (rows_of marked) key, gathered (λ row. row_eq key (key_of keys row)) marked)) found o [] no_mark low)
    ∙ gathered_is (λ row. row_eq (row_at found o) (key_of keys row)) marked leaf rid

matching_marks : (test : Row → Row → Bool) (ls rs : List Marked)
    → flat_map (λ i. map (λ j. (i, j)) (places (λ j. test (mark_at ls i).0 (mark_at rs j).0) (length rs))) (upto (length ls)) ≡ matching test (rows_of ls) (rows_of rs)
matching_marks test ls rs =
    let L = rows_of ls in
    let R = rows_of rs in
    let inner = λ (i : ℕ). map (λ j. (i, j)) (places (λ j. test (row_at L i) (row_at R j)) (length R)) in
    flat_map_agree _ inner (λ i.
    ap (map (λ j. (i, j))) (filter_agree (λ j. test (mark_at ls i).0 (mark_at rs j).0) (λ j. test (row_at L i) (row_at R j)) (λ j. rw (row_of_mark ls i, row_of_mark rs j) refl) (upto (length rs))
    ∙ ap (places (λ j. test (row_at L i) (row_at R j))) (sym (length-map rs (λ m. m.0))))) (upto (length ls))
    ∙ ap (λ n. flat_map inner (upto n)) (sym (length-map ls (λ m. m.0)))

step_nested : (test : Row → Row → Bool) (ls rs : List Marked) (o leaf rid : ℕ) → o < length (nested test (rows_of ls) (rows_of rs))
    → (mark_at (nested_marks test ls rs) o).1 leaf rid ≡ both (united ls ((match_at test (rows_of ls) (rows_of rs) o).0 ∷ [])) (united rs ((match_at test (rows_of ls) (rows_of rs) o).1 ∷ [])) leaf rid
step_nested test ls rs o leaf rid h =
    let M = matching test (rows_of ls) (rows_of rs) in
    let join : Marked → Marked → Marked = λ l r. (l.0 ++ r.0, both l.1 r.1) in
    let pair : ℕ × ℕ → Marked = λ p. join (mark_at ls p.0) (mark_at rs p.1) in
    let is : nested_marks test ls rs ≡ map pair M = nested_is (λ (l r : Marked). test l.0 r.0) join ls rs no_mark no_mark ∙ ap (map pair) (matching_marks test ls rs) in
    let low : o < length M = omega (arith, h, ap length (sym (rows_nested test ls rs) ∙ ap rows_of is), length-map (map pair M) (λ (m : Marked). m.0), length-map M pair) in
    ap (λ (marked : List Marked). (mark_at marked o).1 leaf rid) is ∙ ap (λ (m : Marked). m.1 leaf rid) (get_or-map pair M o (0, 0) no_mark low)
    ∙ or_both ((mark_at ls (get_or M o (0, 0)).0).1 leaf rid) ((mark_at rs (get_or M o (0, 0)).1).1 leaf rid)

step_two : (op : Binary) (ls rs : List Marked) (o leaf rid : ℕ) → o < length (step2 op (rows_of ls) (rows_of rs))
    → (mark_at (ann2 op ls rs) o).1 leaf rid ≡ both (united ls (from_left op (rows_of ls) (rows_of rs) o)) (united rs (from_right op (rows_of ls) (rows_of rs) o)) leaf rid
step_two (Equijoin pairs) ls rs o leaf rid h = step_nested (agree pairs) ls rs o leaf rid h
step_two (ThetaJoin formula) ls rs o leaf rid h = step_nested (meets_together formula) ls rs o leaf rid h
step_two CrossProduct ls rs o leaf rid h = step_nested always ls rs o leaf rid h
step_two BagUnion ls rs o leaf rid h =
    let n = length (rows_of ls) in
    let same : n ≡ length ls = length-map ls (λ (m : Marked). m.0) in
    elim (cases_Bool (nat_lt o n)) [
      | inl p ↦ rw p (ap (λ (m : Marked). m.1 leaf rid) (get_or_append_left ls rs no_mark o (omega (arith, ltb-true o n p, same))) ∙ or_twice ((mark_at ls o).1 leaf rid))
      | inr p ↦ rw p (ap (λ (m : Marked). m.1 leaf rid) (get_or-append_right ls rs n o no_mark (sym same) (ltb-false o n p)) ∙ sym (or_false _))
    ]
step_two SetUnion ls rs o leaf rid h =
    let found = firsts (rows_of ls ++ rows_of rs) in
    let row = row_at found o in
    ap (λ (m : Marked). m.1 leaf rid) (get_or-map (λ r. (r, both (gathered (row_eq r) ls) (gathered (row_eq r) rs))) found o [] no_mark h)
    ∙ rw (gathered_is (row_eq row) ls leaf rid, gathered_is (row_eq row) rs leaf rid) refl

pub step_by_step : StepByStep
step_by_step = record {
  one = λ op input E k o leaf rid.
      let marked = ann_from input E k in
      subst (λ (L : List Row). o < length (step1 op L) → (mark_at (ann1 op marked) o).1 leaf rid ≡ united marked (from1 op L o) leaf rid) (rows_from input E k) (step_one op marked o leaf rid);
  two = λ op left right E k o leaf rid.
      let ls = ann_from left E k in
      let rs = ann_from right E (k + width left) in
      subst (λ (L : List Row). o < length (step2 op L (eval_from right E (k + width left))) → (mark_at (ann2 op ls rs) o).1 leaf rid ≡ both (united ls (from_left op L (eval_from right E (k + width left)) o)) (united rs (from_right op L (eval_from right E (k + width left)) o)) leaf rid) (rows_from left E k)
      (subst (λ (R : List Row). o < length (step2 op (rows_of ls) R) → (mark_at (ann2 op ls rs) o).1 leaf rid ≡ both (united ls (from_left op (rows_of ls) R o)) (united rs (from_right op (rows_of ls) R o)) leaf rid) (rows_from right E (k + width left)) (step_two op ls rs o leaf rid));
}
