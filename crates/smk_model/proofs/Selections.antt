-- The lineage of a chain of selections over a scan.
use Rattle.std.proofs.{Common.{◌≡◌, ℕ, ◌<◌, true, false, List, [], ◌∷◌, length, map, refl, ap, sym, ◌∙◌, arith, get_or, ◌&&◌, nat_eq}, lemmas.List.{get_or-map, length-map}, lemmas.List.Elements.All-get_or, lemmas.Bool.{false≢true, eq-eqb}}
use Rattle.std.specs.List.{list_any, filter, All}
use Rattle.smk_base.specs.Plans.{Selection, Expr, Leaf, Apply}
use Rattle.smk_model.specs.{Values.{Row, meets}, Plain.{leaves, eval}, Lineage.{upto, places, row_at}, Annotated.{Marked, no_mark, mark_at, scanned, ann, reaches, relates, back}, LineageLaws.{is_selection, selected_table, selects, chosen, SelectionLineage}}
use Rattle.smk_model.proofs.Anys.{any_same, any_below, any_false, or_false}
use Rattle.smk_base.proofs.Places.{filter_filter, filter_map, at_places, same_below, places_below, places_false, places_own}

pub filter-true : {X : Type 0} (xs : List X) → filter (λ x. true) xs ≡ xs
filter-true [] = refl
filter-true (x ∷ xs) = ap (λ t. x ∷ t) (filter-true xs)

-- the rows

rows_are : (plan : Expr) (L : List Row) → is_selection plan ≡ true → eval plan (L ∷ []) ≡ filter (selects plan) L
rows_are (Leaf table) L h = sym (filter-true L)
rows_are (Apply (Selection formula) input) L h = ap (filter (meets formula)) (rows_are input L h) ∙ filter_filter (meets formula) (selects input) L
rows_are _ L h = absurd (false≢true h)

-- the marked rows are those of the scan that the chain selects
marks_are : (plan : Expr) (L : List Row) → is_selection plan ≡ true → ann plan (L ∷ []) ≡ filter (λ m. selects plan m.0) (scanned 0 L)
marks_are (Leaf table) L h = sym (filter-true (scanned 0 L))
marks_are (Apply (Selection formula) input) L h = ap (filter (λ m. meets formula m.0)) (marks_are input L h) ∙ filter_filter (λ m. meets formula m.0) (λ m. selects input m.0) (scanned 0 L)
marks_are _ L h = absurd (false≢true h)

abbrev marked : List Row → ℕ → Marked
marked L i = (row_at L i, λ leaf rid. nat_eq 0 leaf && nat_eq i rid)

-- in the order of the rids
marks_chosen : (plan : Expr) (L : List Row) → is_selection plan ≡ true → ann plan (L ∷ []) ≡ map (marked L) (chosen plan L)
marks_chosen plan L h = marks_are plan L h ∙ filter_map (λ m. selects plan m.0) (marked L) (upto (length L))

-- its only leaf scans that table
pub one_leaf : (plan : Expr) → is_selection plan ≡ true → leaves plan ≡ selected_table plan ∷ []
one_leaf (Leaf table) h = refl
one_leaf (Apply (Selection formula) input) h = one_leaf input h
one_leaf _ h = absurd (false≢true h)

pub number_chosen : (plan : Expr) (L : List Row) → length (chosen plan L) ≡ length (filter (selects plan) L)
number_chosen plan L = sym (length-map (chosen plan L) (row_at L)) ∙ ap length (at_places (selects plan) L [])

-- row o comes from the o-th chosen rid
pub relates_chosen : (plan : Expr) (L : List Row) (table o rid : ℕ) → is_selection plan ≡ true → o < length (filter (selects plan) L)
    → relates plan (L ∷ []) table o rid ≡ (nat_eq (selected_table plan) table && nat_eq (get_or (chosen plan L) o 0) rid)
relates_chosen plan L table o rid h low =
    let mark : mark_at (ann plan (L ∷ [])) o ≡ marked L (get_or (chosen plan L) o 0) = ap (λ ms. mark_at ms o) (marks_chosen plan L h) ∙ get_or-map (marked L) (chosen plan L) o 0 no_mark (omega (arith, low, number_chosen plan L)) in
    let from : reaches (leaves plan) table (mark_at (ann plan (L ∷ [])) o).1 rid ≡ reaches (selected_table plan ∷ []) table (marked L (get_or (chosen plan L) o 0)).1 rid = rw (mark, one_leaf plan h) refl in
    from ∙ or_false (nat_eq (selected_table plan) table && nat_eq (get_or (chosen plan L) o 0) rid)

own_table : (table o rid : ℕ) → (nat_eq table table && nat_eq o rid) ≡ nat_eq o rid
own_table table o rid = rw (eq-eqb table table refl) refl

many_are : (plan : Expr) (L : List Row) (O : List ℕ) (table n : ℕ) → is_selection plan ≡ true → All (λ o. o < length (filter (selects plan) L)) O
    → back plan (L ∷ []) O table n ≡ places (λ rid. list_any (λ o. nat_eq (selected_table plan) table && nat_eq (get_or (chosen plan L) o 0) rid) O) n
many_are plan L O table n h low = same_below _ _ n (λ rid below.
    any_below (λ o. relates plan (L ∷ []) table o rid) (λ o. nat_eq (selected_table plan) table && nat_eq (get_or (chosen plan L) o 0) rid) (length (filter (selects plan) L)) O low (λ o l. relates_chosen plan L table o rid h l))

from_own : (plan : Expr) (L : List Row) (O : List ℕ) → is_selection plan ≡ true → All (λ o. o < length (filter (selects plan) L)) O
    → back plan (L ∷ []) O (selected_table plan) (length L) ≡ places (λ rid. list_any (λ o. nat_eq (get_or (chosen plan L) o 0) rid) O) (length L)
from_own plan L O h low = many_are plan L O (selected_table plan) (length L) h low ∙ same_below _ _ (length L) (λ rid below.
    any_below (λ o. nat_eq (selected_table plan) (selected_table plan) && nat_eq (get_or (chosen plan L) o 0) rid) (λ o. nat_eq (get_or (chosen plan L) o 0) rid) (length (filter (selects plan) L)) O low (λ o l. own_table (selected_table plan) (get_or (chosen plan L) o 0) rid))

-- selections over a scan
pub selections : SelectionLineage
selections = record {
  rows = rows_are;
  rows_at = λ plan L. sym (at_places (selects plan) L []);
  number = number_chosen;
  below = λ plan L. places_below (λ i. selects plan (row_at L i)) (length L);
  one = λ plan L o h low.
      let at : get_or (chosen plan L) o 0 < length L = All-get_or (λ rid. rid < length L) (chosen plan L) o 0 (omega (arith, low, number_chosen plan L)) (places_below (λ i. selects plan (row_at L i)) (length L)) in
      from_own plan L (o ∷ []) h (λ k d l. let e : k ≡ 0 = omega arith in rw e low)
      ∙ same_below _ (nat_eq (get_or (chosen plan L) o 0)) (length L) (λ rid below. or_false (nat_eq (get_or (chosen plan L) o 0) rid))
      ∙ places_own (get_or (chosen plan L) o 0) (length L) at;
  many = from_own;
  other = λ plan L O table n h low differs. many_are plan L O table n h low ∙ same_below _ (λ rid. false) n (λ rid below. rw differs (any_false O)) ∙ places_false n;
  forward = λ plan L S h. ap (places (λ o. list_any (λ rid. relates plan (L ∷ []) (selected_table plan) o rid) S)) (ap length (rows_are plan L h))
      ∙ same_below _ _ (length (filter (selects plan) L)) (λ o low. any_same (λ rid. relates plan (L ∷ []) (selected_table plan) o rid) (λ rid. nat_eq (get_or (chosen plan L) o 0) rid) S
      (λ rid. relates_chosen plan L (selected_table plan) o rid h low ∙ own_table (selected_table plan) (get_or (chosen plan L) o 0) rid));
}

-- the same of one selection, as a search finds it
