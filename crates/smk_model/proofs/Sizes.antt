-- The number of rows of a step with one input.
use Rattle.std.proofs.{Common.{◌+◌, ◌≤◌, List, [], ◌∷◌, length, map, arith, inl, inr}, lemmas.List.{length-append, length-map}, lemmas.List.Sums.{length-filter, count_by-le-length}, lemmas.Bool.cases_Bool}
use Rattle.std.specs.List.{fold}
use Rattle.smk_base.specs.Plans.{Selection, Projection, Distinction, Grouping}
use Rattle.smk_model.specs.{Values.{Row, meets}, Plain.{image, key_of, add_first, firsts, grouped}, LocalLaws.AddsNoRows}
use Rattle.smk_model.proofs.Firsts.{holds}

add_short : (found : List Row) (x : Row) → length (add_first found x) ≤ length found + 1
add_short found x = elim (cases_Bool (holds found x)) [ inl p ↦ rw p (omega arith) | inr p ↦ rw p (omega (arith, length-append found (x ∷ []))) ]

fold_short : (found xs : List Row) → length (fold add_first found xs) ≤ length found + length xs
fold_short found [] = omega arith
fold_short found (x ∷ xs) = omega (arith, fold_short (add_first found x) xs, add_short found x)

pub firsts_short : (xs : List Row) → length (firsts xs) ≤ length xs
firsts_short xs = omega (arith, fold_short [] xs)

pub adds_no_rows : AddsNoRows
adds_no_rows (Selection formula) L = omega (arith, length-filter (meets formula) L, count_by-le-length (meets formula) L)
adds_no_rows (Projection items) L = omega (arith, length-map L (image items))
adds_no_rows (Distinction items) L = omega (arith, firsts_short (map (image items) L), length-map L (image items))
adds_no_rows (Grouping keys aggs) L =
    omega (arith, length-map (firsts (map (key_of keys) L)) (grouped keys aggs L), firsts_short (map (key_of keys) L), length-map L (key_of keys))
