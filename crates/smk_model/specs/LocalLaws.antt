-- Laws of the lists of one step: each list in the form in which a loop makes it, and what a cut of the input into parts leaves as it is.
use Rattle.std.specs.{Prelude.{◌≡◌, ℕ, ◌+◌, ◌≤◌, Bool, true, List, [], ◌∷◌, ◌++◌, length, map}, List.{flat_map, All}}
use Rattle.smk_base.specs.{Places.IsPlaces, declared.book.plan.Item.Item, declared.book.plan.Agg.Agg, Plans.{Formula, Unary, Selection, Projection, Distinction, Grouping, Binary, BagUnion, SetUnion}}
use Rattle.smk_model.specs.{Values.Row, Plain.{row_eq, image, key_of, firsts, nested, is_join, joins, step1, step2}, Lineage.{upto, places, row_at, meeting, matching}, Locals.{back1, back_left, back_right}}

-- for each key the places, among the first i rows, of the rows that have it
abbrev pub by_key : (Row → Row) → List Row → ℕ → List Row → List (List ℕ)
by_key key L i keys = map (λ k. places (λ j. row_eq k (key (row_at L j))) i) keys

-- the lists of each step
pub record LocalsAre : Type 0 where
  pub selection : (formula : Formula) (L : List Row) → (back1 (Selection formula) L).lists ≡ map (λ i. i ∷ []) (meeting formula L)
  pub projection : (items : List Item) (L : List Row) → (back1 (Projection items) L).lists ≡ map (λ i. i ∷ []) (upto (length L))
  pub distinction : (items : List Item) (L : List Row) → (back1 (Distinction items) L).lists ≡ by_key (image items) L (length L) (firsts (map (image items) L))
  pub grouping : (keys : List ℕ) (aggs : List Agg) (L : List Row) → (back1 (Grouping keys aggs) L).lists ≡ by_key (key_of keys) L (length L) (firsts (map (key_of keys) L))
  pub join_left : (op : Binary) (L R : List Row) → is_join op ≡ true → (back_left op L R).lists ≡ map (λ p. p.0 ∷ []) (matching (joins op) L R)
  pub join_right : (op : Binary) (L R : List Row) → is_join op ≡ true → (back_right op L R).lists ≡ map (λ p. p.1 ∷ []) (matching (joins op) L R)
  pub joined : (op : Binary) (L R : List Row) → is_join op ≡ true → step2 op L R ≡ map (λ p. row_at L p.0 ++ row_at R p.1) (matching (joins op) L R)
  pub union_all_left : (L R : List Row) → (back_left BagUnion L R).lists ≡ map (λ i. i ∷ []) (upto (length L)) ++ map (λ j. []) (upto (length R))
  pub union_all_right : (L R : List Row) → (back_right BagUnion L R).lists ≡ map (λ i. []) (upto (length L)) ++ map (λ j. j ∷ []) (upto (length R))
  pub union_left : (L R : List Row) → (back_left SetUnion L R).lists ≡ by_key (λ row. row) L (length L) (firsts (L ++ R))
  pub union_right : (L R : List Row) → (back_right SetUnion L R).lists ≡ by_key (λ row. row) R (length R) (firsts (L ++ R))
  -- each list is ascending, without repeats and in range
  pub places_one : (op : Unary) (L : List Row) → All (IsPlaces (length L)) (back1 op L).lists
  pub places_left : (op : Binary) (L R : List Row) → All (IsPlaces (length L)) (back_left op L R).lists
  pub places_right : (op : Binary) (L R : List Row) → All (IsPlaces (length R)) (back_right op L R).lists

-- the parts after each other
abbrev pub together : List (List Row) → List Row
together parts = flat_map (λ part. part) parts

-- the places of the rows that pass, part by part, moved by n and by the lengths of the earlier parts
abbrev pub part_places : (Row → Bool) → ℕ → List (List Row) → List ℕ
part_places test n [] = []
part_places test n (part ∷ parts) = map (λ i. n + i) (places (λ i. test (row_at part i)) (length part)) ++ part_places test (n + length part) parts

-- the matching pairs of each part with a right list, moved on the left likewise
abbrev pub part_pairs : (Row → Row → Bool) → ℕ → List (List Row) → List Row → List (ℕ × ℕ)
part_pairs test n [] R = []
part_pairs test n (part ∷ parts) R = map (λ p. (n + p.0, p.1)) (matching test part R) ++ part_pairs test (n + length part) parts R

-- a list cut into consecutive parts
pub record Cut : Type 0 where
  pub selection : (formula : Formula) (parts : List (List Row)) → flat_map (step1 (Selection formula)) parts ≡ step1 (Selection formula) (together parts)
  pub join : (test : Row → Row → Bool) (parts : List (List Row)) (R : List Row) → flat_map (λ part. nested test part R) parts ≡ nested test (together parts) R
  pub keys : (key : Row → Row) (parts : List (List Row)) → firsts (map key (together parts)) ≡ firsts (flat_map (λ part. firsts (map key part)) parts)
  pub places_of_key : (key : Row → Row) (k : Row) (parts : List (List Row)) → places (λ i. row_eq k (key (row_at (together parts) i))) (length (together parts)) ≡ part_places (λ row. row_eq k (key row)) 0 parts
  -- the places of any test of the numbers below m + n, and of any test of rows
  pub places_of_two : (test : ℕ → Bool) (m n : ℕ) → places test (m + n) ≡ places test m ++ map (λ i. m + i) (places (λ i. test (m + i)) n)
  pub places_of_test : (test : Row → Bool) (parts : List (List Row)) → places (λ i. test (row_at (together parts) i)) (length (together parts)) ≡ part_places test 0 parts
  -- the matching pairs of a nested loop, by the parts of its left input
  pub pairs : (test : Row → Row → Bool) (parts : List (List Row)) (R : List Row) → matching test (together parts) R ≡ part_pairs test 0 parts R

-- a step with one input never adds rows
abbrev pub AddsNoRows : Type 0
AddsNoRows = (op : Unary) (L : List Row) → length (step1 op L) ≤ length L
