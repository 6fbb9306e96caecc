-- Laws of the annotated meaning and of one-step lineage, each a statement over all arguments.
use Rattle.std.specs.{Prelude.{◌≡◌, ℕ, ℤ, pos, ◌+◌, ◌<◌, ◌+ℤ◌, ◌*ℤ◌, ◌≤ℤ◌, ◌<ℤ◌, Bool, true, false, ◌&&◌, List, [], ◌∷◌, length, slice_index_or, nat_eq}, List.{filter, list_any, All}}
use Rattle.smk_base.specs.{Places.IsPlaces, Picks.IsAscending, Plans.{Unary, Selection, Binary, Expr, Leaf, Apply, Combine}}
use Rattle.smk_model.specs.{Values.{Row, bin, meets}, Plain.{step1, step2, width, eval_from, eval}, Lineage.{places, row_at, sub, from1, from_left, from_right}, CuiWidom.{CuiWidom1, CuiWidom2}, Annotated.{Sources, Marked, mark_at, rows_of, both, ann_from, ann, back, fwd}}

-- whether a plan is a chain of selections over a scan
abbrev pub is_selection : Expr → Bool
is_selection (Leaf table) = true
is_selection (Apply (Selection formula) input) = is_selection input
is_selection _ = false

-- the table that such a chain scans
abbrev pub selected_table : Expr → ℕ
selected_table (Leaf table) = table
selected_table (Apply op input) = selected_table input
selected_table (Combine op left right) = selected_table left

-- whether a row meets every formula of such a chain
abbrev pub selects : Expr → Row → Bool
selects (Leaf table) row = true
selects (Apply (Selection formula) input) row = selects input row && meets formula row
selects _ row = false

-- the rids of the rows that a chain selects, ascending
abbrev pub chosen : Expr → List Row → List ℕ
chosen plan L = places (λ i. selects plan (row_at L i)) (length L)

-- selections over a scan: the rows, and the rids that they come from
pub record SelectionLineage : Type 0 where
  -- the rows are those that meet every formula
  pub rows : (plan : Expr) (L : List Row) → is_selection plan ≡ true → eval plan (L ∷ []) ≡ filter (selects plan) L
  -- they are the rows at the chosen rids, as many as these, and each of these is in range
  pub rows_at : (plan : Expr) (L : List Row) → filter (selects plan) L ≡ sub L (chosen plan L)
  pub number : (plan : Expr) (L : List Row) → length (chosen plan L) ≡ length (filter (selects plan) L)
  pub below : (plan : Expr) (L : List Row) → All (λ rid. rid < length L) (chosen plan L)
  -- row number o comes from the o-th chosen rid alone
  pub one : (plan : Expr) (L : List Row) (o : ℕ) → is_selection plan ≡ true → o < length (filter (selects plan) L)
      → back plan (L ∷ []) (o ∷ []) (selected_table plan) (length L) ≡ slice_index_or (chosen plan L) o 0 ∷ []
  -- the rows at some places come from the chosen rids of these places
  pub many : (plan : Expr) (L : List Row) (O : List ℕ) → is_selection plan ≡ true → All (λ o. o < length (filter (selects plan) L)) O
      → back plan (L ∷ []) O (selected_table plan) (length L) ≡ places (λ rid. list_any (λ o. nat_eq (slice_index_or (chosen plan L) o 0) rid) O) (length L)
  -- they come from no row of another table
  pub other : (plan : Expr) (L : List Row) (O : List ℕ) (table n : ℕ) → is_selection plan ≡ true → All (λ o. o < length (filter (selects plan) L)) O → nat_eq (selected_table plan) table ≡ false
      → back plan (L ∷ []) O table n ≡ []
  -- some rids reach the places whose chosen rid is among them
  pub forward : (plan : Expr) (L : List Row) (S : List ℕ) → is_selection plan ≡ true
      → fwd plan (L ∷ []) S (selected_table plan) ≡ places (λ o. list_any (λ rid. nat_eq (slice_index_or (chosen plan L) o 0) rid) S) (length (filter (selects plan) L))

-- the rows of the annotated meaning are the plain rows, in order
abbrev pub RowsAgree : Type 0
RowsAgree = (plan : Expr) (E : List (List Row)) → rows_of (ann plan E) ≡ eval plan E

-- the union of the sets of the rows at these places
abbrev pub united : List Marked → List ℕ → Sources
united marked A = λ leaf rid. list_any (λ i. (mark_at marked i).1 leaf rid) A

-- at each node of a plan, scans aside, the set of an output row is the union of its inputs' sets at the places that it comes from; a node is a plan whose leaves have the lists of E from the k-th on
pub record StepByStep : Type 0 where
  pub one : (op : Unary) (input : Expr) (E : List (List Row)) (k o leaf rid : ℕ) → o < length (eval_from (Apply op input) E k)
      → (mark_at (ann_from (Apply op input) E k) o).1 leaf rid ≡ united (ann_from input E k) (from1 op (eval_from input E k) o) leaf rid
  pub two : (op : Binary) (left right : Expr) (E : List (List Row)) (k o leaf rid : ℕ) → o < length (eval_from (Combine op left right) E k)
      → (mark_at (ann_from (Combine op left right) E k) o).1 leaf rid
      ≡ both (united (ann_from left E k) (from_left op (eval_from left E k) (eval_from right E (k + width left)) o))
      (united (ann_from right E (k + width left)) (from_right op (eval_from left E k) (eval_from right E (k + width left)) o)) leaf rid

-- bin of v and w is the floor of the quotient: the greatest whole q with q times w at most v
pub record BinIsFloor : Type 0 where
  pub within : (v w : ℤ) → pos 1 ≤ℤ w → (bin v w *ℤ w) ≤ℤ v
  pub next : (v w : ℤ) → pos 1 ≤ℤ w → v <ℤ ((bin v w +ℤ pos 1) *ℤ w)
  pub greatest : (v w q : ℤ) → pos 1 ≤ℤ w → (q *ℤ w) ≤ℤ v → q ≤ℤ bin v w

-- the places of one step meet the conditions of Cui and Widom, for every step
pub record CuiWidom : Type 0 where
  pub one : (op : Unary) (L : List Row) (o : ℕ) → o < length (step1 op L) → CuiWidom1 (step1 op) L o (from1 op L o)
  pub two : (op : Binary) (L R : List Row) (o : ℕ) → o < length (step2 op L R) → CuiWidom2 (step2 op) L R o (from_left op L R o) (from_right op L R o)

-- the answers to backward and forward queries are ascending, without repeats and in range
pub record AnswersArePlaces : Type 0 where
  pub backward : (plan : Expr) (E : List (List Row)) (O : List ℕ) (table n : ℕ) → IsPlaces n (back plan E O table n)
  pub forward : (plan : Expr) (E : List (List Row)) (S : List ℕ) (table : ℕ) → IsPlaces (length (eval plan E)) (fwd plan E S table)
  pub below : (n : ℕ) (A : List ℕ) → IsPlaces n A → All (λ i. i < n) A

-- what it is to be places below n: ascending, without repeats and in range, in both directions
pub record PlacesAscend : Type 0 where
  pub ascend : (n : ℕ) (A : List ℕ) → IsPlaces n A → IsAscending A × All (λ i. i < n) A
  pub are : (n : ℕ) (A : List ℕ) → IsAscending A → All (λ i. i < n) A → IsPlaces n A
