-- Annotated meaning: each row with the set of pairs (leaf, rid) that it came from. Backward and forward lineage are read off it.
use Rattle.std.specs.{Prelude.{ℕ, ◌+◌, Bool, false, ◌&&◌, ◌||◌, List, [], ◌++◌, length, map, slice_index_or, nat_eq}, List.{list_any, flat_map, filter, sum_by}}
use Rattle.smk_base.specs.Plans.{Unary, Selection, Projection, Distinction, Grouping, Binary, Equijoin, ThetaJoin, CrossProduct, BagUnion, SetUnion, Expr, Leaf, Apply, Combine}
use Rattle.smk_model.specs.{Values.{Row, meets}, Plain.{row_eq, image, key_of, firsts, grouped, agree, meets_together, always, leaves, width, eval}, Lineage.{upto, places, row_at}}

-- a set of pairs (leaf, rid): the test whether a pair is in it
abbrev pub Sources : Type 0
Sources = ℕ → ℕ → Bool

-- a row with the set that it came from
abbrev pub Marked : Type 0
Marked = Row × Sources

abbrev pub no_mark : Marked
no_mark = ([], λ leaf rid. false)

abbrev pub mark_at : List Marked → ℕ → Marked
mark_at marked i = slice_index_or marked i no_mark

abbrev pub rows_of : List Marked → List Row
rows_of marked = map (λ m. m.0) marked

-- the union of two sets
abbrev pub both : Sources → Sources → Sources
both a b = λ leaf rid. a leaf rid || b leaf rid

-- the union of the sets of the rows that pass a test
abbrev pub gathered : (Row → Bool) → List Marked → Sources
gathered test marked = λ leaf rid. list_any (λ m. m.1 leaf rid) (filter (λ m. test m.0) marked)

-- the rows of a scan at leaf k: row r came from (k, r) alone
abbrev pub scanned : ℕ → List Row → List Marked
scanned k rows = map (λ i. (row_at rows i, λ leaf rid. nat_eq k leaf && nat_eq i rid)) (upto (length rows))

-- a step with one input: a row that is kept or mapped keeps its set; one made of several has their sets united
abbrev pub ann1 : Unary → List Marked → List Marked
ann1 (Selection formula) marked = filter (λ m. meets formula m.0) marked
ann1 (Projection items) marked = map (λ m. (image items m.0, m.1)) marked
ann1 (Distinction items) marked = map (λ r. (r, gathered (λ row. row_eq r (image items row)) marked)) (firsts (map (image items) (rows_of marked)))
ann1 (Grouping keys aggs) marked = map (λ key. (grouped keys aggs (rows_of marked) key, gathered (λ row. row_eq key (key_of keys row)) marked)) (firsts (map (key_of keys) (rows_of marked)))

-- the rows of a nested loop: each has the sets of both its rows, united
abbrev pub nested_marks : (Row → Row → Bool) → List Marked → List Marked → List Marked
nested_marks test ls rs = flat_map (λ l. map (λ r. (l.0 ++ r.0, both l.1 r.1)) (filter (λ r. test l.0 r.0) rs)) ls

-- a step with two inputs; a row of `union` has the sets of all the rows that equal it
abbrev pub ann2 : Binary → List Marked → List Marked → List Marked
ann2 (Equijoin pairs) ls rs = nested_marks (agree pairs) ls rs
ann2 (ThetaJoin formula) ls rs = nested_marks (meets_together formula) ls rs
ann2 CrossProduct ls rs = nested_marks always ls rs
ann2 BagUnion ls rs = ls ++ rs
ann2 SetUnion ls rs = map (λ r. (r, both (gathered (row_eq r) ls) (gathered (row_eq r) rs))) (firsts (rows_of ls ++ rows_of rs))

-- the rows of a plan with their sets; its leaves are numbered from k on, and leaf i has the rows E[i]
abbrev pub ann_from : Expr → List (List Row) → ℕ → List Marked
ann_from (Leaf table) E k = scanned k (slice_index_or E k [])
ann_from (Apply op input) E k = ann1 op (ann_from input E k)
ann_from (Combine op left right) E k = ann2 op (ann_from left E k) (ann_from right E (k + width left))

abbrev pub ann : Expr → List (List Row) → List Marked
ann plan E = ann_from plan E 0

-- whether a set has the rid at some leaf that scans the table; the leaves scan these tables
abbrev pub reaches : List ℕ → ℕ → Sources → ℕ → Bool
reaches scans table set rid = list_any (λ leaf. nat_eq (slice_index_or scans leaf 0) table && set leaf rid) (upto (length scans))

-- whether output row o of a plan came from row rid of a table
abbrev pub relates : Expr → List (List Row) → ℕ → ℕ → ℕ → Bool
relates plan E table o rid = reaches (leaves plan) table (mark_at (ann plan E) o).1 rid

-- backward lineage: the rids of a table of n rows that the output rows at the places O came from, ascending
abbrev pub back : Expr → List (List Row) → List ℕ → ℕ → ℕ → List ℕ
back plan E O table n = places (λ rid. list_any (λ o. relates plan E table o rid) O) n

-- forward lineage: the places of the output rows that came from a rid in S, ascending
abbrev pub fwd : Expr → List (List Row) → List ℕ → ℕ → List ℕ
fwd plan E S table = places (λ o. list_any (λ rid. relates plan E table o rid) S) (length (eval plan E))

-- how many pairs there are of an output row and a rid that it came from
abbrev pub pairs : Expr → List (List Row) → ℕ → ℕ → ℕ
pairs plan E table n = sum_by (λ o. length (places (relates plan E table o) n)) (upto (length (eval plan E)))
