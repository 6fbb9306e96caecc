-- Plain meaning: relational algebra over lists of rows.
use Rattle.std.specs.{Prelude.{ℕ, ℤ, pos, ◌+◌, ◌+ℤ◌, Bool, cond, ◌&&◌, true, false, List, [], ◌∷◌, ◌++◌, length, map, slice_index_or}, List.{flat_map, filter, fold}, Cmp.Lexicographic.pointwise, Ordering.{is_lt, is_gt}}
use Rattle.smk_base.specs.{declared.value.Value.Value, declared.value.Value.TheVariants.Int, declared.book.plan.Item.Item, declared.book.plan.Item.TheVariants.{Col, Bin}, declared.book.plan.Agg.Agg, declared.book.plan.Agg.TheVariants.{Count, Sum, Min, Max}, Plans.{Formula, Unary, Selection, Projection, Distinction, Grouping, Binary, Equijoin, ThetaJoin, CrossProduct, BagUnion, SetUnion, Expr, Leaf, Apply, Combine}, Values.value_eq, Firsts.{with_item, first_items}, Rels.picked}
pub use Rattle.smk_base.specs.Rels.{number_of}
use Rattle.smk_model.specs.Values.{Row, value_at, value_cmp, bin, meets}

-- whether two rows are equal
abbrev pub row_eq : Row → Row → Bool
row_eq = pointwise value_eq

-- the value of an output column, from an input row
abbrev pub item_at : Row → Item → Value
item_at row (Col c) = value_at row c
item_at row (Bin c w) = Int (bin (number_of (value_at row c)) w)

-- the projected row
abbrev pub image : List Item → Row → Row
image items row = map (item_at row) items

-- the key of a row
abbrev pub key_of : List ℕ → Row → Row
key_of keys row = picked keys row

-- the rows without repeats, each at its first occurrence
abbrev pub add_first : List Row → Row → List Row
add_first found row = with_item row_eq found row

abbrev pub firsts : List Row → List Row
firsts rows = first_items row_eq rows

-- the lesser and the greater of two values
abbrev pub lesser : Value → Value → Value
lesser a b = cond (is_lt (value_cmp b a)) b a

abbrev pub greater : Value → Value → Value
greater a b = cond (is_gt (value_cmp b a)) b a

-- the values, combined from left to right; no group is empty
abbrev pub combined : (Value → Value → Value) → List Value → Value
combined f [] = Int (pos 0)
combined f (v ∷ vs) = fold f v vs

-- the sum of ints
abbrev pub total : List ℤ → ℤ
total ns = fold ◌+ℤ◌ (pos 0) ns

-- an aggregate over the rows of a group
abbrev pub aggregate : List Row → Agg → Value
aggregate rows Count = Int (pos (length rows))
aggregate rows (Sum c) = Int (total (map (λ row. number_of (value_at row c)) rows))
aggregate rows (Min c) = combined lesser (map (λ row. value_at row c) rows)
aggregate rows (Max c) = combined greater (map (λ row. value_at row c) rows)

-- the row of a group: the key, then the aggregates over the rows with that key
abbrev pub grouped : List ℕ → List Agg → List Row → Row → Row
grouped keys aggs rows key = key ++ map (aggregate (filter (λ row. row_eq key (key_of keys row)) rows)) aggs

-- whether two rows have equal values in every pair of columns
abbrev pub agree : List (ℕ × ℕ) → Row → Row → Bool
agree [] l r = true
agree (pair ∷ pairs) l r = value_eq (value_at l pair.0) (value_at r pair.1) && agree pairs l r

-- whether a left row followed by a right row meets a formula
abbrev pub meets_together : Formula → Row → Row → Bool
meets_together formula l r = meets formula (l ++ r)

-- the test that every pair of rows passes
abbrev pub always : Row → Row → Bool
always l r = true

-- for each left row, each right row that passes the test with it, both in order: the left row followed by the right one
abbrev pub nested : (Row → Row → Bool) → List Row → List Row → List Row
nested test L R = flat_map (λ l. map (λ r. l ++ r) (filter (test l) R)) L

-- whether a step puts rows of both sides beside each other
abbrev pub is_join : Binary → Bool
is_join BagUnion = false
is_join SetUnion = false
is_join _ = true

-- the test of a join's nested loop; a union puts no rows beside each other
abbrev pub joins : Binary → Row → Row → Bool
joins (Equijoin pairs) = agree pairs
joins (ThetaJoin formula) = meets_together formula
joins CrossProduct = always
joins _ = λ l r. false

-- the output rows of a step, over one input and over two
abbrev pub step1 : Unary → List Row → List Row
step1 (Selection formula) L = filter (meets formula) L
step1 (Projection items) L = map (image items) L
step1 (Distinction items) L = firsts (map (image items) L)
step1 (Grouping keys aggs) L = map (grouped keys aggs L) (firsts (map (key_of keys) L))

abbrev pub step2 : Binary → List Row → List Row → List Row
step2 (Equijoin pairs) L R = nested (agree pairs) L R
step2 (ThetaJoin formula) L R = nested (meets_together formula) L R
step2 CrossProduct L R = nested always L R
step2 BagUnion L R = L ++ R
step2 SetUnion L R = firsts (L ++ R)

-- the tables that the leaves scan, left to right
abbrev pub leaves : Expr → List ℕ
leaves (Leaf table) = table ∷ []
leaves (Apply op input) = leaves input
leaves (Combine op left right) = leaves left ++ leaves right

-- the number of leaves
abbrev pub width : Expr → ℕ
width plan = length (leaves plan)

-- the rows of a plan; its leaves are numbered from k on, and leaf i has the rows E[i]
abbrev pub eval_from : Expr → List (List Row) → ℕ → List Row
eval_from (Leaf table) E k = slice_index_or E k []
eval_from (Apply op input) E k = step1 op (eval_from input E k)
eval_from (Combine op left right) E k = step2 op (eval_from left E k) (eval_from right E (k + width left))

-- the rows of a plan over one list of rows per leaf
abbrev pub eval : Expr → List (List Row) → List Row
eval plan E = eval_from plan E 0

-- the rows of the table with this number
abbrev pub table_at : List (List Row) → ℕ → List Row
table_at tables table = slice_index_or tables table []

-- one list per leaf, each the whole table
abbrev pub whole : Expr → List (List Row) → List (List Row)
whole plan tables = map (table_at tables) (leaves plan)

-- the rows of a plan over whole tables
abbrev pub rows_over : Expr → List (List Row) → List Row
rows_over plan tables = eval plan (whole plan tables)
