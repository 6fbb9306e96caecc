-- Value order, the floor of a quotient, and what a predicate says of a row.
use Rattle.std.specs.{Prelude.{ℕ, ℤ, Bool, not, ◌&&◌, ◌||◌, List}, declared.cmp.Ordering.Ordering, declared.cmp.Ordering.TheVariants.{Less, Greater}, Ordering.{int_cmp, nat_cmp, is_eq, is_ne, is_lt, is_le, is_gt, is_ge}, Cmp.Lexicographic.slice_cmp, Int.int_div_euclid}
use Rattle.smk_base.specs.{declared.value.Value.Value, declared.value.Value.TheVariants.{Int, Text}, declared.book.plan.CmpOp.CmpOp, declared.book.plan.CmpOp.TheVariants.{Eq, Ne, Lt, Le, Gt, Ge}, declared.book.plan.Operand.Operand, declared.book.plan.Operand.TheVariants.{Col, Lit}, Rels.value_in, Plans.{Formula, Comparison, Conjunction, Disjunction, Negation}}

-- the values of a row, by column
abbrev pub Row : Type 0
Row = List Value

-- value order: ints by number; texts byte by byte, a proper prefix being less; ints before texts, though no typed comparison has both
abbrev pub value_cmp : Value → Value → Ordering
value_cmp (Int a) (Int b) = int_cmp a b
value_cmp (Text a) (Text b) = slice_cmp nat_cmp a b
value_cmp (Int a) (Text b) = Less
value_cmp (Text a) (Int b) = Greater

-- the greatest whole q with q times w at most v, for w at least 1 (the law bin_is_floor)
abbrev pub bin : ℤ → ℤ → ℤ
bin v w = int_div_euclid v w

-- the value in column c
abbrev pub value_at : Row → ℕ → Value
value_at row c = value_in row c

-- whether a comparison holds of values in this order
abbrev pub holds : CmpOp → Ordering → Bool
holds Eq order = is_eq order
holds Ne order = is_ne order
holds Lt order = is_lt order
holds Le order = is_le order
holds Gt order = is_gt order
holds Ge order = is_ge order

-- the right side of a comparison, at a row
abbrev pub operand_at : Row → Operand → Value
operand_at row (Col c) = value_at row c
operand_at row (Lit v) = v

-- whether a row meets a predicate
abbrev pub meets : Formula → Row → Bool
meets (Comparison c op right) row = holds op (value_cmp (value_at row c) (operand_at row right))
meets (Conjunction a b) row = meets a row && meets b row
meets (Disjunction a b) row = meets a row || meets b row
meets (Negation a) row = not (meets a row)
