-- The columns that a plan reads if only some of its columns are wanted, and its steps over these alone.
use Rattle.std.specs.{Prelude.{◌≡◌, ℕ, ◌+◌, Bool, true, false, ◌||◌, nat_eq, List, ◌++◌, length, map, All}, List.list_any}
use Rattle.smk_base.specs.{Places.{has, places}, Plans.{Formula, Comparison, Conjunction, Disjunction, Negation, Unary, Selection, Projection, Distinction, Grouping, Binary, Equijoin, ThetaJoin, CrossProduct, BagUnion, SetUnion}, declared.book.plan.Operand.Operand}
use Rattle.smk_base.specs.declared.book.plan.Operand.TheVariants as operands
use Rattle.smk_model.specs.Values.{Row}
use Rattle.smk_table.specs.Named.{is_of, reads, place_of, item_among, agg_among, pair_among, behind, is_paired}

-- whether a comparison's right side or a formula reads a column
abbrev pub in_operand : ℕ → Operand → Bool
in_operand c (operands.Col d) = nat_eq c d
in_operand c (operands.Lit v) = false

abbrev pub in_formula : ℕ → Formula → Bool
in_formula c (Comparison d op right) = nat_eq c d || in_operand c right
in_formula c (Conjunction a b) = in_formula c a || in_formula c b
in_formula c (Disjunction a b) = in_formula c a || in_formula c b
in_formula c (Negation a) = in_formula c a

-- a comparison's right side or a formula, over these columns alone
abbrev pub operand_among : List ℕ → Operand → Operand
operand_among cols (operands.Col c) = operands.Col (place_of cols c)
operand_among cols (operands.Lit v) = operands.Lit v

abbrev pub formula_among : List ℕ → Formula → Formula
formula_among cols (Comparison c op right) = Comparison (place_of cols c) op (operand_among cols right)
formula_among cols (Conjunction a b) = Conjunction (formula_among cols a) (formula_among cols b)
formula_among cols (Disjunction a b) = Disjunction (formula_among cols a) (formula_among cols b)
formula_among cols (Negation a) = Negation (formula_among cols a)

-- whether a step reads a column of its input if these of its own are wanted
abbrev pub is_read : Unary → List ℕ → ℕ → Bool
is_read (Selection formula) cols c = has cols c || in_formula c formula
is_read (Projection items) cols c = list_any (is_of c) items
is_read (Distinction items) cols c = list_any (is_of c) items
is_read (Grouping keys aggs) cols c = has keys c || list_any (reads c) aggs

-- the columns that it reads, of n
abbrev pub below : Unary → List ℕ → ℕ → List ℕ
below op cols n = places (is_read op cols) n

-- the step over these columns of its input alone, and where the wanted columns are then
abbrev pub among1 : Unary → List ℕ → Unary
among1 (Selection formula) cols = Selection (formula_among cols formula)
among1 (Projection items) cols = Projection (map (item_among cols) items)
among1 (Distinction items) cols = Distinction (map (item_among cols) items)
among1 (Grouping keys aggs) cols = Grouping (map (place_of cols) keys) (map (agg_among cols) aggs)

abbrev pub after1 : Unary → List ℕ → List ℕ → List ℕ
after1 (Selection formula) read cols = map (place_of read) cols
after1 (Projection items) read cols = cols
after1 (Distinction items) read cols = cols
after1 (Grouping keys aggs) read cols = cols

-- whether a step with two inputs reads a column of both, one after the other, where the left one has w columns; a union reads all
abbrev pub is_met : Binary → ℕ → List ℕ → ℕ → Bool
is_met (Equijoin pairs) w cols c = has cols c || list_any (is_paired w c) pairs
is_met (ThetaJoin formula) w cols c = has cols c || in_formula c formula
is_met CrossProduct w cols c = has cols c
is_met BagUnion w cols c = true
is_met SetUnion w cols c = true

-- the columns that it reads of its left input and of its right one
abbrev pub below_left : Binary → List ℕ → ℕ → List ℕ
below_left op cols w = places (is_met op w cols) w

abbrev pub below_right : Binary → List ℕ → ℕ → ℕ → List ℕ
below_right op cols w n = places (λ c. is_met op w cols (w + c)) n

-- the step over these columns of both inputs alone, and where the wanted columns are then
abbrev pub among2 : Binary → ℕ → List ℕ → List ℕ → Binary
among2 (Equijoin pairs) w cl cr = Equijoin (map (pair_among cl cr) pairs)
among2 (ThetaJoin formula) w cl cr = ThetaJoin (formula_among (cl ++ behind w cr) formula)
among2 CrossProduct w cl cr = CrossProduct
among2 BagUnion w cl cr = BagUnion
among2 SetUnion w cl cr = SetUnion

abbrev pub after2 : Binary → ℕ → List ℕ → List ℕ → List ℕ → List ℕ
after2 (Equijoin pairs) w cl cr cols = map (place_of (cl ++ behind w cr)) cols
after2 (ThetaJoin formula) w cl cr cols = map (place_of (cl ++ behind w cr)) cols
after2 CrossProduct w cl cr cols = map (place_of (cl ++ behind w cr)) cols
after2 BagUnion w cl cr cols = cols
after2 SetUnion w cl cr cols = cols

-- rows of so many values
abbrev pub AreWide : ℕ → List Row → Type 0
AreWide n rows = All (λ row. length row ≡ n) rows
