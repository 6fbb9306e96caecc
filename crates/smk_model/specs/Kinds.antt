-- When a step fits the kinds of its inputs, and the kinds of its output. Columns are numbers here, so the rules about their names play no part.
use Rattle.std.specs.{Prelude.{ℕ, ◌+◌, ◌<◌, ◌≤◌, pos, ◌≤ℤ◌, List, [], ◌∷◌, ◌++◌, length, map, All}, List.AllZip}
use Rattle.smk_base.specs.{declared.value.Value.Value, declared.value.Kind.Kind, declared.value.Kind.TheVariants.{Int, Text}, declared.book.plan.Operand.Operand, declared.book.plan.Item.Item, declared.book.plan.Agg.Agg, declared.book.plan.Agg.TheVariants.{Count, Sum, Min, Max}, declared.rel.TheConstants.COLUMN_LIMIT, Plans.{Formula, Comparison, Conjunction, Disjunction, Negation, Unary, Selection, Projection, Distinction, Grouping, Binary, Equijoin, ThetaJoin, CrossProduct, BagUnion, SetUnion}, Rels.kind_in}
use Rattle.smk_base.specs.declared.value.Value.TheVariants as values
use Rattle.smk_base.specs.declared.book.plan.Operand.TheVariants as operands
use Rattle.smk_base.specs.declared.book.plan.Item.TheVariants as items
pub use Rattle.smk_base.specs.Widths.{AreAlike, wider}

-- the kind of a literal
abbrev pub kind_of : Value → Kind
kind_of (values.Int n) = Int 0
kind_of (values.Text t) = Text

-- an int
abbrev pub IsInt : Kind → Type 0
IsInt (Int level) = Unit {0}
IsInt Text = ⊥

-- an int whose sum has a level
abbrev pub IsSummed : Kind → Type 0
IsSummed (Int level) = level ≤ 2
IsSummed Text = ⊥

-- the right side of a comparison is there and is like the left
abbrev pub OperandFits : List Kind → Kind → Operand → Type 0
OperandFits kinds left (operands.Col c) = (c < length kinds) × AreAlike left (kind_in kinds c)
OperandFits kinds left (operands.Lit v) = AreAlike left (kind_of v)

-- every column of a predicate is there, and each comparison is of two ints or of two texts
abbrev pub FormulaFits : List Kind → Formula → Type 0
FormulaFits kinds (Comparison c op right) = (c < length kinds) × OperandFits kinds (kind_in kinds c) right
FormulaFits kinds (Conjunction a b) = FormulaFits kinds a × FormulaFits kinds b
FormulaFits kinds (Disjunction a b) = FormulaFits kinds a × FormulaFits kinds b
FormulaFits kinds (Negation a) = FormulaFits kinds a

-- a bin is of an int and divides by at least 1
abbrev pub ItemFits : List Kind → Item → Type 0
ItemFits kinds (items.Col c) = c < length kinds
ItemFits kinds (items.Bin c w) = (c < length kinds) × IsInt (kind_in kinds c) × (pos 1 ≤ℤ w)

-- a sum is of an int of level at most 2
abbrev pub AggFits : List Kind → Agg → Type 0
AggFits kinds Count = Unit {0}
AggFits kinds (Sum c) = (c < length kinds) × IsSummed (kind_in kinds c)
AggFits kinds (Min c) = c < length kinds
AggFits kinds (Max c) = c < length kinds

-- a pair of columns that are to be equal is of two ints or of two texts
abbrev pub PairFits : List Kind → List Kind → ℕ × ℕ → Type 0
PairFits ls rs pair = (pair.0 < length ls) × (pair.1 < length rs) × AreAlike (kind_in ls pair.0) (kind_in rs pair.1)

-- output columns are there, at most 16
pub record ItemsFit (kinds : List Kind) (items : List Item) : Type 0 where
  pub each : All (ItemFits kinds) items
  pub few : length items ≤ COLUMN_LIMIT

-- keys are there and aggregates fit, together at least one and at most 16
pub record GroupFits (kinds : List Kind) (keys : List ℕ) (aggs : List Agg) : Type 0 where
  pub keyed : All (λ c. c < length kinds) keys
  pub each : All (AggFits kinds) aggs
  pub some : 0 < length keys + length aggs
  pub few : length keys + length aggs ≤ COLUMN_LIMIT

-- both sides have at most 16 columns together
abbrev pub FewTogether : List Kind → List Kind → Type 0
FewTogether ls rs = length ls + length rs ≤ COLUMN_LIMIT

-- pairs fit, and both sides have at most 16 columns together
pub record JoinFits (ls rs : List Kind) (pairs : List (ℕ × ℕ)) : Type 0 where
  pub each : All (PairFits ls rs) pairs
  pub few : FewTogether ls rs

-- a formula fits the left kinds followed by the right ones, and these are at most 16
pub record ThetaFits (ls rs : List Kind) (formula : Formula) : Type 0 where
  pub fits : FormulaFits (ls ++ rs) formula
  pub few : FewTogether ls rs

-- whether a step fits the kinds of its input
abbrev pub Fits1 : Unary → List Kind → Type 0
Fits1 (Selection formula) kinds = FormulaFits kinds formula
Fits1 (Projection items) kinds = ItemsFit kinds items
Fits1 (Distinction items) kinds = ItemsFit kinds items
Fits1 (Grouping keys aggs) kinds = GroupFits kinds keys aggs

-- whether a step fits the kinds of its two inputs: a union has as many columns on both sides, alike in each place
abbrev pub Fits2 : Binary → List Kind → List Kind → Type 0
Fits2 (Equijoin pairs) ls rs = JoinFits ls rs pairs
Fits2 (ThetaJoin formula) ls rs = ThetaFits ls rs formula
Fits2 CrossProduct ls rs = FewTogether ls rs
Fits2 _ ls rs = AllZip AreAlike ls rs

-- the kind of an output column: bin keeps the level
abbrev pub kind_of_item : List Kind → Item → Kind
kind_of_item kinds (items.Col c) = kind_in kinds c
kind_of_item kinds (items.Bin c w) = kind_in kinds c

-- the kind of a sum, one level up
abbrev pub summed : Kind → Kind
summed (Int level) = Int (level + 1)
summed Text = Text

-- the kind of an aggregate: a count has level 0, the least and the greatest keep the level
abbrev pub kind_of_agg : List Kind → Agg → Kind
kind_of_agg kinds Count = Int 0
kind_of_agg kinds (Sum c) = summed (kind_in kinds c)
kind_of_agg kinds (Min c) = kind_in kinds c
kind_of_agg kinds (Max c) = kind_in kinds c

-- the wider kind in each place of two lists
abbrev pub wider_kinds : List Kind → List Kind → List Kind
wider_kinds (l ∷ ls) (r ∷ rs) = wider l r ∷ wider_kinds ls rs
wider_kinds _ _ = []

-- the kinds of a step's output
abbrev pub kinds1 : Unary → List Kind → List Kind
kinds1 (Selection formula) kinds = kinds
kinds1 (Projection items) kinds = map (kind_of_item kinds) items
kinds1 (Distinction items) kinds = map (kind_of_item kinds) items
kinds1 (Grouping keys aggs) kinds = map (kind_in kinds) keys ++ map (kind_of_agg kinds) aggs

abbrev pub kinds2 : Binary → List Kind → List Kind → List Kind
kinds2 BagUnion ls rs = wider_kinds ls rs
kinds2 SetUnion ls rs = wider_kinds ls rs
kinds2 _ ls rs = ls ++ rs
