-- Predicates, steps and plans as plain data, with no pointers: the definitions of what a plan means read these.
use Rattle.std.specs.Prelude.{ℕ, List}
use Rattle.smk_base.specs.{declared.book.plan.CmpOp.CmpOp, declared.book.plan.Operand.Operand, declared.book.plan.Item.Item, declared.book.plan.Agg.Agg}

-- a test of a row, as a formula over comparisons
pub data Formula : Type 0 where
  Comparison : ℕ → CmpOp → Operand → Formula
  Conjunction : Formula → Formula → Formula
  Disjunction : Formula → Formula → Formula
  Negation : Formula → Formula

-- a step with one input
pub data Unary : Type 0 where
  Selection : Formula → Unary
  Projection : List Item → Unary
  Distinction : List Item → Unary
  Grouping : List ℕ → List Agg → Unary

-- a step with two inputs: an equijoin on pairs of columns, a join on a formula, the product, the union that keeps repeats, or the union without them
pub data Binary : Type 0 where
  Equijoin : List (ℕ × ℕ) → Binary
  ThetaJoin : Formula → Binary
  CrossProduct : Binary
  BagUnion : Binary
  SetUnion : Binary

-- a plan: an expression of relational algebra whose leaves are tables, by number
pub data Expr : Type 0 where
  Leaf : ℕ → Expr
  Apply : Unary → Expr → Expr
  Combine : Binary → Expr → Expr → Expr
