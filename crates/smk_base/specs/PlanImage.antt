-- From declared predicates, steps and plans to the plain data that definitions read.
use Rattle.smk_base.specs.{Plans.{Formula, Comparison, Conjunction, Disjunction, Negation, Unary, Selection, Projection, Distinction, Grouping, Binary, Equijoin, ThetaJoin, CrossProduct, BagUnion, SetUnion, Expr, Leaf, Apply, Combine}, declared.book.plan.Pred.{Pred, And', Or', Not'}, declared.book.plan.Pred.TheVariants.Cmp, declared.book.plan.Op1.Op1, declared.book.plan.Op1.TheVariants.{Select, Project, Distinct, Group}, declared.book.plan.Op2.Op2, declared.book.plan.Op2.TheVariants.{Join, Theta, Product, UnionAll, Union}, declared.book.plan.Plan.{Plan, One', Two'}, declared.book.plan.Plan.TheVariants.Scan}

-- each without its pointers
abbrev pub formula_of : Pred → Formula
formula_of (Cmp col op operand) = Comparison col op operand
formula_of (And' p left q right) = Conjunction (formula_of left) (formula_of right)
formula_of (Or' p left q right) = Disjunction (formula_of left) (formula_of right)
formula_of (Not' p inner) = Negation (formula_of inner)

abbrev pub unary_of : Op1 → Unary
unary_of (Select pred) = Selection (formula_of pred)
unary_of (Project items) = Projection items
unary_of (Distinct items) = Distinction items
unary_of (Group keys aggs) = Grouping keys aggs

abbrev pub binary_of : Op2 → Binary
binary_of (Join pairs) = Equijoin pairs
binary_of (Theta pred) = ThetaJoin (formula_of pred)
binary_of Product = CrossProduct
binary_of UnionAll = BagUnion
binary_of Union = SetUnion

abbrev pub expr_of : Plan → Expr
expr_of (Scan table) = Leaf table
expr_of (One' op p input) = Apply (unary_of op) (expr_of input)
expr_of (Two' op p left q right) = Combine (binary_of op) (expr_of left) (expr_of right)
