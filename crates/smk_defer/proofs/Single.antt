-- That a step fits the kinds of its inputs has one proof at most, so what is kept tells it.
use Rattle.std.proofs.{Common.{List, ◌∷◌, Option, Some, None, []}, Math.Dec.T_prop, Math.Logic.∥∥₁_elim, Props.props}
use Rattle.std.specs.{Coded.×_prop, List.AllZip}
use Rattle.smk_base.specs.{declared.value.Kind.Kind, declared.value.Kind.TheVariants.{Int, Text}, declared.book.plan.Item.Item, Plans.{Formula, Comparison, Conjunction, Disjunction, Negation, Unary, Selection, Projection, Distinction, Grouping, Binary, Equijoin, ThetaJoin, CrossProduct}, declared.book.plan.Op1.Op1, declared.book.plan.Op2.Op2, PlanImage.{unary_of, binary_of}, Rels.Relation}
use Rattle.smk_base.specs.declared.book.plan.Operand.TheVariants as operands
use Rattle.smk_base.specs.declared.book.plan.Item.TheVariants as items
use Rattle.smk_model.specs.{Names.same_sort, Kinds.{AreAlike, IsInt, ItemFits, FormulaFits, Fits1, Fits2}}
use Rattle.smk_model.proofs.Aggregates.{agg_prop}
use Rattle.smk_defer.specs.{declared.kept.KeptOp.TheVariants.{One, Two}, Kept.StepFits}

alike_prop : (left right : Kind) → IsProp (AreAlike left right)
alike_prop left right = T_prop (same_sort left right)

int_prop : (kind : Kind) → IsProp (IsInt kind)
int_prop (Int level) = hlevel props
int_prop Text = hlevel props

item_prop : (kinds : List Kind) (item : Item) → IsProp (ItemFits kinds item)
item_prop kinds (items.Col c) = hlevel props
item_prop kinds (items.Bin c w) = hlevel (int_prop, props)

formula_prop : (kinds : List Kind) (formula : Formula) → IsProp (FormulaFits kinds formula)
formula_prop kinds (Comparison c op (operands.Col d)) = hlevel (alike_prop, props)
formula_prop kinds (Comparison c op (operands.Lit v)) = hlevel (alike_prop, props)
formula_prop kinds (Conjunction a b) = ×_prop (formula_prop kinds a) (formula_prop kinds b)
formula_prop kinds (Disjunction a b) = ×_prop (formula_prop kinds a) (formula_prop kinds b)
formula_prop kinds (Negation a) = formula_prop kinds a

each_alike_prop : (ls rs : List Kind) → IsProp (AllZip AreAlike ls rs)
each_alike_prop [] [] = hlevel props
each_alike_prop [] (r ∷ rs) = hlevel props
each_alike_prop (l ∷ ls) [] = hlevel props
each_alike_prop (l ∷ ls) (r ∷ rs) = ×_prop (alike_prop l r) (each_alike_prop ls rs)

pub fits1_prop : (op : Unary) (kinds : List Kind) → IsProp (Fits1 op kinds)
fits1_prop (Selection formula) kinds = formula_prop kinds formula
fits1_prop (Projection items) kinds = hlevel (item_prop, props)
fits1_prop (Distinction items) kinds = hlevel (item_prop, props)
fits1_prop (Grouping keys aggs) kinds = hlevel (agg_prop, props)

pub fits2_prop : (op : Binary) (ls rs : List Kind) → IsProp (Fits2 op ls rs)
fits2_prop (Equijoin pairs) ls rs = hlevel (alike_prop, props)
fits2_prop (ThetaJoin formula) ls rs = hlevel (formula_prop, props)
fits2_prop CrossProduct ls rs = hlevel props
fits2_prop _ ls rs = each_alike_prop ls rs

-- a step that is kept fits its inputs, and with two of them the right one is there
pub one_fits : (op : Op1) (left : Relation) (right : Option Relation) → ∥ StepFits (One op) left right ∥₁ → Fits1 (unary_of op) left.kinds
one_fits op left None h = ∥∥₁_elim h (fits1_prop (unary_of op) left.kinds) (λ fits. fits)
one_fits op left (Some right) h = ∥∥₁_elim h (fits1_prop (unary_of op) left.kinds) (λ fits. absurd fits)

pub two_fits : (op : Op2) (left right : Relation) → ∥ StepFits (Two op) left (Some right) ∥₁ → Fits2 (binary_of op) left.kinds right.kinds
two_fits op left right h = ∥∥₁_elim h (fits2_prop (binary_of op) left.kinds right.kinds) (λ fits. fits)

pub two_there : (op : Op2) (left : Relation) → ∥ StepFits (Two op) left None ∥₁ → ⊥
two_there op left h = ∥∥₁_elim h (hlevel props) (λ fits. fits)
