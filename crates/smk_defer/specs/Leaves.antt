-- What the body that defers leaves pending: the step, its inputs and what is wanted, its keys and the number of its rows.
use Rattle.std.specs.Prelude.{◌≡◌, length, Some, None}
use Rattle.smk_base.specs.{Plans.{Unary, Binary}, PlanImage.{unary_of, binary_of}, Rels.Relation, declared.book.plan.Dir.Dir}
use Rattle.smk_model.specs.Plain.{step1, step2}
use Rattle.smk_body.specs.{Locals.left_want, declared.keep.local.Want.Want}
use Rattle.smk_defer.specs.{declared.kept.Kept.Kept, declared.kept.KeptOp.KeptOp, declared.kept.KeptOp.TheVariants.{One, Two}, Kept.{keys1, keys2}}

-- a kept step is this one, with one input or with two
abbrev pub IsOne : Unary → KeptOp → Type 0
IsOne op (One kept) = unary_of kept ≡ op
IsOne op (Two kept) = ⊥

abbrev pub IsTwo : Binary → KeptOp → Type 0
IsTwo op (One kept) = ⊥
IsTwo op (Two kept) = binary_of kept ≡ op

-- what is left pending of a step with one input
pub record Leaves1 (step : Unary) (input : Relation) (asked : Dir) (kept : Kept) : Type 0 where
  pub op : IsOne step kept.op
  pub keys : kept.keys ≡ keys1 step input.rows
  pub left : kept.left ≡ input
  pub right : kept.right ≡ None
  pub want : kept.want ≡ left_want asked
  pub out_rows : kept.out_rows ≡ length (step1 step input.rows)

-- what is left pending of a step with two inputs
pub record Leaves2 (step : Binary) (first second : Relation) (asked : Want) (kept : Kept) : Type 0 where
  pub op : IsTwo step kept.op
  pub keys : kept.keys ≡ keys2 step first.rows second.rows
  pub left : kept.left ≡ first
  pub right : kept.right ≡ Some second
  pub want : kept.want ≡ asked
  pub out_rows : kept.out_rows ≡ length (step2 step first.rows second.rows)
