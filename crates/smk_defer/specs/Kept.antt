-- What a step keeps for its lineage.
use Rattle.std.specs.Prelude.{List, [], ◌++◌, map, Option, Some, None}
use Rattle.smk_base.specs.{Plans.{Unary, Distinction, Grouping, Binary, Equijoin, SetUnion}, PlanImage.{unary_of, binary_of}, Rels.Relation}
use Rattle.smk_model.specs.{Values.Row, Plain.{image, key_of, firsts, step1, step2}, Kinds.{Fits1, Fits2}}
use Rattle.smk_body.specs.{Halves.right_columns_of, Locals.{local1, local2}, declared.keep.local.Want.Want, declared.keep.local.Local.Local}
use Rattle.smk_defer.specs.{declared.kept.KeptOp.KeptOp, declared.kept.KeptOp.TheVariants.{One, Two}}

-- the distinct keys of a step with one input, by first occurrence: the images of a distinct, the keys of a group
abbrev pub keys1 : Unary → List Row → List Row
keys1 (Distinction items) L = firsts (map (image items) L)
keys1 (Grouping keys aggs) L = firsts (map (key_of keys) L)
keys1 _ L = []

-- the distinct keys of a step with two inputs: for an equijoin the right rows' values in its pairs, for a set union its rows
abbrev pub keys2 : Binary → List Row → List Row → List Row
keys2 (Equijoin pairs) L R = firsts (map (key_of (right_columns_of pairs)) R)
keys2 SetUnion L R = firsts (L ++ R)
keys2 _ L R = []

-- whether a step fits the kinds of its inputs; the right one is there exactly if the step has two
abbrev pub StepFits : KeptOp → Relation → Option Relation → Type 0
StepFits (One op) left None = Fits1 (unary_of op) left.kinds
StepFits (Two op) left (Some right) = Fits2 (binary_of op) left.kinds right.kinds
StepFits _ left _ = ⊥

-- the rows of a right input
abbrev pub right_rows : Option Relation → List Row
right_rows None = []
right_rows (Some right) = right.rows

-- the distinct keys of a step, its rows, and its wanted lineage
abbrev pub step_keys : KeptOp → Relation → Option Relation → List Row
step_keys (One op) left right = keys1 (unary_of op) left.rows
step_keys (Two op) left right = keys2 (binary_of op) left.rows (right_rows right)

abbrev pub step_rows : KeptOp → Relation → Option Relation → List Row
step_rows (One op) left right = step1 (unary_of op) left.rows
step_rows (Two op) left right = step2 (binary_of op) left.rows (right_rows right)

abbrev pub step_local : KeptOp → Relation → Option Relation → Want → Local
step_local (One op) left right want = local1 (unary_of op) left.rows want.left
step_local (Two op) left right want = local2 (binary_of op) left.rows (right_rows right) want
