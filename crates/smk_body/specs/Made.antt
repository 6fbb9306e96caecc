-- What a step has made of its inputs: its rows, and how they belong together with the rows of each side.
use Rattle.std.specs.Prelude.{◌≡◌}
use Rattle.smk_base.specs.{Plans.{Unary, Binary}, Rels.Relation}
use Rattle.smk_model.specs.{Kinds.{kinds1, kinds2}, Plain.{step1, step2}, Ways.{way, left_way, right_way}}
use Rattle.smk_body.specs.{declared.step.Made1.Made1, declared.step.Made2.Made2}

pub record IsMade1 (op : Unary) (input : Relation) (made : Made1) : Type 0 where
  pub kinds : made.rel.kinds ≡ kinds1 op input.kinds
  pub rows : made.rel.rows ≡ step1 op input.rows
  pub is : made.way ≡ way op input.rows

pub record IsMade2 (op : Binary) (first second : Relation) (made : Made2) : Type 0 where
  pub kinds : made.rel.kinds ≡ kinds2 op first.kinds second.kinds
  pub rows : made.rel.rows ≡ step2 op first.rows second.rows
  pub left : made.left ≡ left_way op first.rows second.rows
  pub right : made.right ≡ right_way op first.rows second.rows
