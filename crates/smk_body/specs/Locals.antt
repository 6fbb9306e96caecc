-- The lineage of one step on exactly the wanted sides, in exactly the wanted directions.
use Rattle.std.specs.Prelude.{Bool, true, false, not, ◌&&◌, List, Option, Some, None}
use Rattle.smk_base.specs.{Places.Lists, Plans.{Unary, Binary}, declared.book.plan.Dir.Dir}
use Rattle.smk_model.specs.{Values.Row, Locals.{back1, fwd1, back_left, fwd_left, back_right, fwd_right}}
use Rattle.smk_body.specs.{declared.keep.local.Side.Side, declared.keep.local.Local.Local, declared.keep.local.Want.Want}

-- lists if they are wanted
abbrev pub wanted : Bool → Lists → Option Lists
wanted true lists = Some lists
wanted false lists = None

-- the wanted ones of a side's backward and forward lists
abbrev pub side_of : Dir → Lists → Lists → Side
side_of want back fwd = record { back = wanted want.back back; fwd = wanted want.fwd fwd }

-- the wanted lineage of a step with one input
abbrev pub local1 : Unary → List Row → Dir → Local
local1 op L want = record { left = side_of want (back1 op L) (fwd1 op L); right = None }

-- the wanted lineage of a step with two inputs
abbrev pub local2 : Binary → List Row → List Row → Want → Local
local2 op L R want = record {
  left = side_of want.left (back_left op L R) (fwd_left op L R);
  right = Some (side_of want.right (back_right op L R) (fwd_right op L R));
}

-- whether no direction is wanted
abbrev pub is_nothing : Dir → Bool
is_nothing want = not want.back && not want.fwd

-- whether nothing is wanted on either side
abbrev pub is_nothing2 : Want → Bool
is_nothing2 want = is_nothing want.left && is_nothing want.right

-- what is wanted of a step with one input: on its right side nothing
abbrev pub left_want : Dir → Want
left_want want = record { left = want; right = record { back = false; fwd = false } }
