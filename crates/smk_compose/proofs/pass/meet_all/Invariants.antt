use Rattle.std.proofs.Common.{◌≡◌, take, None}
use Rattle.std.specs.List.{find}
use Rattle.smk_compose.specs.Through.{together_all, has_heavy, IsAhead}
use Rattle.smk_compose.proofs.pass.meet_all.Given as goal

abbrev pub invariant-loop-i : goal.invariant-loop-i
invariant-loop-i l = record {
  left : IsAhead l.fn.left_side l.fn.lefts l.left_side l.lefts l.i;
  right : IsAhead l.fn.right_side l.fn.rights l.right_side l.rights l.i;
  made : take l.i l.lefts ≡ take l.i (together_all l.fn.left_side l.fn.right_side l.fn.lefts l.fn.rights);
  none : find has_heavy (take l.i (together_all l.fn.left_side l.fn.right_side l.fn.lefts l.fn.rights)) ≡ None;
}
