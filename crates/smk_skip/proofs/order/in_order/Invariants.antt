use Rattle.std.proofs.Common.{◌≡◌, ◌<◌, take}
use Rattle.std.specs.List.{All, concat}
use Rattle.smk_skip.proofs.order.in_order.Given as goal

abbrev pub invariant-loop-i : goal.invariant-loop-i
invariant-loop-i l = record {
  rids : l.made.items ≡ concat (take l.i l.lists.lists);
  below : All (λ rid. rid < l.lists.bound) l.made.items;
}
