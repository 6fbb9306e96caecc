use Rattle.std.proofs.Common.{◌≡◌, ◌++◌, take}
use Rattle.smk_rid.proofs.derive.follow.put_lists_of.Given as goal

abbrev pub invariant-loop-i : goal.invariant-loop-i
invariant-loop-i l = l.made ≡ l.initial.made ++ take l.i l.map.lists
