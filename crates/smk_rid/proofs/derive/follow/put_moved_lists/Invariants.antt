use Rattle.std.proofs.Common.{◌≡◌, ◌+◌, ◌++◌, map, take}
use Rattle.smk_rid.proofs.derive.follow.put_moved_lists.Given as goal

abbrev pub invariant-loop-i : goal.invariant-loop-i
invariant-loop-i l = l.made ≡ l.initial.made ++ map (map (λ i. l.by + i)) (take l.i l.of.lists)
