use Rattle.std.proofs.Common.{◌≡◌, take}
use Rattle.std.specs.List.{filter}
use Rattle.smk_base.specs.Places.{has}
use Rattle.smk_rid.proofs.derive.intersect.marked_of.Given as goal

abbrev pub invariant-loop-rid : goal.invariant-loop-rid
invariant-loop-rid l = l.made.items ≡ filter (has l.others) (take l.rid-index l.ones)
