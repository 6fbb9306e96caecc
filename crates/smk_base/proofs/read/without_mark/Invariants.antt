use Rattle.std.proofs.Common.{◌≡◌, length}
use Rattle.smk_base.specs.Marks.{after_marks}
use Rattle.smk_base.proofs.read.without_mark.Given as goal

abbrev pub invariant-loop-rest : goal.invariant-loop-rest
invariant-loop-rest l = after_marks l.rest ≡ after_marks l.bytes

abbrev pub decreases-loop-rest : goal.decreases-loop-rest
decreases-loop-rest l = length l.rest
