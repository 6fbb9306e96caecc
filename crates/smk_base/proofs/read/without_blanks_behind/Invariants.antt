use Rattle.std.proofs.Common.{◌≡◌, length}
use Rattle.smk_base.specs.Ints.{before_blanks}
use Rattle.smk_base.proofs.read.without_blanks_behind.Given as goal

abbrev pub invariant-loop-rest : goal.invariant-loop-rest
invariant-loop-rest l = before_blanks l.rest ≡ before_blanks l.bytes

abbrev pub decreases-loop-rest : goal.decreases-loop-rest
decreases-loop-rest l = length l.rest
