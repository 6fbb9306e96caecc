use Rattle.std.proofs.Common.{◌≡◌, ◌+◌}
use Rattle.smk_base.specs.{Places.places, PlanImage.binary_of}
use Rattle.smk_table.specs.Wanted as wanted
use Rattle.smk_table.proofs.wanted.read_from.Given as goal

abbrev pub invariant-loop-c : goal.invariant-loop-c
invariant-loop-c l = l.read ≡ places (λ c. wanted.is_met (binary_of l.op) l.width l.cols (l.from + c)) l.c
