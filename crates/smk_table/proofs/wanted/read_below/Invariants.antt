use Rattle.std.proofs.Common.{◌≡◌}
use Rattle.smk_base.specs.PlanImage.{unary_of}
use Rattle.smk_table.specs.Wanted as wanted
use Rattle.smk_table.proofs.wanted.read_below.Given as goal

abbrev pub invariant-loop-c : goal.invariant-loop-c
invariant-loop-c l = l.read ≡ wanted.below (unary_of l.op) l.cols l.c
