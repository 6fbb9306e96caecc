use Rattle.std.proofs.Common.{◌≡◌, map}
use Rattle.smk_base.specs.Places.{upto}
use Rattle.smk_body.specs.Halves.{class_places}
use Rattle.smk_body.proofs.Folding.{sum_over}
use Rattle.smk_body.proofs.make.aggregates.small_sums.Given as goal

abbrev pub invariant-loop-i : goal.invariant-loop-i
invariant-loop-i l = l.sums.items ≡ map (λ p. sum_over l.numbers (class_places l.of l.i p)) (upto l.count)
