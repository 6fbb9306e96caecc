use Rattle.std.proofs.Common.{◌≡◌, get_or, pos}
use Rattle.smk_base.specs.declared.value.Value.TheVariants as values
use Rattle.smk_body.specs.Halves.{bests_of}
use Rattle.smk_body.proofs.make.aggregates.best_small.Given as goal

abbrev pub invariant-loop-i : goal.invariant-loop-i
invariant-loop-i l = l.best.items ≡ bests_of l.greatest (λ i. values.Int (get_or l.numbers i (pos 0))) l.classes l.i
