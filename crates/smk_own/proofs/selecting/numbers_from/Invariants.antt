use Rattle.std.proofs.Common.{◌≡◌, ◌+◌, map}
use Rattle.smk_base.specs.Places.{upto}
use Rattle.smk_own.proofs.selecting.numbers_from.Given as goal

abbrev pub invariant-loop-k : goal.invariant-loop-k
invariant-loop-k l = l.numbers.items ≡ map (λ k. l.from + k) (upto l.k)
