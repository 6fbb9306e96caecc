use Rattle.std.proofs.Common.{◌≡◌, drop, nat_eq}
use Rattle.std.specs.{List.find, Option.option_map}
use Rattle.smk_outside.proofs.sink.mem_sink.planned_failure.Given as goal

abbrev pub invariant-loop-number : goal.invariant-loop-number
invariant-loop-number l = option_map (λ fail. fail.1) (find (λ fail. nat_eq fail.0 l.call) (drop l.number-index l.fails)) ≡ option_map (λ fail. fail.1) (find (λ fail. nat_eq fail.0 l.call) l.fails)
