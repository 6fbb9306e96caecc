use Rattle.std.proofs.Common.{◌<◌, take, All}
use Rattle.smk_body.proofs.make.unions.count_below.Given as goal

abbrev pub invariant-loop-k : goal.invariant-loop-k
invariant-loop-k l = All (λ i. i < l.bound) (take l.k l.places)
