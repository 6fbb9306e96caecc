use Rattle.std.proofs.Common.{◌≡◌, take}
use Rattle.smk_model.specs.Growth.{all_over_parts}
use Rattle.smk_chain.proofs.groups.aggs_over_parts.Given as goal

abbrev pub invariant-loop-i : goal.invariant-loop-i
invariant-loop-i l = l.over ≡ take l.i (all_over_parts l.from l.aggs)
