use Rattle.std.proofs.Common.{◌≡◌, take}
use Rattle.smk_chain.proofs.groups.rel_kinds.Given as goal

abbrev pub invariant-loop-c : goal.invariant-loop-c
invariant-loop-c l = l.kinds.items ≡ take l.c l.rel.kinds
