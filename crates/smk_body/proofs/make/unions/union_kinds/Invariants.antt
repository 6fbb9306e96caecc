use Rattle.std.proofs.Common.{◌≡◌, take}
use Rattle.smk_model.specs.Kinds.{wider_kinds}
use Rattle.smk_body.proofs.make.unions.union_kinds.Given as goal

abbrev pub invariant-loop-c : goal.invariant-loop-c
invariant-loop-c l = l.kinds.items ≡ take l.c (wider_kinds l.left.kinds l.right.kinds)
