use Rattle.std.proofs.Common.{◌≡◌, map, take}
use Rattle.smk_base.specs.Places.{pairs_of}
use Rattle.smk_rid.specs.Packing.{one_of}
use Rattle.smk_rid.proofs.hold.code.count_before.Given as goal

abbrev pub invariant-loop-k : goal.invariant-loop-k
invariant-loop-k g l = l.count ≡ pairs_of (take l.k (map one_of (map g.C.Code.number_of l.codes)))
