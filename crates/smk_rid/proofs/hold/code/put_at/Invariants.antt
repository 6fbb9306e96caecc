use Rattle.std.proofs.Common.{◌≡◌, ◌≤◌, ◌+◌, ◌++◌, [], length, map, take, get_or, vec_len}
use Rattle.std.specs.{Prelude.vec_capacity, List.flat_map}
use Rattle.smk_rid.specs.Packing.{one_of}
use Rattle.smk_rid.proofs.hold.code.put_at.Given as goal

abbrev pub invariant-loop-p : goal.invariant-loop-p
invariant-loop-p g l = record {
  items : l.rids.items ≡ l.initial.rids.items ++ flat_map (λ p. get_or (map one_of (map g.C.Code.number_of l.codes)) p []) (take l.p-index l.places);
  room : vec_len l.rids + length l.places ≤ vec_capacity l.rids + l.p-index;
}
