use Rattle.std.proofs.Common.{◌≡◌, ◌≤◌, [], map, take, get_or, vec_len}
use Rattle.std.specs.{Prelude.vec_capacity, List.list_any}
use Rattle.smk_base.specs.Places.{has}
use Rattle.smk_rid.specs.Packing.{one_of}
use Rattle.smk_rid.proofs.Gathered.{IsGathered}
use Rattle.smk_rid.proofs.hold.code.put_rising.Given as goal

abbrev pub invariant-loop-p : goal.invariant-loop-p
invariant-loop-p g l = record {
  gathered : IsGathered (λ r. list_any (λ p. has (get_or (map one_of (map g.C.Code.number_of l.codes)) p []) r) (take l.p-index l.places)) l.rids.items l.above l.rises;
  few : vec_len l.rids ≤ l.p-index;
  room : vec_capacity l.rids ≡ vec_capacity l.initial.rids;
}
