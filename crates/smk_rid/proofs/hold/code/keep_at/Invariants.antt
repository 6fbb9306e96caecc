use Rattle.std.proofs.Common.{◌≡◌, ◌≤◌, ◌+◌, ◌++◌, [], length, map, take, get_or, nat_lt, vec_len}
use Rattle.std.specs.{Prelude.vec_capacity, List.filter}
use Rattle.smk_rid.specs.Packing.{one_of}
use Rattle.smk_rid.proofs.hold.code.keep_at.Given as goal

abbrev pub invariant-loop-p : goal.invariant-loop-p
invariant-loop-p g l = record {
  items : l.kept.items ≡ l.initial.kept.items ++ filter (λ p. nat_lt 0 (length (get_or (map one_of (map g.C.Code.number_of l.codes)) p []))) (take l.p-index l.places);
  room : vec_len l.kept + length l.places ≤ vec_capacity l.kept + l.p-index;
}
