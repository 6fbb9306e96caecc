use Rattle.std.proofs.Common.{◌≡◌, ◌≤◌, ◌+◌, ◌++◌, [], length, take, get_or, nat_lt, vec_len}
use Rattle.std.specs.{Prelude.vec_capacity, List.filter}
use Rattle.smk_rid.proofs.hold.packed.Packed.keep_at.Given as goal

abbrev pub invariant-loop-p : goal.invariant-loop-p
invariant-loop-p l = record {
  items : l.kept.items ≡ l.initial.kept.items ++ filter (λ p. nat_lt 0 (length (get_or l.self p []))) (take l.p-index l.places);
  room : vec_len l.kept + length l.places ≤ vec_capacity l.kept + l.p-index;
}
