use Rattle.std.proofs.Common.{◌≡◌, ◌≤◌, [], get_or, vec_len}
use Rattle.std.specs.{Prelude.vec_capacity, List.flat_map}
use Rattle.smk_base.specs.Places.{upto}
use Rattle.smk_rid.proofs.derive.compose.set_of_numbers.Given as goal

abbrev pub invariant-loop-i : goal.invariant-loop-i
invariant-loop-i l = record {
  rids : l.rids.items ≡ flat_map (λ i. get_or l.lists i []) (upto l.i);
  few : vec_len l.rids ≤ l.i;
  room : vec_capacity l.rids ≡ vec_capacity l.initial.rids;
}
