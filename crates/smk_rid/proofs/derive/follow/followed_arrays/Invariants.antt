use Rattle.std.proofs.Common.{◌≡◌, ◌≤◌, ◌+◌, ◌++◌, length, map, take}
use Rattle.std.specs.Prelude.{vec_capacity}
use Rattle.smk_rid.specs.Packing.{one_of}
use Rattle.smk_rid.proofs.derive.follow.followed_arrays.Given as goal

abbrev pub invariant-loop-i : goal.invariant-loop-i
invariant-loop-i l = record {
  lists : map one_of l.rids.items ≡ l.first ++ map (map (λ i. l.by + i)) (take l.i l.second);
  len : length l.rids.items ≡ length l.first + l.i;
  room : length l.first + length l.second ≤ vec_capacity l.rids;
}
