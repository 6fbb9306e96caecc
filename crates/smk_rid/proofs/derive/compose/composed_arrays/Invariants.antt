use Rattle.std.proofs.Common.{◌≡◌, ◌≤◌, length, map, take}
use Rattle.std.specs.Prelude.{vec_capacity}
use Rattle.smk_base.specs.Places.{members_at, pairs_of}
use Rattle.smk_rid.specs.Packing.{one_of}
use Rattle.smk_rid.proofs.derive.compose.composed_arrays.Given as goal

abbrev pub invariant-loop-i : goal.invariant-loop-i
invariant-loop-i l = record {
  lists : map one_of l.rids.items ≡ map (members_at (record { lists = l.second; bound = l.bound })) (take l.i l.first);
  pairs : l.pairs ≡ pairs_of (map one_of l.rids.items);
  few : l.pairs ≤ pairs_of (take l.i l.first);
  len : length l.rids.items ≡ l.i;
  room : length l.first ≤ vec_capacity l.rids;
}
