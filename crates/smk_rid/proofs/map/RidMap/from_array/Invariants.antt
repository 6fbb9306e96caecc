use Rattle.std.proofs.Common.{◌≡◌, ◌≤◌, length, map, take}
use Rattle.std.specs.{Prelude.vec_capacity, Option.option_to_list}
use Rattle.smk_base.specs.Places.{pairs_of}
use Rattle.smk_rid.specs.Packing.{one_of}
use Rattle.smk_rid.proofs.map.RidMap.from_array.Given as goal

abbrev pub invariant-loop-rid : goal.invariant-loop-rid
invariant-loop-rid l = record {
  lists : map one_of l.rids.items ≡ map option_to_list (take l.rid-index l.of);
  pairs : l.pairs ≡ pairs_of (map option_to_list (take l.rid-index l.of));
  few : l.pairs ≤ l.rid-index;
  len : length l.rids.items ≡ l.rid-index;
  room : length l.of ≤ vec_capacity l.rids;
}
