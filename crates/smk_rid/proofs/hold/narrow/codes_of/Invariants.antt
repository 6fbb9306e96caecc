use Rattle.std.proofs.Common.{◌≡◌, ◌≤◌, length, map, take}
use Rattle.std.specs.Prelude.{vec_capacity}
use Rattle.smk_rid.proofs.hold.narrow.codes_of.Given as goal

abbrev pub invariant-loop-rid : goal.invariant-loop-rid
invariant-loop-rid g l = record {
  numbers : map g.C.Code.number_of l.codes.items ≡ take l.rid-index l.rids;
  len : length l.codes.items ≡ l.rid-index;
  room : length l.rids ≤ vec_capacity l.codes;
}
