use Rattle.std.proofs.Common.{◌≡◌, ◌+◌, ◌++◌, map, take, vec_len}
use Rattle.std.specs.Prelude.{vec_capacity}
use Rattle.smk_rid.proofs.hold.packed.push_moved.Given as goal

abbrev pub invariant-loop-rid : goal.invariant-loop-rid
invariant-loop-rid l = record {
  rids : l.rids.items ≡ l.initial.rids.items ++ map (λ i. l.by + i) (take l.rid-index l.list);
  len : vec_len l.rids ≡ vec_len l.initial.rids + l.rid-index;
  room : vec_capacity l.rids ≡ vec_capacity l.initial.rids;
}
