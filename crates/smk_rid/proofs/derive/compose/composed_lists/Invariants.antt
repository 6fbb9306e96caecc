use Rattle.std.proofs.Common.{◌≡◌, ◌≤◌, map, take}
use Rattle.smk_base.specs.Places.{members_at, pairs_of}
use Rattle.smk_rid.proofs.derive.compose.composed_lists.Given as goal

abbrev pub invariant-loop-i : goal.invariant-loop-i
invariant-loop-i l = record {
  lists : l.made ≡ map (members_at l.second) (take l.i l.first.lists);
  few : pairs_of l.made ≤ 16777216;
}
