use Rattle.std.proofs.Common.{◌≡◌, map, take, None}
use Rattle.std.specs.List.{find}
use Rattle.smk_compose.specs.Through.{through, has_heavy, IsAhead}
use Rattle.smk_compose.proofs.pass.pass_all.Given as goal

abbrev pub invariant-loop-i : goal.invariant-loop-i
invariant-loop-i l = record {
  ahead : IsAhead l.fn.side l.fn.maps l.side l.maps l.i;
  made : take l.i l.maps ≡ take l.i (map (through l.fn.side) l.fn.maps);
  none : find has_heavy (take l.i (map (through l.fn.side) l.fn.maps)) ≡ None;
}
