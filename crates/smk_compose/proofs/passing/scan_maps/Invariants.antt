use Rattle.std.proofs.Common.{◌≡◌, map, take}
use Rattle.smk_compose.specs.Through.{scan_at}
use Rattle.smk_compose.proofs.passing.scan_maps.Given as goal

abbrev pub invariant-loop-n : goal.invariant-loop-n
invariant-loop-n l = l.made ≡ map (scan_at l.scanned l.len) (take l.n-index l.need)
