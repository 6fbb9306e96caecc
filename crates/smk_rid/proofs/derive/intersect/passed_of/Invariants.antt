use Rattle.std.proofs.Common.{◌≡◌, ℕ, ◌<◌, ◌≤◌, get_or, length, take}
use Rattle.std.specs.List.{filter}
use Rattle.smk_base.specs.Places.{has}
use Rattle.smk_rid.proofs.derive.intersect.passed_of.Given as goal

-- what both have so far; the others that are passed are less than the ones that come
abbrev pub invariant-loop-rid : goal.invariant-loop-rid
invariant-loop-rid l = record {
  made : l.made.items ≡ filter (has l.others) (take l.rid-index l.ones);
  within : l.place ≤ length l.others;
  passed : (k m : ℕ) → k < l.place → l.rid-index ≤ m → m < length l.ones → get_or l.others k 0 < get_or l.ones m 0;
}
