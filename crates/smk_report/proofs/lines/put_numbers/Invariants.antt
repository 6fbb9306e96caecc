use Rattle.std.proofs.Common.{◌≡◌, ◌≤◌, ◌*◌, ◌++◌, length, drop, codes, decimal}
use Rattle.std.specs.List.{flat_map}
use Rattle.smk_report.proofs.lines.put_numbers.Given as goal

abbrev pub invariant-loop-left : goal.invariant-loop-left
invariant-loop-left l = record {
  left : l.left ≤ length l.numbers;
  room : 11 * l.left ≤ l.from;
  within : l.from ≤ length l.room;
  len : length l.room ≡ length l.fn.room;
  bytes : drop l.from l.room ≡ flat_map (λ n. codes " " ++ decimal n) (drop l.left l.numbers);
}

abbrev pub decreases-loop-left : goal.decreases-loop-left
decreases-loop-left l = l.left
