use Rattle.std.proofs.Common.{◌≡◌, ◌≤◌, ◌-◌, ◌++◌, length, take, codes, decimal}
use Rattle.std.specs.List.{flat_map}
use Rattle.smk_report.proofs.lines.add_numbers.Given as goal

abbrev pub invariant-loop-done : goal.invariant-loop-done
invariant-loop-done l = record {
  text : l.text.items ≡ l.initial.text.items ++ flat_map (λ n. codes " " ++ decimal n) (take l.done l.numbers);
  done : l.done ≤ length l.numbers;
  len : length l.room ≡ 2046;
}

abbrev pub decreases-loop-done : goal.decreases-loop-done
decreases-loop-done l = length l.numbers - l.done
