use Rattle.std.proofs.Common.{◌≡◌, ◌≤◌, ◌+◌, ◌++◌, length, map, take, vec_len}
use Rattle.std.specs.Prelude.{vec_capacity}
use Rattle.smk_rid.proofs.hold.code.put_numbers.Given as goal

abbrev pub invariant-loop-code : goal.invariant-loop-code
invariant-loop-code g l = record {
  items : l.numbers.items ≡ l.initial.numbers.items ++ map g.C.Code.number_of (take l.code-index l.codes);
  room : vec_len l.numbers + length l.codes ≤ vec_capacity l.numbers + l.code-index;
  kept : vec_capacity l.numbers ≡ vec_capacity l.initial.numbers;
}
