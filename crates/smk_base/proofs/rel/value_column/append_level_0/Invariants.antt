use Rattle.std.proofs.Common.{◌≡◌, take, ◌++◌, ◌≤◌, length, ◌+◌}
use Rattle.std.specs.Prelude.{vec_len, vec_capacity}
use Rattle.smk_base.proofs.rel.value_column.append_level_0.Given as goal

abbrev pub invariant-loop-number : goal.invariant-loop-number
invariant-loop-number l = record {
  made : l.ints.items ≡ l.fn.ints.items ++ take l.number-index l.more;
  len : vec_len l.ints ≡ vec_len l.fn.ints + l.number-index;
  room : vec_len l.fn.ints + length l.more ≤ vec_capacity l.ints;
}
