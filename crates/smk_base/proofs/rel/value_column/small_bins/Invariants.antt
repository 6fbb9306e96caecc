use Rattle.std.proofs.Common.{◌≡◌, take, map, ◌≤◌, length}
use Rattle.std.specs.{Int.int_div_euclid, Prelude.{vec_len, vec_capacity}}
use Rattle.smk_base.proofs.rel.value_column.small_bins.Given as goal

abbrev pub invariant-loop-number : goal.invariant-loop-number
invariant-loop-number l = record {
  made : l.made.items ≡ map (λ n. int_div_euclid n l.width) (take l.number-index l.ints);
  len : vec_len l.made ≡ l.number-index;
  room : length l.ints ≤ vec_capacity l.made;
}
