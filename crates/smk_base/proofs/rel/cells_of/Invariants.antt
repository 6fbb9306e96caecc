use Rattle.std.proofs.Common.{◌≡◌, take, map, ◌≤◌, length}
use Rattle.std.specs.Prelude.{vec_len, vec_capacity}
use Rattle.smk_base.specs.Cells.{value_of_cell}
use Rattle.smk_base.proofs.rel.cells_of.Given as goal

abbrev pub invariant-loop-value : goal.invariant-loop-value
invariant-loop-value l = record {
  made : map value_of_cell l.made.items ≡ take l.value-index l.row;
  len : vec_len l.made ≡ l.value-index;
  room : length l.row ≤ vec_capacity l.made;
}
