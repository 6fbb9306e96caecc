use Rattle.std.proofs.Common.{◌≡◌, ◌≤◌, length, map, take}
use Rattle.std.specs.Prelude.{vec_len, vec_capacity}
use Rattle.smk_table.specs.Joined.{columns_of}
use Rattle.smk_table.proofs.joining.columns_of_each.Given as goal

abbrev pub invariant-loop-part : goal.invariant-loop-part
invariant-loop-part l = record {
  made : l.made.items ≡ map (columns_of l.cols) (take l.part-index l.parts);
  len : vec_len l.made ≡ l.part-index;
  room : length l.parts ≤ vec_capacity l.made;
}
