use Rattle.std.proofs.Common.{◌≡◌, take, ◌≤◌, length}
use Rattle.std.specs.Prelude.{vec_len, vec_capacity}
use Rattle.smk_base.proofs.list.copied.ValueCopied.copy_items.Given as goal

abbrev pub invariant-loop-item : goal.invariant-loop-item
invariant-loop-item l = record {
  made : l.copies.items ≡ take l.item-index l.items;
  len : vec_len l.copies ≡ l.item-index;
  room : length l.items ≤ vec_capacity l.copies;
}
