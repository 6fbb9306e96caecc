use Rattle.std.proofs.Common.{◌≡◌, ◌≤◌, length, take}
use Rattle.std.specs.Prelude.{vec_len, vec_capacity}
use Rattle.smk_base.specs.TextColumns.{AreAdded}
use Rattle.smk_base.proofs.rel.text_column.recoded_some.Given as goal

abbrev pub invariant-loop-code : goal.invariant-loop-code
invariant-loop-code l = record {
  added : AreAdded l.initial.dict.texts (take l.code l.other.texts) l.dict.texts l.recoded.items;
  len : vec_len l.recoded ≡ l.code;
  room : length l.other.texts ≤ vec_capacity l.recoded;
}
