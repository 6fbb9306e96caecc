use Rattle.std.proofs.Common.{◌≡◌, ◌++◌, take, map}
use Rattle.smk_base.specs.TextColumns.{text_in, text_firsts, AreRecoded}
use Rattle.smk_base.proofs.rel.text_column.TextColumn.push_rows.Given as goal

abbrev pub invariant-loop-place : goal.invariant-loop-place
invariant-loop-place l = record {
  pushed : l.self.texts ≡ l.initial.self.texts ++ map (text_in l.other.texts) (take l.place-index l.places);
  recoded : AreRecoded l.other-inside.dict.texts (text_firsts l.self.texts) l.recoded.items;
}
