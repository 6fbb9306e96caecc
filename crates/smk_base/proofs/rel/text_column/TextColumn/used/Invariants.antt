use Rattle.std.proofs.Common.{◌≡◌, ◌<◌, ◌≤◌, ℕ, length, take}
use Rattle.smk_base.specs.{Dicts.code_or_last, TextColumns.{text_in, text_firsts}}
use Rattle.smk_base.proofs.rel.text_column.TextColumn.used.Given as goal

abbrev pub invariant-loop-i : goal.invariant-loop-i
invariant-loop-i l = record {
  few : l.used ≤ length (text_firsts l.self.texts);
  firsts : text_firsts (take l.i l.self.texts) ≡ take l.used (text_firsts l.self.texts);
  within : (k : ℕ) → k < l.i → code_or_last (text_firsts l.self.texts) (text_in l.self.texts k) < l.used;
}
