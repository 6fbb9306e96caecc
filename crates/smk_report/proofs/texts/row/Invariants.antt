use Rattle.std.proofs.Common.{ℕ, List, ◌∷◌, [], take, map, decimal}
use Rattle.smk_base.specs.Rels.{row_in}
use Rattle.smk_model.specs.Texts.{value_text}
use Rattle.smk_report.specs.Pages.{Says}
use Rattle.smk_report.proofs.texts.row.Given as goal

abbrev pub invariant-loop-c : goal.invariant-loop-c
invariant-loop-c l = (text : List ℕ) → Says l.fn.page text [] → Says l.page text (decimal l.number ∷ map value_text (take l.c (row_in l.rel.rows l.i)))
