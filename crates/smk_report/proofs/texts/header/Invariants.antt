use Rattle.std.proofs.Common.{ℕ, List, ◌∷◌, [], take}
use Rattle.smk_report.specs.Pages.{Says}
use Rattle.smk_report.proofs.texts.header.Given as goal

abbrev pub invariant-loop-column : goal.invariant-loop-column
invariant-loop-column l = (text : List ℕ) → Says l.fn.page text [] → Says l.page text (l.first ∷ take l.column-index l.column-items)
