use Rattle.std.proofs.Common.{ℕ, List, ◌∷◌, [], take, map, codes}
use Rattle.smk_report.specs.Pages.{Says}
use Rattle.smk_report.proofs.texts.table_header.Given as goal

abbrev pub invariant-loop-column : goal.invariant-loop-column
invariant-loop-column l = (text : List ℕ) → Says l.fn.page text [] → Says l.page text (codes "rid" ∷ map (λ column. column.name) (take l.column-index l.column-items))
