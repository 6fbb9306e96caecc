use Rattle.std.proofs.Common.{ℕ, ◌+◌, drop}
use Rattle.smk_model.specs.Texts.{row_lines_to}
use Rattle.smk_report.specs.{Pages.Adds, PieceTexts.number_in}
use Rattle.smk_report.proofs.texts.numbered_lines.Given as goal

abbrev pub invariant-loop-k : goal.invariant-loop-k
invariant-loop-k l = Adds l.initial.page l.page (row_lines_to (λ (k : ℕ). number_in l.rids (l.from + k)) (drop l.from l.rel.rows) l.k)
