use Rattle.std.proofs.{Common.{◌+◌, [], drop, sym}, lemmas.List.get_or-drop}
use Rattle.smk_report.specs.PieceTexts.{number_in}
use Rattle.smk_report.proofs.Parts.{lines_added}
use Rattle.smk_report.proofs.texts.numbered_lines.Goals as goal

pub loop-k-preserved : goal.loop-k-preserved
loop-k-preserved c =
    let rows = c.args.rel.now.rows in
    lines_added _ _ _ (λ k. number_in c.args.rids (c.args.from + k)) (drop c.args.from rows) c.loop-k.k _ _ (sym c.number_of.ensures) (get_or-drop c.args.from rows c.loop-k.k []) c.loop-k.invariant c.in_ok-row.ensures
