use Rattle.std.proofs.{Common.{◌≡◌, ◌∙◌, ℕ, List, [], ◌+◌, ◌-◌, ◌++◌, ap, drop, Vec, Global}, lemmas.Result.IfOk-weaker}
use Rattle.smk_jobs.specs.Cuts.{cut_at}
use Rattle.smk_model.specs.Texts.{row_lines_to}
use Rattle.smk_report.specs.{Pages.Says, PieceTexts.{IsPiece, number_in}}
use Rattle.smk_report.proofs.PieceTexts.{piece_added}
use Rattle.smk_report.proofs.pieces.piece_text.Goals as goal

pub returns : goal.returns
returns c =
    let rows = c.args.rel.now.rows in
    let number = number_in c.args.rids in
    let from = c.cut_range-from.result.0 in
    let to = c.cut_range-from.result.1 in
    let lines : List ℕ = row_lines_to (λ (k : ℕ). number (from + k)) (drop from rows) (to - from) in
    IfOk-weaker c.finish.result (λ (whole : Vec ℕ Global). (text : List ℕ) → Says c.numbered_lines.new.page text [] → whole.items ≡ text) (λ (whole : Vec ℕ Global). IsPiece number rows c.args.count c.args.p whole.items)
    (λ whole finished. piece_added number rows c.args.count c.args.p from to whole.items
    (c.cut_range-from.ensures.from ∙ ap (λ (n : ℕ). cut_at c.args.count n c.args.p) c.len.ensures.count)
    (c.cut_range-from.ensures.to ∙ ap (λ (n : ℕ). cut_at c.args.count n (c.args.p + 1)) c.len.ensures.count)
    c.cut_range-from.ensures.order
    (finished (c.new.result.items ++ lines) (c.in_ok-numbered_lines.ensures c.new.result.items c.in_ok-page.ensures)
    ∙ ap (λ (x : List ℕ). x ++ lines) c.new.ensures.items)) c.finish.ensures
