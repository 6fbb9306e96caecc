use Rattle.std.proofs.{Common.{◌≡◌, ◌∙◌, ◌++◌, ◌+◌, [], ℕ, List, Vec, Global, ap, slice_index_or}, lemmas.Result.IfOk-weaker}
use Rattle.smk_model.specs.Texts.{row_lines, row_lines_to}
use Rattle.smk_report.specs.Pages.{Says}
use Rattle.smk_report.proofs.Parts.{whole_lines}
use Rattle.smk_report.proofs.texts.with_numbered_rows.Goals as goal

pub returns : goal.returns
returns c =
    let front = c.args.front.items in
    let rows = c.args.rel.now.rows in
    let number : ℕ → ℕ = λ i. slice_index_or c.args.rids.now i 0 in
    IfOk-weaker c.finish.result (λ (whole : Vec ℕ Global). (text : List ℕ) → Says c.numbered_lines.new.page text [] → whole.items ≡ text) (λ (whole : Vec ℕ Global). whole.items ≡ front ++ row_lines number rows)
    (λ whole finished. finished (front ++ row_lines_to (λ (k : ℕ). number (0 + k)) rows c.len-2.result) (c.in_ok-numbered_lines.ensures front c.in_ok-page.ensures)
    ∙ ap (λ (lines : List ℕ). front ++ lines) (whole_lines number rows c.len-2.result c.len-2.ensures.count)) c.finish.ensures
