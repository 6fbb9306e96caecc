use Rattle.std.proofs.{Common.{◌≡◌, ◌∙◌, ◌++◌, ◌+◌, ◌∷◌, [], ℕ, List, Vec, Global, ap, map, codes, slice_index_or}, lemmas.Result.IfOk-weaker}
use Rattle.smk_base.specs.declared.book.col_decl.ColDecl.{ColDecl}
use Rattle.smk_model.specs.Texts.{record_line, row_lines, row_lines_to}
use Rattle.smk_report.specs.Pages.{Says}
use Rattle.smk_report.proofs.Parts.{whole_lines}
use Rattle.smk_report.proofs.texts.with_placed_rows.Goals as goal

pub returns : goal.returns
returns c =
    let front = c.args.front.items in
    let head : List ℕ = front ++ record_line (codes "rid" ∷ map (λ (column : ColDecl). column.name) c.args.columns.now) in
    let rows = c.args.rel.now.rows in
    let number : ℕ → ℕ = λ i. slice_index_or c.args.rids.now i 0 in
    IfOk-weaker c.finish.result (λ (whole : Vec ℕ Global). (text : List ℕ) → Says c.numbered_lines.new.page text [] → whole.items ≡ text) (λ (whole : Vec ℕ Global). whole.items ≡ head ++ row_lines number rows)
    (λ whole finished. finished (head ++ row_lines_to (λ (k : ℕ). number (0 + k)) rows c.len-2.result) (c.in_ok-numbered_lines.ensures head (c.in_ok-table_header.ensures front c.in_ok-page.ensures))
    ∙ ap (λ (lines : List ℕ). head ++ lines) (whole_lines number rows c.len-2.result c.len-2.ensures.count)) c.finish.ensures
