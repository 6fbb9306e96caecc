use Rattle.std.proofs.{Common.{◌≡◌, ◌∙◌, ◌≤◌, ◌+◌, ◌++◌, ◌∷◌, [], ℕ, List, Vec, Global, ap, sym, arith, codes, length, drop, take}, lemmas.List.length-drop, lemmas.Result.IfOk-weaker}
use Rattle.smk_model.specs.Texts.{record_line, row_lines, row_lines_to}
use Rattle.smk_report.specs.Pages.{Says}
use Rattle.smk_report.proofs.Parts.{part_lines}
use Rattle.smk_report.proofs.texts.with_numbered_part.Goals as goal

pub returns : goal.returns
returns c =
    let front = c.args.front.items in
    let head : List ℕ = record_line (codes "row" ∷ c.args.columns.now) in
    let number : ℕ → ℕ = λ k. c.args.from + k in
    let rows = drop c.args.from c.args.rel.now.rows in
    let within : c.args.count ≤ length rows = omega (arith, c.requires.in_range, length-drop c.args.from c.args.rel.now.rows) in
    IfOk-weaker c.finish.result (λ (whole : Vec ℕ Global). (text : List ℕ) → Says c.numbered_lines.new.page text [] → whole.items ≡ text) (λ (whole : Vec ℕ Global). whole.items ≡ (front ++ head) ++ row_lines number (take c.args.count rows))
    (λ whole finished. finished ((front ++ head) ++ row_lines_to number rows c.args.count) (c.in_ok-numbered_lines.ensures (front ++ head) (c.in_ok-header.ensures front c.in_ok-page.ensures)) ∙ ap (λ (lines : List ℕ). (front ++ head) ++ lines) (sym (part_lines number rows c.args.count within))) c.finish.ensures
