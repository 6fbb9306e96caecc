use Rattle.std.proofs.{Common.{◌≡◌, ◌∙◌, ◌<◌, ℕ, List, ◌++◌, ◌∷◌, [], length, map, take, sym, ap, arith, decimal}, lemmas.Result.on_ok_weaker}
use Rattle.smk_base.specs.{declared.value.Value.Value, Rels.row_in}
use Rattle.smk_model.specs.Texts.{value_text}
use Rattle.smk_report.proofs.{PageTexts.says_same, Parts.{row_width, values_more, values_all}}
use Rattle.smk_report.proofs.texts.row.Goals as goal

pub loop-c-init : goal.loop-c-init
loop-c-init c text says = c.in_ok-number.ensures text [] says

pub loop-c-preserved : goal.loop-c-preserved
loop-c-preserved c text says =
    let row = row_in c.args.rel.now.rows c.args.i in
    let at = c.loop-c.c in
    let fields : List (List ℕ) = map value_text (take at row) in
    let there : at < length row = omega (arith, row_width c.args.rel.now c.args.i c.requires.keeps c.requires.in_range, c.width-c-end.ensures.count, c.loop-c-test.true) in
    says_same _ text _ _ (ap (λ (value : Value). decimal c.args.number ∷ (fields ++ value_text value ∷ [])) c.cell.ensures.value ∙ ap (λ (more : List (List ℕ)). decimal c.args.number ∷ more) (sym (values_more row at there)))
    (c.in_ok-cell.ensures text (decimal c.args.number ∷ fields) (c.loop-c.invariant text says))

pub returns : goal.returns
returns c = on_ok_weaker c.end.result (λ ends text says.
    let row = row_in c.args.rel.now.rows c.args.i in
    let size : length row ≡ c.loop-c.c = omega (arith, row_width c.args.rel.now c.args.i c.requires.keeps c.requires.in_range, c.width-c-end.ensures.count, c.loop-c-test.false, c.loop-c.auto.c-end) in
    ends text (decimal c.args.number ∷ map value_text row)
    (says_same _ text _ _ (ap (λ (fields : List (List ℕ)). decimal c.args.number ∷ fields) (values_all row c.loop-c.c size)) (c.loop-c.invariant text says))) c.end.ensures
