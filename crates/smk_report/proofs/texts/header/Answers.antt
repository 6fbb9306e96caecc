use Rattle.std.proofs.{Common.{◌∙◌, ℕ, List, ◌++◌, ◌∷◌, [], take, take_all, sym, ap, arith}, lemmas.Result.on_ok_weaker}
use Rattle.smk_report.proofs.PageTexts.{item_more, says_same}
use Rattle.smk_report.proofs.texts.header.Goals as goal

pub loop-column-init : goal.loop-column-init
loop-column-init c text says = c.in_ok-field.ensures text [] says

pub loop-column-preserved : goal.loop-column-preserved
loop-column-preserved c text says =
    let columns = c.as_slice-column-items.result.now in
    let i = c.loop-column.column-index in
    let more = item_more columns i c.column-item.result c.loop-column-test.true c.column-item.is in
    says_same _ text _ _ (ap (λ (x : List ℕ). c.args.first.now ∷ (take i columns ++ x ∷ [])) c.as_slice.ensures ∙ ap (λ (fields : List (List ℕ)). c.args.first.now ∷ fields) (sym more))
    (c.in_ok-field-2.ensures text (c.args.first.now ∷ take i columns) (c.loop-column.invariant text says))

pub returns : goal.returns
returns c = on_ok_weaker c.end.result (λ ends text says.
    let all = take_all c.loop-column.column-index c.as_slice-column-items.result.now (omega (arith, c.loop-column-test.false)) ∙ c.as_slice-column-items.ensures in
    ends text (c.args.first.now ∷ c.args.columns.now)
    (says_same _ text _ _ (ap (λ (fields : List (List ℕ)). c.args.first.now ∷ fields) all) (c.loop-column.invariant text says))) c.end.ensures
