use Rattle.std.proofs.{Common.{◌∷◌, [], List, ℕ, ap₂}, lemmas.Result.on_ok_weaker}
use Rattle.smk_report.proofs.PageTexts.{says_same}
use Rattle.smk_report.proofs.schema.column.Goals as goal

pub returns : goal.returns
returns c = on_ok_weaker c.end.result (λ ends text says.
    let name = c.as_slice.result.now in
    let kind = c.kind_word.result.now in
    ends text _ (says_same _ text (name ∷ kind ∷ []) _ (ap₂ (λ (x y : List ℕ). x ∷ y ∷ []) c.as_slice.ensures c.kind_word.ensures) (c.in_ok-field-2.ensures text (name ∷ []) (c.in_ok-field.ensures text [] says)))) c.end.ensures
