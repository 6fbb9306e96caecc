use Rattle.std.proofs.{Common.{◌∙◌, ℕ, List, ◌++◌, ◌∷◌, [], map, take, take_all, sym, ap, arith, codes}, lemmas.Result.on_ok_weaker}
use Rattle.smk_base.specs.declared.book.col_decl.ColDecl.{ColDecl}
use Rattle.smk_report.proofs.{PageTexts.says_same, Parts.mapped_more}
use Rattle.smk_report.proofs.texts.table_header.Goals as goal

pub loop-column-init : goal.loop-column-init
loop-column-init c text says = c.in_ok-field.ensures text [] says

pub loop-column-preserved : goal.loop-column-preserved
loop-column-preserved c text says =
    let columns = c.as_slice-column-items.result.now in
    let i = c.loop-column.column-index in
    let names : List (List ℕ) = map (λ (column : ColDecl). column.name) (take i columns) in
    let more = mapped_more (λ (column : ColDecl). column.name) columns i c.column-item.result c.loop-column-test.true c.column-item.is in
    says_same _ text _ _ (ap (λ (x : List ℕ). codes "rid" ∷ (names ++ x ∷ [])) c.as_slice.ensures ∙ ap (λ (fields : List (List ℕ)). codes "rid" ∷ fields) (sym more))
    (c.in_ok-field-2.ensures text (codes "rid" ∷ names) (c.loop-column.invariant text says))

pub returns : goal.returns
returns c = on_ok_weaker c.end.result (λ ends text says.
    let all = take_all c.loop-column.column-index c.as_slice-column-items.result.now (omega (arith, c.loop-column-test.false)) ∙ c.as_slice-column-items.ensures in
    ends text (codes "rid" ∷ map (λ (column : ColDecl). column.name) c.args.columns.now)
    (says_same _ text _ _ (ap (λ (columns : List ColDecl). codes "rid" ∷ map (λ (column : ColDecl). column.name) columns) all) (c.loop-column.invariant text says))) c.end.ensures
