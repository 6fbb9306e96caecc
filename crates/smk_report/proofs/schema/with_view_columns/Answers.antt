use Rattle.std.proofs.{Common.{◌≡◌, ℕ, List, [], ◌∷◌, ◌++◌, map, add-one, slice_index_or, ◌∙◌, ap, ap₂, subst, arith, length, append_assoc, codes, Vec, Global}, lemmas.Grind.common_steps, lemmas.List.map-append, lemmas.Result.IfOk-weaker}
use Rattle.std.specs.List.{flat_map}
use Rattle.smk_base.specs.{Places.upto, declared.book.catalog.Column.Column, declared.value.Kind.Kind, declared.value.Kind.TheVariants.Text}
use Rattle.smk_model.specs.{OwnTexts.{column_record, columns_text, columns_of_view, kind_word}, Texts.record_line}
use Rattle.smk_report.specs.Pages.{Says}
use Rattle.smk_report.proofs.Parts.{adds_pushed}
use Rattle.smk_report.proofs.schema.with_view_columns.Goals as goal

pub loop-c-preserved : goal.loop-c-preserved
loop-c-preserved c =
    let at = c.loop-c.c in
    let column : ℕ → Column = λ c'. record { name = slice_index_or c.args.view.now.names c' []; kind = slice_index_or c.args.view.now.kinds c' Text } in
    adds_pushed _ _ _ column_record (map column (upto at)) _ (column at) (rw add-one (map-append column (upto at) (at ∷ []))) c.loop-c.invariant
    (λ text says. subst (λ (bytes : List ℕ). Says c.column.new.page (text ++ bytes) []) (ap₂ (λ (name : List ℕ) (kind : Kind). record_line (name ∷ kind_word kind ∷ [])) (grind (arith, common_steps)) (grind (arith, common_steps))) (c.in_ok-column.ensures text says))

pub returns : goal.returns
returns c =
    let front = c.args.front.items in
    let head : List ℕ = record_line (codes "column" ∷ codes "kind" ∷ []) in
    let column : ℕ → Column = λ c'. record { name = slice_index_or c.args.view.now.names c' []; kind = slice_index_or c.args.view.now.kinds c' Text } in
    let all : c.loop-c.c ≡ length c.args.view.now.kinds = omega (arith, c.loop-c-test.false, c.loop-c.auto.c-end, ap length c.as_slice-kinds.ensures) in
    IfOk-weaker c.finish.result (λ (whole : Vec ℕ Global). (text : List ℕ) → Says c.loop-c.page text [] → whole.items ≡ text) (λ (whole : Vec ℕ Global). whole.items ≡ front ++ columns_text (columns_of_view c.args.view.now.names c.args.view.now.kinds))
    (λ whole finished. finished _ (c.loop-c.invariant (front ++ head) c.in_ok-page.ensures) ∙ append_assoc front head (flat_map column_record (map column (upto c.loop-c.c))) ∙ ap (λ (n : ℕ). front ++ (head ++ flat_map column_record (map column (upto n)))) all) c.finish.ensures
