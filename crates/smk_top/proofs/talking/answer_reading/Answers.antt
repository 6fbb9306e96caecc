use Rattle.std.proofs.{Common.{[], ◌≡◌, false, refl, sym, ◌∙◌, inl, arith}, lemmas.Bool.{and_left, and_right}}
use Rattle.std.specs.Prelude.{◌&&◌}
use Rattle.smk_base.specs.CatalogImage.{catalog_image}
use Rattle.smk_model.specs.{Outcome.appended_at, Conversation.asks_append}
use Rattle.smk_inputs.specs.Image.{reading_image}
use Rattle.smk_top.proofs.{TalkLines.{brought_rows, refused, unbrought, forgone}, talking.answer_reading.Goals.{else-manner-via-then-manner+else-appends, else-manner-via-else-manner}}
use Rattle.smk_top.proofs.talking.answer_reading.Goals as goal

pub returns-then-appends-clause-answer : goal.returns-then-appends-clause-answer
returns-then-appends-clause-answer g c bytes short plain reads =
    refused _ _ _ _ _ _ (reading_image c.args.reading.now) _ _ _ _ _ short reads c.if-manner.true (sym c.if-appends.ensures) refl c.refusal.ensures.words c.refusal.ensures.down refl

pub returns-in-Ok-clause-answer : goal.returns-in-Ok-clause-answer
returns-in-Ok-clause-answer g c bytes short plain reads =
    let may : (c.args.manner.now.read_only && asks_append (reading_image c.args.reading.now)) ≡ false = elim c.else-manner.branch [
      | else-manner-via-then-manner+else-appends w ↦ and_right c.args.manner.now.read_only (asks_append (reading_image c.args.reading.now)) (sym w.appends.ensures ∙ w.if-appends.false)
      | else-manner-via-else-manner w ↦ and_left c.args.manner.now.read_only (asks_append (reading_image c.args.reading.now)) w.if-manner.false
    ] in
    let read = rw c.catalog.ensures.book at c.in-Ok.ensures.read in
    let kinds = rw c.catalog.ensures.book at c.in-Ok.ensures.kinds in
    c.answer_brought.ensures.answer (g.F.Files.held c.args.files.now) c.args.manner.now.read_only (g.F.Files.faults c.args.files.now) (g.F.Files.faults c.bring.new.files) bytes short plain reads may
    (brought_rows (g.F.Files.held c.args.files.now) _ (appended_at (catalog_image c.args.stand.session.catalog) (reading_image c.args.reading.now)) c.in-Ok.brought kinds read)

pub returns-in-Ok-unbrought-clause-answer : goal.returns-in-Ok-unbrought-clause-answer
returns-in-Ok-unbrought-clause-answer g c bytes short plain reads =
    let may : (c.args.manner.now.read_only && asks_append (reading_image c.args.reading.now)) ≡ false = elim c.else-manner.branch [
      | else-manner-via-then-manner+else-appends w ↦ and_right c.args.manner.now.read_only (asks_append (reading_image c.args.reading.now)) (sym w.appends.ensures ∙ w.if-appends.false)
      | else-manner-via-else-manner w ↦ and_left c.args.manner.now.read_only (asks_append (reading_image c.args.reading.now)) w.if-manner.false
    ] in
    let read = rw (c.in-Err-At.field-0-is, c.catalog.ensures.book) at c.in-Err-At.ensures.read in
    let asked = rw c.catalog.ensures.book at c.in-Err-At.ensures.asked in
    unbrought _ _ _ _ _ _ (reading_image c.args.reading.now) c.in-Err-At.fault _ _ _ _ _ short reads may asked read refl c.in-Ok-unbrought.ensures.words c.in-Ok-unbrought.ensures.down refl

pub returns-in-Err-At-clause-answer : goal.returns-in-Err-At-clause-answer
returns-in-Err-At-clause-answer g c bytes short plain reads =
    forgone _ _ _ _ _ _ (reading_image c.args.reading.now) [] _ _ _ _ _ plain reads (inl refl) refl c.refusal-in-Err-unbrought.ensures.words c.refusal-in-Err-unbrought.ensures.down (omega arith)

pub returns : goal.returns
returns g c = record {
  answer = λ bytes short plain reads. forgone _ _ _ _ _ _ (reading_image c.args.reading.now) [] _ _ _ _ _ plain reads (inl refl) refl c.refusal-in-Err.ensures.words c.refusal-in-Err.ensures.down (omega arith);
  book = refl;
  held = c.bring.ensures.held;
  later = c.bring.ensures.later;
}
