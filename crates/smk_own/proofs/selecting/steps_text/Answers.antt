use Rattle.std.specs.Prelude.{◌<◌, length, slice_index_or}
use Rattle.std.proofs.{Common.{ap, sym, ◌∙◌, subst, refl, arith, true, false}, lemmas.List.get_or_read}
use Rattle.smk_base.specs.{CatalogImage.catalog_image, TreeImage.ask_step_image, declared.book.catalog.Catalog.Catalog}
use Rattle.smk_base.specs.declared.reply.AskRefusal.TheVariants as refusals
use Rattle.smk_base.specs.declared.reply.AskReply.TheVariants as answers
use Rattle.smk_model.specs.{OwnTexts.{numbered_text, selected_words}, Replies.rows_at_rids, Typing.{info_at, no_table}}
use Rattle.smk_session.specs.Sessions.{state_of}
use Rattle.smk_own.specs.Image.{part_image}
use Rattle.smk_own.proofs.Selects.{steps_told, steps_looks}
use Rattle.smk_own.proofs.selecting.steps_text.Goals as goal

pub returns-in_ok-numbered_text-in-Rows-clause-told : goal.returns-in_ok-numbered_text-in-Rows-clause-told
returns-in_ok-numbered_text-in-Rows-clause-told g c =
    let catalog = catalog_image c.args.session.now.catalog in
    let state = state_of c.args.session.now in
    let tables = c.as_slice-2.ensures ∙ ap (λ (book : Catalog). book.tables) c.catalog.ensures.book in
    let low = subst (λ ts. c.args.table < length ts) (sym tables) c.requires.there in
    let info = sym c.index-as_slice-table.is ∙ get_or_read c.as_slice-2.result.now c.args.table c.index-as_slice-table.result low c.index-as_slice-table.is no_table ∙ ap (λ ts. info_at ts c.args.table) tables in
    let rows = c.in_ok-rows.ensures.rows ∙ ap (rows_at_rids catalog state c.args.table) (c.as_slice.ensures ∙ c.in_ok-rids.ensures.rids) in
    steps_told ask_step_image c.args.asked.now catalog state (part_image c.args.part) c.args.name.now c.args.table (slice_index_or c.as_slice-2.result.now c.args.table c.index-as_slice-table.result) c.in_ok-rows.rows
    (answers.Rows c.in-Rows.names c.in-Rows.rel) (record { text = c.in_ok-numbered_text-in-Rows.field-0; refused = false }) c.requires.named c.requires.some info rows (sym c.in-Rows.is ∙ c.in_ok-names.ensures)
    (c.in_ok-numbered_text-in-Rows.ensures ∙ ap (λ name. numbered_text (part_image c.args.part) (selected_words name) c.in-Rows.names c.in-Rows.rel.rows) c.as_slice-in-Rows.ensures) refl

pub returns-in_ok-numbered_text-in-Rows-clause-looks : goal.returns-in_ok-numbered_text-in-Rows-clause-looks
returns-in_ok-numbered_text-in-Rows-clause-looks g c =
    let looks = steps_looks ask_step_image c.args.asked.now (catalog_image c.args.session.now.catalog) (state_of c.args.session.now) (part_image c.args.part) c.args.name.now c.args.table c.as_slice.result.now c.requires.named c.requires.some (c.as_slice.ensures ∙ c.in_ok-rids.ensures.rids) in
    omega (arith, looks, c.rows_at.ensures.looks)

pub returns-in_ok-steps_refusal_text-in-Refused-Steps-clause-told : goal.returns-in_ok-steps_refusal_text-in-Refused-Steps-clause-told
returns-in_ok-steps_refusal_text-in-Refused-Steps-clause-told g c =
    let catalog = catalog_image c.args.session.now.catalog in
    let state = state_of c.args.session.now in
    let tables = c.as_slice-2.ensures ∙ ap (λ (book : Catalog). book.tables) c.catalog.ensures.book in
    let low = subst (λ ts. c.args.table < length ts) (sym tables) c.requires.there in
    let info = sym c.index-as_slice-table.is ∙ get_or_read c.as_slice-2.result.now c.args.table c.index-as_slice-table.result low c.index-as_slice-table.is no_table ∙ ap (λ ts. info_at ts c.args.table) tables in
    let rows = c.in_ok-rows.ensures.rows ∙ ap (rows_at_rids catalog state c.args.table) (c.as_slice.ensures ∙ c.in_ok-rids.ensures.rids) in
    steps_told ask_step_image c.args.asked.now catalog state (part_image c.args.part) c.args.name.now c.args.table (slice_index_or c.as_slice-2.result.now c.args.table c.index-as_slice-table.result) c.in_ok-rows.rows
    (answers.Refused (refusals.Steps c.in-Refused-Steps.at c.in-Refused-Steps.fault)) (record { text = c.in_ok-steps_refusal_text-in-Refused-Steps.field-0; refused = true }) c.requires.named c.requires.some info rows (sym (c.in-Refused-Steps.is ∙ ap (λ refusal. answers.Refused refusal) c.in-Refused-Steps.field-0-is) ∙ c.in_ok-names.ensures)
    (let said = rw c.in-Refused-Steps.field-0-is at c.in_ok-steps_refusal_text-in-Refused-Steps.ensures in said) refl
