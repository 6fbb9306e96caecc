use Rattle.std.specs.Prelude.{length, Some}
use Rattle.std.proofs.Common.{ap, sym, ◌∙◌, refl, false}
use Rattle.smk_base.specs.{CatalogImage.catalog_image, Places.upto}
use Rattle.smk_model.specs.{OwnTexts.{placed_text, selected_words}, Replies.rows_at_rids, ReplyTexts.names_of_table, Session.rows_of_table, Typing.info_at}
use Rattle.smk_session.specs.{Answers.rids_or_all, Sessions.state_of}
use Rattle.smk_own.specs.Image.{part_image}
use Rattle.smk_own.proofs.{Selects.rows_told, selecting.rows_text.Goals.{in-Some+in_ok-text-in-Some, in-None+in_ok-text-in-None}}
use Rattle.smk_own.proofs.selecting.rows_text.Goals as goal

pub returns-clause-told : goal.returns-clause-told
returns-clause-told g c =
    let catalog = catalog_image c.args.session.now.catalog in
    let state = state_of c.args.session.now in
    let n = length (rows_of_table state c.args.table) in
    let names = names_of_table (Some (info_at c.args.session.now.catalog.tables c.args.table)) in
    elim c.match-branch-2.branch [
      | in-Some+in_ok-text-in-Some w ↦ (
          let rids = w.as_slice-in-Some.result.now in
          let are = w.as_slice-in-Some.ensures ∙ ap (λ chosen. rids_or_all chosen n) (sym w.in-Some.is) ∙ c.in_ok-rids.ensures.selected in
          let says = w.in_ok-text-in-Some.ensures.text ∙ ap (λ name. placed_text (part_image c.args.part) (selected_words name) names rids (rows_at_rids catalog state c.args.table rids).rows) c.as_slice.ensures in
          rows_told catalog state (part_image c.args.part) c.args.name.now c.args.table rids (record { text = c.match-branch-2.text; refused = false }) c.requires.named are (rw w.text-is says) refl
          )
      | in-None+in_ok-text-in-None w ↦ (
          let are = ap (λ chosen. rids_or_all chosen n) (sym w.in-None.is) ∙ c.in_ok-rids.ensures.selected in
          let says = w.in_ok-text-in-None.ensures.text ∙ ap (λ name. placed_text (part_image c.args.part) (selected_words name) names (upto n) (rows_at_rids catalog state c.args.table (upto n)).rows) c.as_slice.ensures in
          rows_told catalog state (part_image c.args.part) c.args.name.now c.args.table (upto n) (record { text = c.match-branch-2.text; refused = false }) c.requires.named are (rw w.text-is says) refl
          )
    ]
