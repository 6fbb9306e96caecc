-- The rows of a table that all brushes select, and what steps make of them.
use Rattle.std.specs.Prelude.{◌≢◌, Option, Some, ok_or, Ok, length, map}
use Rattle.std.proofs.Common.{◌≡◌, ℕ, List, [], ◌∷◌, false, refl, ap, sym, ◌∙◌}
use Rattle.smk_base.specs.{CatalogImage.{CatalogImage, table_place}, Trees.AskStepImage, declared.book.catalog.Column.Column, declared.book.catalog.TableInfo.TableInfo, declared.reply.AskReply.AskReply, declared.reply.Refusal.TheVariants.UnknownTable, Rels.Relation}
use Rattle.smk_base.specs.declared.reply.Reply.TheVariants as replies
use Rattle.smk_model.specs.{Asks.{ask_over, back_line, columns_found, is_ask_refused, steps_reply, typed_steps}, Looks.looks_of_rows, Names.◌>>=◌, OwnAnswers.{reply_or_refusal, selected_answered, selected_ask, selected_on, selected_reply}, OwnLines.RowsPart, OwnTexts.{placed_text, selected_text, selected_words, stepped_text}, Replies.{is_refused, rows_reply, rows_at_rids}, ReplyTexts.names_of_table, Session.State, Typing.{columns_of, info_at}}
use Rattle.smk_model.proofs.RepliesFit.{table_found}
use Rattle.smk_own.specs.{Answering.IsOwnAnswer, declared.answer.OwnAnswer.OwnAnswer}

selected_is : (catalog : CatalogImage) (state : State) (name : List ℕ) (t : ℕ) → table_place catalog name ≡ Some t → selected_reply catalog state name ≡ rows_reply catalog state t (selected_on state t)
selected_is catalog state name t is = ap (λ place. reply_or_refusal (ok_or place UnknownTable >>= λ u. Ok (rows_reply catalog state u (selected_on state u)))) is

-- the rows alone
pub rows_told : (catalog : CatalogImage) (state : State) (part : Option RowsPart) (name : List ℕ) (t : ℕ) (rids : List ℕ) (told : OwnAnswer) → table_place catalog name ≡ Some t → rids ≡ selected_on state t
    → told.text.items ≡ placed_text part (selected_words name) (names_of_table (Some (info_at catalog.tables t))) rids (rows_at_rids catalog state t rids).rows → told.refused ≡ false
    → IsOwnAnswer told (selected_answered catalog state part name [])
rows_told catalog state part name t rids told at are says plain =
    let reply = sym (selected_is catalog state name t at) in
    record {
      text =
          says
          ∙ ap (λ rs. placed_text part (selected_words name) (names_of_table (Some (info_at catalog.tables t))) rs (rows_at_rids catalog state t rs).rows) are
          ∙ ap (λ table. placed_text part (selected_words name) (names_of_table table) (selected_on state t) (rows_at_rids catalog state t (selected_on state t)).rows) (sym (table_found catalog name t at))
          ∙ ap (selected_text catalog part (back_line (selected_ask name []))) reply;
      refused = plain ∙ ap is_refused reply;
    }

-- steps over them
pub steps_told : {A : Type 0} (image : A → AskStepImage) (asked : List A) (catalog : CatalogImage) (state : State) (part : Option RowsPart) (name : List ℕ) (t : ℕ) (info : TableInfo) (rows : Relation) (reply : AskReply) (told : OwnAnswer)
    → table_place catalog name ≡ Some t → length asked ≢ 0 → info ≡ info_at catalog.tables t → rows ≡ rows_at_rids catalog state t (selected_on state t) → reply ≡ steps_reply (typed_steps (columns_of info) (map image asked)) rows.rows
    → told.text.items ≡ stepped_text part (selected_words name) (selected_ask name (map image asked)) reply → told.refused ≡ is_ask_refused reply
    → IsOwnAnswer told (selected_answered catalog state part name (map image asked))
steps_told image [] catalog state part name t info rows reply told at some table are is says plain = absurd (some refl)
steps_told image (step ∷ steps) catalog state part name t info rows reply told at some table are is says plain =
    let asked = selected_ask name (map image (step ∷ steps)) in
    let over =
    is
    ∙ ap (λ (columns : List Column). steps_reply (typed_steps columns asked.steps) rows.rows) (ap columns_of table ∙ ap columns_found (sym (table_found catalog name t at)))
    ∙ ap (λ (rel : Relation). ask_over catalog asked (replies.Back (selected_on state t) rel)) are
    ∙ ap (ask_over catalog asked) (sym (selected_is catalog state name t at)) in
    record { text = says ∙ ap (stepped_text part (selected_words name) asked) over; refused = plain ∙ ap is_ask_refused over }

pub steps_looks : {A : Type 0} (image : A → AskStepImage) (asked : List A) (catalog : CatalogImage) (state : State) (part : Option RowsPart) (name : List ℕ) (t : ℕ) (rids : List ℕ) → table_place catalog name ≡ Some t → length asked ≢ 0
    → rids ≡ selected_on state t → length rids ≡ (selected_answered catalog state part name (map image asked)).looks
steps_looks image [] catalog state part name t rids at some are = absurd (some refl)
steps_looks image (step ∷ steps) catalog state part name t rids at some are = ap length are ∙ ap looks_of_rows (sym (selected_is catalog state name t at))
