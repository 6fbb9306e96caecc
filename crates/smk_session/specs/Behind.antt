-- What is so of the call that works out which rows a `back` line asks for, without a look at them.
use Rattle.std.specs.Prelude.{◌≡◌, ◌<◌, ℕ, List, [], Result, Ok, length, All, MatchResult}
use Rattle.smk_base.specs.{CatalogImage.CatalogImage, Picks.IsAscending, Rels.Relation, declared.book.catalog.Catalog.Catalog, declared.book.tree.Line.Line, declared.reply.Refusal.Refusal}
use Rattle.smk_base.specs.declared.reply.Reply.TheVariants as replies
use Rattle.smk_model.specs.{Replies.{known_pair, reply, rows_reply}, ReplyTexts.{view_in, table_in}, Session.{State, rows_of_table}}
use Rattle.smk_session.specs.{Opened.state_over, declared.answer.no_answer.Turned.Turned, declared.answer.no_answer.Turned.TheVariants.Refused, declared.answer.rows_behind.RowsBehind.RowsBehind}

-- the reply to a line is the rows with these rids, of the table that it names
pub record IsBehind (catalog : CatalogImage) (state : State) (asked : Line) (found : RowsBehind) : Type 0 where
  pub pair : known_pair catalog (view_in asked) (table_in asked) ≡ Ok (found.view, found.table)
  pub reply : (reply catalog state asked).0 ≡ rows_reply catalog state found.table found.rids

-- the reply is this refusal; where memory ran out, nothing is said
abbrev pub IsRefusedAs : CatalogImage → State → Line → Turned → Type 0
IsRefusedAs catalog state asked turned = (refusal : Refusal) → turned ≡ Refused refusal → (reply catalog state asked).0 ≡ replies.Refused refusal

abbrev pub FindsBehind : CatalogImage → State → Line → Result RowsBehind Turned → Type 0
FindsBehind catalog state asked result = MatchResult result (IsBehind catalog state asked) (IsRefusedAs catalog state asked)

-- these are rids of so many rows, ascending and without repeats
pub record RidsFit (rows : ℕ) (rids : List ℕ) : Type 0 where
  pub ascending : IsAscending rids
  pub inside : All (λ rid. rid < rows) rids

-- the view and the table are there, and the rids are those of rows of the table
pub record BehindFits (catalog : Catalog) (tables : List Relation) (found : RowsBehind) : Type 0 where
  pub view : found.view < length catalog.views
  pub table : found.table < length catalog.tables
  pub rids : RidsFit (length (rows_of_table (state_over tables []) found.table)) found.rids
