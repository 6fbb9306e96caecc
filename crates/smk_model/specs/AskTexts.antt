-- The texts of answers to `ask` lines.
use Rattle.std.specs.Prelude.{◌≡◌, ◌≢◌, ◌≤◌, ℕ, IsSome, List, [], ◌∷◌, length, codes, decimal}
use Rattle.smk_base.specs.{CatalogImage.CatalogImage, Rels.Relation, Trees.AskImage, declared.reply.Reply.Reply, declared.reply.AskReply.AskReply, declared.reply.AskRefusal.AskRefusal, declared.reply.AskRefusal.TheVariants.{Back, Steps}, declared.book.type_fault.TypeFault.TheVariants.NoMemory, declared.rel.TheConstants.COLUMN_LIMIT}
use Rattle.smk_base.specs.declared.reply.Reply.TheVariants as replies
use Rattle.smk_base.specs.declared.reply.AskReply.TheVariants as answers
use Rattle.smk_model.specs.{Asks.{back_line, columns_named}, FaultTexts.type_words, Names.column_kinds, ReplyTexts.{IsRefusalOf, refusal_text, table_named}, Texts.{line, ask_rows_text}, Typing.nothing_declared}

-- rows that answer the `back` line within an `ask` line: the catalog has the table, and they have the kinds of its columns, of which there are at most 16
pub record AreBackRows (catalog : CatalogImage) (asked : AskImage) (rows : Relation) : Type 0 where
  pub known : IsSome (table_named catalog asked.table)
  pub kinds : rows.kinds ≡ column_kinds (columns_named catalog asked.table)
  pub few : length (columns_named catalog asked.table) ≤ COLUMN_LIMIT

-- whether a reply fits the `back` line within an `ask` line: rows of the table, or a refusal that names nothing of a catalog
abbrev pub IsBackReply : CatalogImage → AskImage → Reply → Type 0
IsBackReply catalog asked (replies.Back rids rows) = AreBackRows catalog asked rows
IsBackReply catalog asked (replies.Refused refusal) = IsRefusalOf nothing_declared (back_line asked) refusal
IsBackReply catalog asked _ = ⊥

-- whether an `ask` line can be refused for this reason: one of its `back` line, or a fault of its steps
abbrev pub IsAskRefusalOf : AskImage → AskRefusal → Type 0
IsAskRefusalOf asked (Back refusal) = IsRefusalOf nothing_declared (back_line asked) refusal
IsAskRefusalOf asked (Steps at fault) = fault ≢ NoMemory

-- whether an answer fits an `ask` line: its rows have a value for each name printed over them, or the line can be refused for its reason
abbrev pub IsAskReplyTo : AskImage → AskReply → Type 0
IsAskReplyTo asked (answers.Rows names rel) = length names ≡ length rel.kinds
IsAskReplyTo asked (answers.Refused refusal) = IsAskRefusalOf asked refusal

-- why an `ask` line is refused
abbrev pub ask_refusal_text : AskImage → AskRefusal → List ℕ
ask_refusal_text asked (Back refusal) = refusal_text nothing_declared (back_line asked) refusal
ask_refusal_text asked (Steps at fault) = line (codes "refused steps: " ∷ type_words fault ∷ codes " at byte " ∷ decimal at ∷ [])

-- the text of an answer to an `ask` line
abbrev pub ask_text : AskImage → AskReply → List ℕ
ask_text asked (answers.Rows names rel) = ask_rows_text asked.view asked.table names rel.rows
ask_text asked (answers.Refused refusal) = ask_refusal_text asked refusal
