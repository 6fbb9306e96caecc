-- The answer to an `ask` line: steps over the rows that the marks of a view came from.
use Rattle.std.specs.Prelude.{ℕ, Bool, true, false, List, [], ◌∷◌, Option, Some, None, Ok, Err}
use Rattle.smk_base.specs.{CatalogImage.CatalogImage, Plans.{Unary, Expr, Leaf, Apply}, Trees.{AskStepImage, AskImage}, declared.value.Kind.Kind, declared.book.catalog.Column.Column, declared.book.catalog.TableInfo.TableInfo, declared.book.tree.Line.Line, declared.reply.Reply.Reply, declared.reply.AskReply.AskReply}
use Rattle.smk_base.specs.declared.book.tree.Line.TheVariants as lines
use Rattle.smk_base.specs.declared.book.tree.Then.TheVariants as thens
use Rattle.smk_base.specs.declared.reply.Reply.TheVariants as replies
use Rattle.smk_base.specs.declared.reply.AskReply.TheVariants as answers
use Rattle.smk_base.specs.declared.reply.AskRefusal.TheVariants as refusals
use Rattle.smk_model.specs.{Values.Row, FaultTexts.type_place, Looks.line_looks, Names.{Typed, ◌>>=◌, in_turn, names_of, column_kinds}, Plain.eval, Replies.reply, ReplyTexts.table_named, Session.State, TypedSteps.TypedPlan, Typing.{columns_of, typed_step}}

-- a plan with steps over it, one after the other
abbrev pub chain_onto : Expr → List Unary → Expr
chain_onto plan [] = plan
chain_onto plan (op ∷ ops) = chain_onto (Apply op plan) ops

-- steps over one list of rows, one after the other: a plan whose one leaf is that list
abbrev pub chain : List Unary → Expr
chain ops = chain_onto (Leaf 0) ops

-- one more step over a typed plan
abbrev pub step_after : TypedPlan → AskStepImage → Typed TypedPlan
step_after typed step = typed_step [] step.what step.at typed

-- a scan with these columns
abbrev pub scan_of : List Column → TypedPlan
scan_of columns = record { plan = Leaf 0; columns = columns }

-- typed steps: a plan over one leaf, with the names and the kinds of its columns
pub record AskPlan : Type 0 where
  pub plan : Expr
  pub names : List (List ℕ)
  pub kinds : List Kind

abbrev pub asked_plan : TypedPlan → AskPlan
asked_plan typed = record { plan = typed.plan; names = names_of typed.columns; kinds = column_kinds typed.columns }

-- steps over these columns, typed as those of a view, or their first fault
abbrev pub typed_steps : List Column → List AskStepImage → Typed AskPlan
typed_steps columns steps = in_turn step_after (scan_of columns) steps >>= λ typed. Ok (asked_plan typed)

-- the columns of the table with this name; none where there is no such table
abbrev pub columns_found : Option TableInfo → List Column
columns_found None = []
columns_found (Some table) = columns_of table

abbrev pub columns_named : CatalogImage → List ℕ → List Column
columns_named catalog table = columns_found (table_named catalog table)

-- the `back` line within an `ask` line
abbrev pub back_line : AskImage → Line
back_line asked = lines.Back asked.view asked.marks asked.table thens.Plain

-- what typed steps make of these rows, or the fault of the steps
abbrev pub steps_reply : Typed AskPlan → List Row → AskReply
steps_reply (Ok typed) rows = answers.Rows typed.names (record { kinds = typed.kinds; rows = eval typed.plan (rows ∷ []) })
steps_reply (Err fault) rows = answers.Refused (refusals.Steps (type_place fault) fault)

-- the answer to an `ask` line, from the reply to its `back` line: rows with their rids, or a refusal
abbrev pub ask_over : CatalogImage → AskImage → Reply → AskReply
ask_over catalog asked (replies.Back rids rows) = steps_reply (typed_steps (columns_named catalog asked.table) asked.steps) rows.rows
ask_over catalog asked (replies.Refused refusal) = answers.Refused (refusals.Back refusal)
ask_over catalog asked _ = answers.Rows [] (record { kinds = []; rows = [] })

-- the answer to an `ask` line; the state stays
abbrev pub ask_reply : CatalogImage → State → AskImage → AskReply
ask_reply catalog state asked = ask_over catalog asked (reply catalog state (back_line asked)).0

-- one look for each row of the backward answer, even if the steps have a fault
abbrev pub ask_looks : CatalogImage → State → AskImage → ℕ
ask_looks catalog state asked = line_looks catalog state (back_line asked)

-- whether an answer is a refusal
abbrev pub is_ask_refused : AskReply → Bool
is_ask_refused (answers.Rows names rel) = false
is_ask_refused (answers.Refused refusal) = true
