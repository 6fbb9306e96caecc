-- What own lines don't change, and when they are answered as a script's line is.
use Rattle.std.specs.{Prelude.{◌≡◌, ◌≤◌, ℕ, Bool, true, false, nat_eq, List, [], ◌∷◌, length, Option, Some, None, Ok}, List.list_any}
use Rattle.smk_base.specs.{CatalogImage.{CatalogImage, table_place}, Places.upto, Trees.{AskStepImage, AskImage, PlainLine, AskedLine, ProfiledLine}, declared.brush.BrushOn.BrushOn, declared.book.tree.Line.Line, declared.reply.AskReply.AskReply, declared.reply.Reply.Reply}
use Rattle.smk_base.specs.declared.reply.AskReply.TheVariants as answers
use Rattle.smk_base.specs.declared.reply.Reply.TheVariants as replies
use Rattle.smk_model.specs.{Asks.{back_line, ask_over}, Catalogs.table_kinds, Limits.KeepsSteps, OwnAnswers.{narrowed_reply, own_answered, selected_ask, selected_reply}, OwnLines.{RowsPart, OwnLine, Selected, Narrowed, NarrowedAsk, Brief, BriefProfile, OwnReading, IsOwnReading, has_rows, has_rows_behind, is_own, first_dot}, Spelled.AreSelected, TokenReadings.selected_fault, Readings.{Reading, Unread, IsReading}, Replies.{known_pair, reply}, ReplyTexts.{view_in, table_in}, Reports.{BookSaid, answered}, Session.{State, concerns, rows_of_table}, Tokens.tokens, Typing.info_at}

-- each text has one own reading; one that begins with a dot is no line of a script, and is wrong there at the dot; steps without a fault keep their limits
pub record OwnLinesAreRead : Type 0 where
  pub some : (text : List ℕ) → (own : OwnReading) × IsOwnReading text own
  pub one : (text : List ℕ) (a b : OwnReading) → IsOwnReading text a → IsOwnReading text b → a ≡ b
  pub apart : (text : List ℕ) (reading : Reading) → is_own text ≡ true → IsReading text reading → reading ≡ Unread (first_dot text)
  pub limits : (text table : List ℕ) (steps : List AskStepImage) → AreSelected (tokens text) table steps → selected_fault (tokens text) ≡ None → KeepsSteps steps

-- whether an own line is one after `.brief`
abbrev pub is_brief : OwnLine → Bool
is_brief (Brief asked) = true
is_brief (BriefProfile view) = true
is_brief _ = false

-- an own line doesn't change the state, except that after `.brief` a line changes it as it does by itself; after `.part`, `.now` or `.brief` a line is refused exactly if it is refused by itself
pub record OwnLinesStay : Type 0 where
  pub stays : (said : BookSaid) (state : State) (own : OwnLine) → is_brief own ≡ false → (own_answered said state own).next ≡ state
  pub moves : (said : BookSaid) (state : State) (asked : Line) → (own_answered said state (Brief asked)).next ≡ (answered said state [] (PlainLine asked)).next
  pub profiles : (said : BookSaid) (state : State) (view : List ℕ) → (own_answered said state (BriefProfile view)).next ≡ state
  pub brief_refused : (said : BookSaid) (state : State) (asked : Line) → (own_answered said state (Brief asked)).refused ≡ (answered said state [] (PlainLine asked)).refused
  pub brief_profile_refused : (said : BookSaid) (state : State) (view : List ℕ) → (own_answered said state (BriefProfile view)).refused ≡ (answered said state [] (ProfiledLine view)).refused
  pub narrowed_refused : (said : BookSaid) (state : State) (part : Option RowsPart) (now : Bool) (asked : Line) → (own_answered said state (Narrowed part now asked)).refused ≡ (answered said state [] (PlainLine asked)).refused
  pub narrowed_ask_refused : (said : BookSaid) (state : State) (part : Option RowsPart) (now : Bool) (asked : AskImage) → (own_answered said state (NarrowedAsk part now asked)).refused ≡ (answered said state [] (AskedLine asked)).refused

-- no brush that is in force concerns the view of a line on its table
abbrev pub IsUnbrushed : CatalogImage → State → Line → Type 0
IsUnbrushed catalog state asked = (v t : ℕ) → known_pair catalog (view_in asked) (table_in asked) ≡ Ok (v, t) → list_any (concerns catalog v t) state.brushes ≡ false

-- if none does, a line after `.now` is answered as that line by itself
pub record NowIsPlain : Type 0 where
  pub reply : (catalog : CatalogImage) (state : State) (asked : Line) → has_rows_behind asked ≡ true → IsUnbrushed catalog state asked → narrowed_reply catalog state true asked ≡ (reply catalog state asked).0
  pub back : (said : BookSaid) (state : State) (asked : Line) → has_rows_behind asked ≡ true → IsUnbrushed said.catalog state asked
      → own_answered said state (Narrowed None true asked) ≡ answered said state [] (PlainLine asked)
  pub ask : (said : BookSaid) (state : State) (asked : AskImage) → IsUnbrushed said.catalog state (back_line asked)
      → own_answered said state (NarrowedAsk None true asked) ≡ answered said state [] (AskedLine asked)

-- without a brush on a table all its rows are selected
pub record AllAreSelected : Type 0 where
  pub all : (catalog : CatalogImage) (state : State) (table : List ℕ) (t : ℕ) → table_place catalog table ≡ Some t → list_any (λ (brush : BrushOn). nat_eq brush.table t) state.brushes ≡ false
      → selected_reply catalog state table ≡ replies.Back (upto (length (rows_of_table state t))) (record { kinds = table_kinds (info_at catalog.tables t); rows = rows_of_table state t })

-- how many rows an answer has
abbrev pub reply_rows : Reply → ℕ
reply_rows (replies.View rel) = length rel.rows
reply_rows (replies.Back rids rows) = length rids
reply_rows _ = 0

abbrev pub ask_rows : AskReply → ℕ
ask_rows (answers.Rows names rel) = length rel.rows
ask_rows (answers.Refused refusal) = 0

abbrev pub selected_rows : CatalogImage → State → List ℕ → List AskStepImage → ℕ
selected_rows catalog state table [] = reply_rows (selected_reply catalog state table)
selected_rows catalog state table (step ∷ steps) = ask_rows (ask_over catalog (selected_ask table (step ∷ steps)) (selected_reply catalog state table))

-- a part from 0 to some number
abbrev pub part_to : ℕ → Option RowsPart
part_to below = Some (record { from = 0; below = below })

-- if an answer has no more rows, that part is the whole answer, with the same looks; and the whole answer is that to the line by itself
pub record WholePartIsPlain : Type 0 where
  pub line : (said : BookSaid) (state : State) (now : Bool) (asked : Line) (below : ℕ) → has_rows asked ≡ true → reply_rows (narrowed_reply said.catalog state now asked) ≤ below
      → own_answered said state (Narrowed (part_to below) now asked) ≡ own_answered said state (Narrowed None now asked)
  pub ask : (said : BookSaid) (state : State) (now : Bool) (asked : AskImage) (below : ℕ) → ask_rows (ask_over said.catalog asked (narrowed_reply said.catalog state now (back_line asked))) ≤ below
      → own_answered said state (NarrowedAsk (part_to below) now asked) ≡ own_answered said state (NarrowedAsk None now asked)
  pub selected : (said : BookSaid) (state : State) (table : List ℕ) (steps : List AskStepImage) (below : ℕ) → selected_rows said.catalog state table steps ≤ below
      → own_answered said state (Selected (part_to below) table steps) ≡ own_answered said state (Selected None table steps)
  pub all : (said : BookSaid) (state : State) (asked : Line) → has_rows asked ≡ true → own_answered said state (Narrowed None false asked) ≡ answered said state [] (PlainLine asked)
  pub all_asked : (said : BookSaid) (state : State) (asked : AskImage) → own_answered said state (NarrowedAsk None false asked) ≡ answered said state [] (AskedLine asked)
