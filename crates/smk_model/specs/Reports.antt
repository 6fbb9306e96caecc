-- The report of a run: the texts of the views in the book's order, then those of the lines, one after the other.
use Rattle.std.specs.Prelude.{ℕ, ◌+◌, Bool, true, false, ◌||◌, cond, nat_lt, List, [], ◌∷◌, ◌++◌, length, map, is_some}
use Rattle.smk_base.specs.{CatalogImage.{CatalogImage, ViewImage, table_place}, declared.book.tree.Line.Line, Trees.{AskImage, AnyLineImage, PlainLine, AskedLine, ProfiledLine, AppendedLine}, declared.size.Size.Size}
use Rattle.smk_model.specs.{Values.Row, Texts.bad_line_text, ViewTexts.{view_rows, views_text}, ReplyTexts.reply_text, Readings.{Reading, Nothing, Asks, Unread}, Session.{Workbook, State, first_state}, Replies.{reply, is_refused}, Looks.line_looks, Asks.{ask_reply, ask_looks, is_ask_refused}, AskTexts.ask_text, Profiles.{profile_reply, profile_looks, is_profile_refused}, ProfileTexts.profile_text, Appends.{Turn, append_turn, append_looks, is_append_refused}, AppendTexts.append_text}

-- what a book says: its catalog, and the names of its dependencies in order, which are also the names of their views
pub record BookSaid : Type 0 where
  pub catalog : CatalogImage
  pub fds : List (List ℕ)

-- what a report has of some lines: their texts; how many have a reply, how many of these are refusals, and how many lines aren't in the grammar; and the most looks at base rows
pub record LinesTold : Type 0 where
  pub text : List ℕ
  pub replies : ℕ
  pub refused : ℕ
  pub unread : ℕ
  pub looks : ℕ

-- no lines, and some lines followed by others
abbrev pub nothing_told : LinesTold
nothing_told = record { text = []; replies = 0; refused = 0; unread = 0; looks = 0 }

abbrev pub followed_by : LinesTold → LinesTold → LinesTold
followed_by a b = record {
  text = a.text ++ b.text;
  replies = a.replies + b.replies;
  refused = a.refused + b.refused;
  unread = a.unread + b.unread;
  looks = a.looks + b.looks;
}

-- the answer to a line: its text, whether it is a refusal, the most looks at base rows that it takes, and the next state
pub record Answered : Type 0 where
  pub text : List ℕ
  pub refused : Bool
  pub looks : ℕ
  pub next : State

-- the answer to each kind of line
abbrev pub plain_answered : CatalogImage → State → Line → Answered
plain_answered catalog state asked = record {
  text = reply_text catalog asked (reply catalog state asked).0;
  refused = is_refused (reply catalog state asked).0;
  looks = line_looks catalog state asked;
  next = (reply catalog state asked).1;
}

abbrev pub ask_answered : CatalogImage → State → AskImage → Answered
ask_answered catalog state asked = record {
  text = ask_text asked (ask_reply catalog state asked);
  refused = is_ask_refused (ask_reply catalog state asked);
  looks = ask_looks catalog state asked;
  next = state;
}

abbrev pub profile_answered : BookSaid → State → List ℕ → Answered
profile_answered said state view = record {
  text = profile_text said.catalog view (profile_reply said.catalog state said.fds view);
  refused = is_profile_refused (profile_reply said.catalog state said.fds view);
  looks = profile_looks said.catalog state said.fds view;
  next = state;
}

abbrev pub turn_answered : CatalogImage → List ℕ → Turn → ℕ → Answered
turn_answered catalog table turn looks = record {
  text = append_text (record { catalog = catalog; tables = turn.next.tables }) table turn.reply;
  refused = is_append_refused turn.reply;
  looks = looks;
  next = turn.next;
}

abbrev pub append_answered : CatalogImage → State → List ℕ → List Row → Answered
append_answered catalog state table more = turn_answered catalog table (append_turn catalog state table more) (append_looks catalog state table more)

-- the answer to a line of any kind; `more` are the rows of the file that it appends
abbrev pub answered : BookSaid → State → List Row → AnyLineImage → Answered
answered said state more (PlainLine asked) = plain_answered said.catalog state asked
answered said state more (AskedLine asked) = ask_answered said.catalog state asked
answered said state more (ProfiledLine view) = profile_answered said state view
answered said state more (AppendedLine table file) = append_answered said.catalog state table more

-- what the report has of a line that is answered
abbrev pub answer_told : Answered → LinesTold
answer_told line = record { text = line.text; replies = 1; refused = cond line.refused 1 0; unread = 0; looks = line.looks }

-- whether a line brings the rows of a file: it appends to a table of the book
abbrev pub appends : CatalogImage → AnyLineImage → Bool
appends catalog (AppendedLine table file) = is_some (table_place catalog table)
appends catalog _ = false

abbrev pub brings_rows : CatalogImage → Reading → Bool
brings_rows catalog (Asks asked) = appends catalog asked
brings_rows catalog _ = false

-- of the rows that lines bring, in order: those of the next such line, and those left after it
abbrev pub next_rows : List (List Row) → List Row
next_rows [] = []
next_rows (rows ∷ more) = rows

abbrev pub rows_left : Bool → List (List Row) → List (List Row)
rows_left true (rows ∷ more) = more
rows_left true [] = []
rows_left false added = added

-- what the report has of the line with this number, and the state after it; a line that says nothing has no text
abbrev pub line_told : BookSaid → State → ℕ → List Row → Reading → LinesTold
line_told said state number more Nothing = nothing_told
line_told said state number more (Asks asked) = answer_told (answered said state more asked)
line_told said state number more (Unread at) = record { text = bad_line_text number at; replies = 0; refused = 0; unread = 1; looks = 0 }

abbrev pub state_after : BookSaid → State → List Row → Reading → State
state_after said state more (Asks asked) = (answered said state more asked).next
state_after said state more _ = state

-- what the report has of lines, from a state and a number on, with the rows that they bring
abbrev pub lines_told : BookSaid → State → ℕ → List (List Row) → List Reading → LinesTold
lines_told said state number added [] = nothing_told
lines_told said state number added (reading ∷ readings) =
    followed_by (line_told said state number (next_rows added) reading)
    (lines_told said (state_after said state (next_rows added) reading) (number + 1) (rows_left (brings_rows said.catalog reading) added) readings)

-- a script's lines are numbered from 1, and begin with the tables as read and no brush
abbrev pub script_told : Workbook → List (List ℕ) → List (List Row) → List Reading → LinesTold
script_told book fds added readings = lines_told (record { catalog = book.catalog; fds = fds }) (first_state book) 1 added readings

-- what a run writes, and what is counted in it
pub record Report : Type 0 where
  pub sizes : List Size
  pub replies : ℕ
  pub refused : ℕ
  pub unread : ℕ
  pub text : List ℕ

-- how many rows a view has over the tables as read
abbrev pub size_of_view : Workbook → ViewImage → Size
size_of_view book view = record { name = view.name; rows = length (view_rows book view) }

-- the report of a book and its lines
abbrev pub report_told : Workbook → LinesTold → Report
report_told book told = record {
  sizes = map (size_of_view book) book.catalog.views;
  replies = told.replies;
  refused = told.refused;
  unread = told.unread;
  text = views_text book ++ told.text;
}

abbrev pub report_of : Workbook → List (List ℕ) → List (List Row) → List Reading → Report
report_of book fds added readings = report_told book (script_told book fds added readings)

-- whether a line of a report is refused or unread
abbrev pub is_turned_down : Report → Bool
is_turned_down report = nat_lt 0 report.refused || nat_lt 0 report.unread
