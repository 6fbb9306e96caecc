-- A conversation over a book: what is said of each line that is heard, and the state after it.
use Rattle.std.specs.{Prelude.{◌≡◌, ◌⊎◌, ◌≤◌, ◌<◌, ◌+◌, ⊤, ℕ, Bool, true, false, ◌&&◌, cond, nat_eq, List, [], ◌∷◌, ◌++◌, length, drop, map, Option, Some, None, Result, Ok, Err, codes}, List.{filter, flat_map, scan}}
use Rattle.smk_base.specs.{CatalogImage.CatalogImage, Marks.after_marks, Trees.{AnyLineImage, AppendedLine}, declared.book.catalog.TableInfo.TableInfo, declared.fault.Fault.Fault}
use Rattle.smk_model.specs.{FaultTexts.fault_text, Outcome.{Held, appended_at, file_limit, load}, OwnAnswers.{own_told, own_after}, OwnLines.{OwnReading, IsOwnReading, is_own}, OwnTexts.schema_text, Readings.{Reading, Asks, IsReading}, Reports.{BookSaid, Report, LinesTold, nothing_told, followed_by, brings_rows, line_told, state_after, report_told}, Session.{Workbook, State, first_state}, Texts.line, Values.Row, ViewTexts.{view_texts, views_text}}

-- a line that is answered as a script's line: its bytes, what it says, and the rows that it appends, if any
pub record HeardLine : Type 0 where
  pub bytes : List ℕ
  pub reading : Reading
  pub rows : List Row

-- an own line: its bytes, and what it says
pub record HeardOwn : Type 0 where
  pub bytes : List ℕ
  pub own : OwnReading

-- a turn: a line that is heard, and how it is answered
pub data TalkTurn : Type 0 where
  -- as a script's line
  Replied : HeardLine → TalkTurn
  -- as an own line
  Owned : HeardOwn → TalkTurn
  -- it appends to a table of the book, but its file has a fault
  Unbrought : List ℕ → Fault → TalkTurn
  -- it is an `append`, but nothing may be appended
  ReadOnly : List ℕ → TalkTurn
  -- memory ran out for a script's line
  Forgone : HeardLine → TalkTurn
  -- memory ran out for an own line
  OwnForgone : HeardOwn → TalkTurn
  -- it has too many bytes
  TooLong : List ℕ → TalkTurn

-- the line that was heard
abbrev pub line_of : TalkTurn → List ℕ
line_of (Replied heard) = heard.bytes
line_of (Owned heard) = heard.bytes
line_of (Unbrought bytes fault) = bytes
line_of (ReadOnly bytes) = bytes
line_of (Forgone heard) = heard.bytes
line_of (OwnForgone heard) = heard.bytes
line_of (TooLong bytes) = bytes

-- the state of a conversation: that of its session, and how many lines were heard
pub record TalkState : Type 0 where
  pub session : State
  pub heard : ℕ

abbrev pub first_talk_state : Workbook → TalkState
first_talk_state book = record { session = first_state book; heard = 0 }

-- a file's fault as a refusal: what a run says of it, with `refused` in place of `smoke:`
abbrev pub unbrought_text : Fault → List ℕ
unbrought_text fault = codes "refused " ++ drop (length (codes "smoke: ")) (fault_text fault)

-- the other refusals of a conversation
abbrev pub read_only_text : List ℕ
read_only_text = line (codes "refused read only" ∷ [])

abbrev pub forgone_text : List ℕ
forgone_text = line (codes "refused no memory" ∷ [])

abbrev pub too_long_text : List ℕ
too_long_text = line (codes "refused line too long" ∷ [])

-- what the report has of a line that is refused with this text, after at most so many looks
abbrev pub refused_told : List ℕ → ℕ → LinesTold
refused_told text looks = record { text = text; replies = 1; refused = 1; unread = 0; looks = looks }

-- what the report has of a script's line, numbered by the lines heard
abbrev pub heard_told : BookSaid → TalkState → HeardLine → LinesTold
heard_told said state heard = line_told said state.session (state.heard + 1) heard.rows heard.reading

-- what the report has of an own line, numbered in the same way
abbrev pub heard_own_told : BookSaid → TalkState → HeardOwn → LinesTold
heard_own_told said state heard = own_told said state.session (state.heard + 1) heard.own

-- what the report has of a turn. If memory runs out, the line may have made any of its looks
abbrev pub turn_told : BookSaid → TalkState → TalkTurn → LinesTold
turn_told said state (Replied heard) = heard_told said state heard
turn_told said state (Owned heard) = heard_own_told said state heard
turn_told said state (Unbrought bytes fault) = refused_told (unbrought_text fault) 0
turn_told said state (ReadOnly bytes) = refused_told read_only_text 0
turn_told said state (Forgone heard) = refused_told forgone_text (heard_told said state heard).looks
turn_told said state (OwnForgone heard) = refused_told forgone_text (heard_own_told said state heard).looks
turn_told said state (TooLong bytes) = refused_told too_long_text 0

-- the state after a turn; only a line that is answered changes the session
abbrev pub session_after : BookSaid → State → TalkTurn → State
session_after said state (Replied heard) = state_after said state heard.rows heard.reading
session_after said state (Owned heard) = own_after said state heard.own
session_after said state _ = state

abbrev pub turn_after : BookSaid → TalkState → TalkTurn → TalkState
turn_after said state turn = record { session = session_after said state.session turn; heard = state.heard + 1 }

-- what the report has of turns, from a state on
abbrev pub turns_told : BookSaid → TalkState → List TalkTurn → LinesTold
turns_told said state [] = nothing_told
turns_told said state (turn ∷ turns) = followed_by (turn_told said state turn) (turns_told said (turn_after said state turn) turns)

-- the report of a conversation, as a run would write and count it
abbrev pub talk_report : Workbook → List (List ℕ) → List TalkTurn → Report
talk_report book fds turns = report_told book (turns_told (record { catalog = book.catalog; fds = fds }) (first_talk_state book) turns)

-- the text of a turn, and those of turns from a state on
abbrev pub turn_text : BookSaid → TalkState → TalkTurn → List ℕ
turn_text said state turn = (turn_told said state turn).text

abbrev pub turn_texts : BookSaid → TalkState → List TalkTurn → List (List ℕ)
turn_texts said state turns = scan (turn_after said) (turn_text said) state turns

-- the texts of a conversation: all views, and then those of its turns
abbrev pub talk_texts : Workbook → List (List ℕ) → List TalkTurn → List (List ℕ)
talk_texts book fds turns = views_text book ∷ turn_texts (record { catalog = book.catalog; fds = fds }) (first_talk_state book) turns

-- what is said first, as one text: the schema if asked for, else all views
abbrev pub opening_text : Bool → Workbook → List (List ℕ) → List ℕ
opening_text brief book fds = cond brief (schema_text (record { catalog = book.catalog; fds = fds }) (first_state book)) (views_text book)

-- the texts that are said first: the schema if asked for, else each view in the book's order
abbrev pub opening_texts : Bool → Workbook → List (List ℕ) → List (List ℕ)
opening_texts brief book fds = cond brief (schema_text (record { catalog = book.catalog; fds = fds }) (first_state book) ∷ []) (view_texts book)

-- a block: a text, and then an empty line
abbrev pub block_of : List ℕ → List (List ℕ)
block_of text = text ∷ (10 ∷ []) ∷ []

-- the block of a turn, the block of what is said first, and all that a conversation says
abbrev pub turn_block : BookSaid → TalkState → TalkTurn → List (List ℕ)
turn_block said state turn = block_of (turn_text said state turn)

abbrev pub opening_block : Bool → Workbook → List (List ℕ) → List (List ℕ)
opening_block brief book fds = opening_texts brief book fds ++ (10 ∷ []) ∷ []

abbrev pub talk_said : Bool → Workbook → List (List ℕ) → List TalkTurn → List (List ℕ)
talk_said brief book fds turns = opening_block brief book fds ++ flat_map block_of (turn_texts (record { catalog = book.catalog; fds = fds }) (first_talk_state book) turns)

-- whether the line of a turn is an own line
abbrev pub is_own_turn : TalkTurn → Bool
is_own_turn (Owned heard) = true
is_own_turn (OwnForgone heard) = true
is_own_turn _ = false

-- the bytes of a line that are read, after so many lines: the first line has no byte order marks at its start
abbrev pub text_read : ℕ → List ℕ → List ℕ
text_read heard bytes = cond (nat_eq heard 0) (after_marks bytes) bytes

-- whether a line is an `append`, whatever table it names
abbrev pub is_append : AnyLineImage → Bool
is_append (AppendedLine table file) = true
is_append _ = false

abbrev pub asks_append : Reading → Bool
asks_append (Asks asked) = is_append asked
asks_append _ = false

-- the most bytes that a line may have
abbrev pub line_limit : ℕ
line_limit = file_limit

-- the rows or the fault of the file that a line appends, by what the files hold; without a file, no rows
abbrev pub FilesBring : Held → Option TableInfo → Result (List Row) Fault → Type 0
FilesBring held None brought = brought ≡ Ok []
FilesBring held (Some table) brought = load held table ≡ brought

-- a line that appends to a table of the book, but whose file has this fault
pub record IsUnbrought (catalog : CatalogImage) (Brings : Option TableInfo → Result (List Row) Fault → Type 0) (text : List ℕ) (fault : Fault) : Type 0 where
  pub reading : Reading
  pub table : TableInfo
  pub reads : IsReading text reading
  pub appends : appended_at catalog reading ≡ Some table
  pub brings : Brings (Some table) (Err fault)

-- a line that is an `append`
pub record IsAppend (text : List ℕ) : Type 0 where
  pub reading : Reading
  pub reads : IsReading text reading
  pub appends : asks_append reading ≡ true

-- a turn that may happen in a state: a line is answered by what it says, as an own line exactly if it begins with a dot. An `append` is refused if nothing may be appended or its file has a fault. Memory may run out for any line, before or after its rows are read
abbrev pub FitsTalk : Bool → CatalogImage → (Option TableInfo → Result (List Row) Fault → Type 0) → TalkState → TalkTurn → Type 0
FitsTalk read_only catalog Brings state (Replied heard) =
    (length heard.bytes ≤ line_limit) × (is_own (text_read state.heard heard.bytes) ≡ false) × IsReading (text_read state.heard heard.bytes) heard.reading
    × ((read_only && asks_append heard.reading) ≡ false) × Brings (appended_at catalog heard.reading) (Ok heard.rows)
FitsTalk read_only catalog Brings state (Owned heard) =
    (length heard.bytes ≤ line_limit) × (is_own (text_read state.heard heard.bytes) ≡ true) × IsOwnReading (text_read state.heard heard.bytes) heard.own
FitsTalk read_only catalog Brings state (Unbrought bytes fault) =
    (length bytes ≤ line_limit) × IsUnbrought catalog Brings (text_read state.heard bytes) fault × (read_only ≡ false)
FitsTalk read_only catalog Brings state (ReadOnly bytes) = (length bytes ≤ line_limit) × IsAppend (text_read state.heard bytes) × (read_only ≡ true)
FitsTalk read_only catalog Brings state (Forgone heard) =
    (is_own (text_read state.heard heard.bytes) ≡ false) × IsReading (text_read state.heard heard.bytes) heard.reading
    × ((heard.rows ≡ []) ⊎ Brings (appended_at catalog heard.reading) (Ok heard.rows))
FitsTalk read_only catalog Brings state (OwnForgone heard) =
    (is_own (text_read state.heard heard.bytes) ≡ true) × IsOwnReading (text_read state.heard heard.bytes) heard.own
FitsTalk read_only catalog Brings state (TooLong bytes) = line_limit < length bytes

-- what lines say, whether a line brings rows, and the rows of all that do, in order
abbrev pub readings_of : List HeardLine → List Reading
readings_of lines = map (λ heard. heard.reading) lines

abbrev pub brings : CatalogImage → HeardLine → Bool
brings catalog heard = brings_rows catalog heard.reading

abbrev pub rows_brought : CatalogImage → List HeardLine → List (List Row)
rows_brought catalog lines = map (λ heard. heard.rows) (filter (brings catalog) lines)

-- lines after so many others: none is an own line; each says what its text says, and brings what the files hold
abbrev pub AreHeard : Held → CatalogImage → ℕ → List HeardLine → Type 0
AreHeard held catalog number [] = ⊤
AreHeard held catalog number (heard ∷ lines) =
    (is_own (text_read number heard.bytes) ≡ false) × IsReading (text_read number heard.bytes) heard.reading × FilesBring held (appended_at catalog heard.reading) (Ok heard.rows) × AreHeard held catalog (number + 1) lines

-- the texts of lines as they are read, after so many others
abbrev pub texts_read : ℕ → List HeardLine → List (List ℕ)
texts_read number [] = []
texts_read number (heard ∷ lines) = text_read number heard.bytes ∷ texts_read (number + 1) lines
