-- What the parsers answer.
use Rattle.std.specs.Prelude.{◌≡◌, ℕ, List, map, Option, Some, None, Result, Ok, Err}
use Rattle.smk_parse.specs.Vocabulary.{BookFault, Book, LineFault, Line, BadToken, Unexpected, TooMany, BadNumber, NoMemory, book_image, any_image, ask_step_image, tokens, HasNoToken, line_fault, any_fault, book_fault, place_of, IsWholeLine, IsWholeAnyLine, AreStmts, AreSelected, selected_fault}
use Rattle.smk_base.specs.{declared.book.tree.AnyLine.AnyLine, declared.book.tree.AskStep.AskStep}
use Rattle.smk_base.specs.declared.fault.LineFault.TheVariants as line_faults

-- a line's fault, by that of its reader: it isn't a line, or memory ran out
abbrev pub as_line_fault : BookFault → LineFault
as_line_fault NoMemory = line_faults.NoMemory
as_line_fault fault = line_faults.NotALine (place_of fault)

-- the answer for a line: nothing if it has no token, its tree if it has no fault, else the place of its first fault; or memory ran out
abbrev pub IsAnswer : {Tree : Type 0} → (Tree → Type 0) → Option BookFault → List ℕ → Result (Option Tree) LineFault → Type 0
IsAnswer Spells fault text (Ok None) = HasNoToken text
IsAnswer Spells fault text (Ok (Some line)) = (HasNoToken text → ⊥) × Spells line × (fault ≡ None)
IsAnswer Spells fault text (Err (line_faults.NotALine at)) = (HasNoToken text → ⊥) × ((f : BookFault) × ((fault ≡ Some f) × (place_of f ≡ at)))
IsAnswer Spells fault text (Err line_faults.NoMemory) = HasNoToken text → ⊥

-- a line without steps
abbrev pub IsLineAnswer : List ℕ → Result (Option Line) LineFault → Type 0
IsLineAnswer text answer = IsAnswer (IsWholeLine (tokens text)) (line_fault (tokens text)) text answer

-- a line of any kind
abbrev pub IsAnyAnswer : List ℕ → Result (Option AnyLine) LineFault → Type 0
IsAnyAnswer text answer = IsAnswer (λ line. IsWholeAnyLine (tokens text) (any_image line)) (any_fault (tokens text)) text answer

-- the answer for a book: its tree if the text is in the grammar without a fault, else the first fault; or memory ran out
abbrev pub IsBookAnswer : List ℕ → Result Book BookFault → Type 0
IsBookAnswer text (Ok book) = AreStmts (tokens text) (book_image book) × (book_fault (tokens text) ≡ None)
IsBookAnswer text (Err NoMemory) = Unit {0}
IsBookAnswer text (Err (BadToken at)) = book_fault (tokens text) ≡ Some (BadToken at)
IsBookAnswer text (Err (Unexpected at)) = book_fault (tokens text) ≡ Some (Unexpected at)
IsBookAnswer text (Err (TooMany at what)) = book_fault (tokens text) ≡ Some (TooMany at what)
IsBookAnswer text (Err (BadNumber at)) = book_fault (tokens text) ≡ Some (BadNumber at)

-- the answer for a table and steps over its rows: both if the text spells them without a fault, else the place of its first fault; or memory ran out
abbrev pub IsSelectedAnswer : List ℕ → Result (List ℕ × List AskStep) LineFault → Type 0
IsSelectedAnswer text (Ok read) = AreSelected (tokens text) read.0 (map ask_step_image read.1) × (selected_fault (tokens text) ≡ None)
IsSelectedAnswer text (Err (line_faults.NotALine at)) = (f : BookFault) × ((selected_fault (tokens text) ≡ Some f) × (place_of f ≡ at))
IsSelectedAnswer text (Err line_faults.NoMemory) = Unit {0}
