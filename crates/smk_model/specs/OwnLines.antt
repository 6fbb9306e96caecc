-- A conversation's own lines, which begin with a dot: what they may say, and how a line is read.
use Rattle.std.specs.{Prelude.{◌≡◌, ◌^◌, ◌-◌, ◌==◌, ℕ, ℤ, pos, Bool, true, false, not, cond, nat_lt, if◌then◌else◌, List, [], ◌∷◌, ◌++◌, length, map, take, drop, take_while, Option, Some, None, codes}, Str.bytes_eq}
use Rattle.smk_base.specs.{Ints.int_of, Trees.{AskStepImage, AskImage, AnyLineImage, PlainLine, AskedLine, ProfiledLine}, declared.book.tree.Line.Line, declared.fault.BookFault.BookFault}
use Rattle.smk_base.specs.declared.book.tree.Line.TheVariants as lines
use Rattle.smk_base.specs.declared.book.tree.Then.TheVariants as thens
use Rattle.smk_model.specs.{Tokens.{tokens, is_gap, HasNoToken}, Spelled.AreSelected, TokenReadings.selected_fault, Lines.place_of, Readings.{Reading, Nothing, Asks, Unread, IsReading}}

-- which rows of an answer are printed: those from one number on and below another
pub record RowsPart : Type 0 where
  pub from : ℕ
  pub below : ℕ

-- an own line: the schema, the help, or one of these:
pub data OwnLine : Type 0 where
  Schema Help : OwnLine
  -- the rows of a table that all brushes select, or steps over them
  Selected : Option RowsPart → List ℕ → List AskStepImage → OwnLine
  -- a line with only a part of its rows, or only those selected now for its view on its table, or both
  Narrowed : Option RowsPart → Bool → Line → OwnLine
  -- an `ask` line, narrowed in the same way
  NarrowedAsk : Option RowsPart → Bool → AskImage → OwnLine
  -- a change of brushes, answered without lists of rids and marks
  Brief : Line → OwnLine
  -- an `fd` line, answered without rows
  BriefProfile : List ℕ → OwnLine

-- whether a part of a line's rows can be printed; and whether they are all the rows behind marks, which can be narrowed to those selected now
abbrev pub has_rows : Line → Bool
has_rows (lines.Show view) = true
has_rows (lines.Back view marks table thens.Plain) = true
has_rows (lines.Back view marks table (thens.Matching column value)) = true
has_rows _ = false

abbrev pub has_rows_behind : Line → Bool
has_rows_behind (lines.Back view marks table thens.Plain) = true
has_rows_behind _ = false

-- whether a line changes which brushes are in force
abbrev pub moves_brushes : Line → Bool
moves_brushes (lines.Brush view marks table) = true
moves_brushes lines.Clear = true
moves_brushes (lines.ClearOne view table) = true
moves_brushes _ = false

-- the own line that a script's line becomes after `.part` or `.now`, and after `.brief`, if it may come there
abbrev pub if_may : Bool → OwnLine → Option OwnLine
if_may may own = cond may (Some own) None

abbrev pub narrowed : Option RowsPart → Bool → AnyLineImage → Option OwnLine
narrowed part now (PlainLine asked) = if_may (cond now (has_rows_behind asked) (has_rows asked)) (Narrowed part now asked)
narrowed part now (AskedLine asked) = Some (NarrowedAsk part now asked)
narrowed part now _ = None

abbrev pub brief : AnyLineImage → Option OwnLine
brief (PlainLine asked) = if_may (moves_brushes asked) (Brief asked)
brief (ProfiledLine view) = Some (BriefProfile view)
brief _ = None

-- the bytes after the blanks at the start; the first word there, up to a blank; and the bytes after it
abbrev pub past_blanks : List ℕ → List ℕ
past_blanks text = drop (length (take_while is_gap text)) text

abbrev pub is_solid : ℕ → Bool
is_solid b = not (is_gap b)

abbrev pub first_word : List ℕ → List ℕ
first_word text = take_while is_solid (past_blanks text)

abbrev pub past_word : List ℕ → List ℕ
past_word text = drop (length (first_word text)) (past_blanks text)

-- whether a line is an own line: its first byte after blanks is a dot; and the place of that byte
abbrev pub begins_with_dot : List ℕ → Bool
begins_with_dot [] = false
begins_with_dot (b ∷ bs) = b == 46

abbrev pub is_own : List ℕ → Bool
is_own text = begins_with_dot (past_blanks text)

abbrev pub first_dot : List ℕ → ℕ
first_dot text = length (take_while is_gap text)

-- the number from 0 to 4,294,967,295 that a word writes, without a plus
abbrev pub begins_with_plus : List ℕ → Bool
begins_with_plus [] = false
begins_with_plus (b ∷ bs) = b == 43

abbrev pub in_range : Option ℤ → Option ℕ
in_range (Some (pos n)) = if nat_lt n (2 ^ 32) then Some n else None
in_range _ = None

abbrev pub bound_of : List ℕ → Option ℕ
bound_of text = if begins_with_plus text then None else in_range (int_of text)

-- the first words of an own line: the whole line; words before a table and steps; or words before a script's line, with the own line that it becomes
pub data Lead : Type 0 where
  WholeLine : OwnLine → Lead
  BeforeTable : Option RowsPart → Lead
  BeforeLine : (AnyLineImage → Option OwnLine) → Lead

-- `.selected` or `.now`, after `.part` or without it; after `.part`, other words begin a script's line
abbrev pub narrowing : Option RowsPart → List ℕ → Option (Lead × List ℕ) → Option (Lead × List ℕ)
narrowing part text other =
    if bytes_eq (first_word text) (codes ".selected") then Some (BeforeTable part, past_word text)
    else (if bytes_eq (first_word text) (codes ".now") then Some (BeforeLine (narrowed part true), past_word text)
    else other)

abbrev pub narrowing_to : RowsPart → List ℕ → Option (Lead × List ℕ)
narrowing_to part text = narrowing (Some part) text (Some (BeforeLine (narrowed (Some part) false), text))

-- the two numbers of `.part`, and what comes after them
abbrev pub parting : Option ℕ → Option ℕ → List ℕ → Option (Lead × List ℕ)
parting (Some from) (Some below) text = narrowing_to (record { from = from; below = below }) text
parting _ _ text = None

-- the first words of a line, and the bytes after them
abbrev pub lead_of : List ℕ → Option (Lead × List ℕ)
lead_of text =
    if bytes_eq (first_word text) (codes ".schema") then Some (WholeLine Schema, past_word text)
    else (if bytes_eq (first_word text) (codes ".help") then Some (WholeLine Help, past_word text)
    else (if bytes_eq (first_word text) (codes ".brief") then Some (BeforeLine brief, past_word text)
    else (if bytes_eq (first_word text) (codes ".part") then parting (bound_of (first_word (past_word text))) (bound_of (first_word (past_word (past_word text)))) (past_word (past_word (past_word text)))
    else narrowing None text None)))

-- the rest of a line, with blanks for the bytes before it, so that its places are those of the line
abbrev pub in_place : List ℕ → List ℕ → List ℕ
in_place text rest = map (λ b. 32) (take (length text - length rest) text) ++ rest

-- an own line, or the place where it isn't read
pub data OwnReading : Type 0 where
  Owns : OwnLine → OwnReading
  Misses : ℕ → OwnReading

-- a script's line that may not come there is wrong at the first dot
abbrev pub or_first_dot : List ℕ → Option OwnLine → OwnReading
or_first_dot text (Some own) = Owns own
or_first_dot text None = Misses (first_dot text)

-- an own line, by the reading of the script's line in it; a missing line is wrong at the end
abbrev pub before_line : List ℕ → (AnyLineImage → Option OwnLine) → Reading → OwnReading
before_line text becomes Nothing = Misses (length text)
before_line text becomes (Asks asked) = or_first_dot text (becomes asked)
before_line text becomes (Unread at) = Misses at

-- own = "." "schema" | "." "help" | [ "." "part" INT INT ] "." "selected" NAME ( "|" ask_step )* | [ "." "part" INT INT ] [ "." "now" ] line, with at least one of the two | "." "brief" line
pub data IsOwnReading (text : List ℕ) : OwnReading → Type 0 where
  without_lead : lead_of text ≡ None → IsOwnReading text (Misses (first_dot text))
  alone : {own : OwnLine} {rest : List ℕ} → lead_of text ≡ Some (WholeLine own, rest) → HasNoToken rest → IsOwnReading text (Owns own)
  not_alone : {own : OwnLine} {rest : List ℕ} → lead_of text ≡ Some (WholeLine own, rest) → (HasNoToken rest → ⊥) → IsOwnReading text (Misses (first_dot text))
  of_table : {part : Option RowsPart} {rest : List ℕ} {table : List ℕ} {steps : List AskStepImage} → lead_of text ≡ Some (BeforeTable part, rest)
      → AreSelected (tokens (in_place text rest)) table steps → selected_fault (tokens (in_place text rest)) ≡ None → IsOwnReading text (Owns (Selected part table steps))
  of_no_table : {part : Option RowsPart} {rest : List ℕ} {fault : BookFault} → lead_of text ≡ Some (BeforeTable part, rest)
      → selected_fault (tokens (in_place text rest)) ≡ Some fault → IsOwnReading text (Misses (place_of fault))
  of_line : {becomes : AnyLineImage → Option OwnLine} {rest : List ℕ} {reading : Reading} → lead_of text ≡ Some (BeforeLine becomes, rest)
      → IsReading (in_place text rest) reading → IsOwnReading text (before_line text becomes reading)
