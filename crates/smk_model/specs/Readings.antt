-- What the lines of a script say.
use Rattle.std.specs.Prelude.{◌≡◌, ℕ, List, [], ◌∷◌, Some, None}
use Rattle.smk_base.specs.{declared.fault.BookFault.BookFault, Trees.{AnyLineImage, PlainLine}, declared.book.tree.Line.Line, Marks.after_marks}
use Rattle.smk_model.specs.{Tokens.{tokens, HasNoToken}, Spelled.IsWholeAnyLine, TokenReadings.any_fault, Lines.{lines, place_of}}

-- nothing, a line of the grammar, or the place of the first fault
pub data Reading : Type 0 where
  Nothing : Reading
  Asks : AnyLineImage → Reading
  Unread : ℕ → Reading

-- the reading of a line that the session answers by itself
abbrev pub plain_reading : Line → Reading
plain_reading line = Asks (PlainLine line)

-- a line without a token says nothing; any other is in the grammar without a fault, or unread at its first fault
pub data IsReading (text : List ℕ) : Reading → Type 0 where
  says_nothing : HasNoToken text → IsReading text Nothing
  asks : {asked : AnyLineImage} → (HasNoToken text → ⊥) → IsWholeAnyLine (tokens text) asked → any_fault (tokens text) ≡ None → IsReading text (Asks asked)
  leaves : {fault : BookFault} {at : ℕ} → (HasNoToken text → ⊥) → any_fault (tokens text) ≡ Some fault → place_of fault ≡ at → IsReading text (Unread at)

-- one reading for each line, in order
pub data AreReadings : List (List ℕ) → List Reading → Type 0 where
  no_line : AreReadings [] []
  one_line : {text : List ℕ} {reading : Reading} {texts : List (List ℕ)} {readings : List Reading} → IsReading text reading → AreReadings texts readings → AreReadings (text ∷ texts) (reading ∷ readings)

-- the readings of a script's lines, without the byte order marks at its start
abbrev pub AreReadingsOf : List ℕ → List Reading → Type 0
AreReadingsOf bytes readings = AreReadings (lines (after_marks bytes)) readings
