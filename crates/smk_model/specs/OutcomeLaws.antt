-- A run has exactly one outcome, and a script exactly one list of readings; a text without a fault spells a book.
use Rattle.std.specs.Prelude.{◌≡◌, ℕ, List, None, Result}
use Rattle.smk_base.specs.{Trees.StmtImage, declared.fault.Fault.Fault}
use Rattle.smk_model.specs.{Tokens.tokens, Spelled.AreStmts, TokenReadings.book_fault, Readings.{Reading, AreReadingsOf}, Reports.Report, Outcome.{Held, Inputs, ReadsInputs, Outcome}}

-- a script's bytes have one list of readings
abbrev pub OneReading : Type 0
OneReading = (bytes : List ℕ) (a b : List Reading) → AreReadingsOf bytes a → AreReadingsOf bytes b → a ≡ b

-- words and files have one list of inputs, or one fault in reading them
abbrev pub OneInputs : Type 0
OneInputs = (words : List (List ℕ)) (held : Held) (a b : Result Inputs Fault) → ReadsInputs words held a → ReadsInputs words held b → a ≡ b

-- words and files have one outcome
abbrev pub OneOutcome : Type 0
OneOutcome = (words : List (List ℕ)) (held : Held) (a b : Result Report Fault) → Outcome words held a → Outcome words held b → a ≡ b

-- every text without a fault spells a book
abbrev pub FaultlessTextsSpell : Type 0
FaultlessTextsSpell = (text : List ℕ) → book_fault (tokens text) ≡ None → (ss : List StmtImage) × AreStmts (tokens text) ss

-- every script has a list of readings
abbrev pub SomeReading : Type 0
SomeReading = (bytes : List ℕ) → (readings : List Reading) × AreReadingsOf bytes readings

-- words and files have an outcome
abbrev pub SomeOutcome : Type 0
SomeOutcome = (words : List (List ℕ)) (held : Held) → (answer : Result Report Fault) × Outcome words held answer
