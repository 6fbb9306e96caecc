-- Where a text of records may be cut: the machine of the reader is between two records there.
use Rattle.std.specs.{Prelude.{◌≡◌, ℕ, ◌-◌, ◌==◌, Bool, true, not, List, [], ◌∷◌, length, slice_index_or}, List.list_all}
use Rattle.std.proofs.Common.{Bor}
use Rattle.csv.specs.{Machine.{step, line_feed}, Reading.{default_config, records}, declared.parser.State.State}
use Rattle.csv.specs.declared.parser.State.TheVariants as st
use Rattle.smk_table.specs.CsvReader.{is_start}

-- the state after the bytes of a text
unfoldable pub state_after : State → List ℕ → State
state_after s [] = s
state_after s (c ∷ text) = state_after (step default_config s c).0 text

-- a text after which a record may begin
abbrev pub IsWhole : List ℕ → Type 0
IsWhole text = is_start (state_after st.StartRecord text) ≡ true

-- whether a byte isn't the quote
abbrev pub is_unquoted : ℕ → Bool
is_unquoted c = not (c == 34)

-- a text with no quote that is empty or ends a line
pub record AreLines (text : List ℕ) : Type 0 where
  pub unquoted : list_all is_unquoted text ≡ true
  pub ended : slice_index_or text (length text - 1) line_feed ≡ line_feed

-- the records of a piece of a text
abbrev pub read_of : Bor (List ℕ) → List (List (List ℕ))
read_of part = records default_config part.now
