-- The lines of a script.
use Rattle.std.specs.Prelude.{ℕ, List, [], ◌∷◌, ◌++◌, take_while, ◌==◌, if◌then◌else◌}
use Rattle.smk_base.specs.{declared.fault.BookFault.BookFault, declared.fault.BookFault.TheVariants.{BadToken, Unexpected, TooMany, BadNumber, NoMemory}}
use Rattle.smk_model.specs.Tokens.{no_line_end}

-- the bytes without a carriage return as their last
abbrev pub without_cr : List ℕ → List ℕ
without_cr [] = []
without_cr (b ∷ []) = if b == 13 then [] else b ∷ []
without_cr (b ∷ c ∷ bs) = b ∷ without_cr (c ∷ bs)

-- the bytes up to the first line feed
abbrev pub first_line : List ℕ → List ℕ
first_line bytes = take_while no_line_end bytes

-- the lines of the bytes, after the bytes that are passed of the first line
abbrev pub lines_after : List ℕ → List ℕ → List (List ℕ)
lines_after passed [] = cut passed
  where
    cut : List ℕ → List (List ℕ)
    cut [] = []
    cut (b ∷ bs) = without_cr (b ∷ bs) ∷ []
lines_after passed (b ∷ bs) = if b == 10 then without_cr passed ∷ lines_after [] bs else lines_after (passed ++ b ∷ []) bs

-- the lines of the bytes, each up to a line feed; the line feed, and one carriage return before it or at the end, are no part of the line
abbrev pub lines : List ℕ → List (List ℕ)
lines script = lines_after [] script

-- the place that a fault names
abbrev pub place_of : BookFault → ℕ
place_of (BadToken at) = at
place_of (Unexpected at) = at
place_of (TooMany at what) = at
place_of (BadNumber at) = at
place_of NoMemory = 0
