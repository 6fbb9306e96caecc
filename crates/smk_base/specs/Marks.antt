-- Byte order marks at the start of a file.
use Rattle.std.specs.Prelude.{ℕ, ◌==◌, ◌&&◌, Bool, false, List, ◌∷◌, if◌then◌else◌}

-- the bytes of one mark
abbrev pub is_mark : ℕ → ℕ → ℕ → Bool
is_mark a b c = a == 0xEF && b == 0xBB && c == 0xBF

-- whether bytes begin with a mark
abbrev pub begins_with_mark : List ℕ → Bool
begins_with_mark (a ∷ b ∷ c ∷ rest) = is_mark a b c
begins_with_mark _ = false

-- the bytes without the marks that they begin with
abbrev pub after_marks : List ℕ → List ℕ
after_marks (a ∷ b ∷ c ∷ rest) = if is_mark a b c then after_marks rest else a ∷ b ∷ c ∷ rest
after_marks few = few
