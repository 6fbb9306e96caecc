-- Laws of tokens: a text in quotes is the longest.
use Rattle.std.specs.Prelude.{◌≡◌, ℕ, suc, ◌≤◌, List, ◌∷◌, Option, Some, None, false}
use Rattle.smk_model.specs.Tokens.{string_len}

-- so many bytes after a quote close a text in quotes: the last is a quote, and before it come pairs of quotes and bytes other than a quote and a line feed
pub data ClosesString : ℕ → List ℕ → Type 0 where
  closing : {b : ℕ} {bs : List ℕ} → b ≡ 34 → ClosesString 1 (b ∷ bs)
  one_byte : {n b : ℕ} {bs : List ℕ} → (b ≡ 34 → ⊥) → (b ≡ 10 → ⊥) → ClosesString n bs → ClosesString (suc n) (b ∷ bs)
  a_pair : {n b c : ℕ} {bs : List ℕ} → b ≡ 34 → c ≡ 34 → ClosesString n bs → ClosesString (suc (suc n)) (b ∷ c ∷ bs)

-- the greatest length that closes the text, or none where none does
abbrev pub IsLongest : List ℕ → Option ℕ → Type 0
IsLongest text (Some n) = ClosesString n text × ((m : ℕ) → ClosesString m text → m ≤ n)
IsLongest text None = (m : ℕ) → ClosesString m text → ⊥

abbrev pub StringsAreLongest : Type 0
StringsAreLongest = (text : List ℕ) → IsLongest text (string_len None false 0 text)
