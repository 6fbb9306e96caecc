-- What the code holds of a text.
use Rattle.std.specs.Prelude.{◌≡◌, ℕ, ◌+◌, ◌-◌, ◌<◌, ◌≤◌, true, List, [], ◌∷◌, take, drop, length, min, cond, FitsSigned}
use Rattle.smk_parse.specs.Vocabulary.{TokenKind, LineSpan, Token, Front, Between, Begins, tokens_from, is_more, head_of, int_value, Configuration, PlanCounts, first_line, lines, w64}
use Rattle.smk_base.specs.declared.book.token.TokenKind.TheVariants.{Number}
use Rattle.smk_parse.specs.declared.front.Front as code
use Rattle.smk_parse.specs.declared.front.Front.TheVariants as fronts

-- what a text starts with
abbrev pub front_of : code.Front → Front
front_of (fronts.Between n) = Between n
front_of (fronts.Begins kind n) = Begins kind n

-- how long it is: only the end and what can't be read have no bytes
abbrev pub Within : code.Front → ℕ → Type 0
Within (fronts.Between n) len = (0 < n) × (n ≤ len)
Within (fronts.Begins kind n) len = (n ≤ len) × (is_more kind ≡ true → 0 < n)

-- the token in hand, the first bytes of bs, and the tokens after it
abbrev pub left_at : TokenKind → ℕ → ℕ → List ℕ → List Token
left_at kind at n bs = record { at = at; kind = kind; text = take n bs } ∷ cond (is_more kind) (tokens_from 0 (at + n) (drop n bs)) []

-- where a token lies in a text
pub record Stands (kind : TokenKind) (place len : ℕ) (text : List ℕ) : Type 0 where
  pub within : place + len ≤ length text
  pub some : is_more kind ≡ true → 0 < len
  pub fits : kind ≡ Number → FitsSigned w64 (int_value (take len (drop place text)))

-- the token in hand is taken, with these counts
pub record Advances (c : PlanCounts) (a b : Configuration) : Type 0 where
  pub first : a.rest ≡ head_of a.rest ∷ b.rest
  pub counted : b.counts ≡ c

-- from this place on, the script has this line first, and then the lines from the next place on, which is after the first line feed, or the end of the script
pub record Cuts (script : List ℕ) (from : ℕ) (span : LineSpan) : Type 0 where
  pub starts : span.start ≡ from
  pub ordered : span.start ≤ span.end
  pub forward : (span.end ≤ span.next) × (span.start < span.next)
  pub within : span.next ≤ length script
  pub next : span.next ≡ min (length script) (from + length (first_line (drop from script)) + 1)
  pub cut : lines (drop from script) ≡ take (span.end - span.start) (drop span.start script) ∷ lines (drop span.next script)
