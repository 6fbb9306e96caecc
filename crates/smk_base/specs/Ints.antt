-- The int that a field's bytes write.
use Rattle.std.specs.{Prelude.{◌≡◌, ℕ, ◌^◌, ◌==◌, ◌||◌, ◌&&◌, Bool, nat_lt, ℤ, pos, negsuc, FitsSigned, List, [], ◌∷◌, ◌++◌, length, Option, Some, None, if◌then◌else◌, IsTrue}, List.list_all, Str.all_ascii_digits, Str.Parse.{without_leading_sign, signed_digits_value}, Int.w64}

-- a space or a tab
abbrev pub is_blank : ℕ → Bool
is_blank c = c == 32 || c == 9

-- one or more digits and nothing else
abbrev pub is_numeral : List ℕ → Bool
is_numeral ds = nat_lt 0 (length ds) && all_ascii_digits ds

-- bytes that write an int in the range of i64: spaces or tabs, an optional plus or minus, one or more digits, spaces or tabs
pub record IsIntText (bytes : List ℕ) (n : ℤ) : Type 0 where
  pub before : List ℕ
  pub numeral : List ℕ
  pub after : List ℕ
  pub parts : bytes ≡ before ++ (numeral ++ after)
  pub blank_before : IsTrue (list_all is_blank before)
  pub digits : IsTrue (is_numeral (without_leading_sign numeral))
  pub blank_after : IsTrue (list_all is_blank after)
  pub value : n ≡ signed_digits_value 10 numeral
  pub small : FitsSigned w64 n

-- the bytes without the blanks that they begin with
abbrev pub after_blanks : List ℕ → List ℕ
after_blanks [] = []
after_blanks (c ∷ cs) = if is_blank c then after_blanks cs else c ∷ cs

-- the bytes without the blanks that they end with
abbrev pub before_blanks : List ℕ → List ℕ
before_blanks [] = []
before_blanks (c ∷ cs) = if list_all is_blank (c ∷ cs) then [] else c ∷ before_blanks cs

-- whether a number is in the range of i64
abbrev pub is_i64 : ℤ → Bool
is_i64 (pos n) = nat_lt n (2 ^ 63)
is_i64 (negsuc n) = nat_lt n (2 ^ 63)

-- the number that an optional sign and digits write, if it is in the range of i64
abbrev pub numeral_int : List ℕ → Option ℤ
numeral_int text = if is_numeral (without_leading_sign text) && is_i64 (signed_digits_value 10 text) then Some (signed_digits_value 10 text) else None

-- the int that the bytes write, if they write one
unfoldable pub int_of : List ℕ → Option ℤ
int_of bytes = numeral_int (before_blanks (after_blanks bytes))
