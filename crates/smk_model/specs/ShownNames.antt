-- Names as a book writes them.
use Rattle.std.specs.{Prelude.{ℕ, Bool, false, not, ◌&&◌, nat_eq, List, [], ◌∷◌, ◌++◌, if◌then◌else◌}, List.{list_any, list_all}, Cmp.Lexicographic.pointwise}
use Rattle.smk_model.specs.Tokens.{is_letter, is_word_byte, keywords}

-- whether a text is a word: a letter or an underscore, and then letters, digits and underscores
abbrev pub is_word : List ℕ → Bool
is_word [] = false
is_word (b ∷ bs) = is_letter b && list_all is_word_byte bs

-- whether a text is a keyword
abbrev pub is_keyword : List ℕ → Bool
is_keyword text = list_any (λ keyword. pointwise nat_eq text keyword.word) keywords

-- whether a name needs no quotes: it is a word, and no keyword
abbrev pub is_plain_name : List ℕ → Bool
is_plain_name text = is_word text && not (is_keyword text)

-- a name as a book writes it: as it is, or between backquotes if it needs them
abbrev pub shown : List ℕ → List ℕ
shown name = if is_plain_name name then name else 96 ∷ name ++ 96 ∷ []
