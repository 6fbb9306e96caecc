-- Tokens of books and of script lines: at each place the longest.
use Rattle.std.specs.{Prelude.{◌≡◌, ℕ, zero, suc, ◌+◌, ◌-◌, ◌*◌, ◌^◌, ◌==◌, ◌||◌, ◌&&◌, Bool, true, false, List, [], ◌∷◌, drop, length, map, take, take_while, Option, Some, None, nat_eq, nat_lt, nat_le, if◌then◌else◌, not, ℤ, pos, neg_ℤ}, Char.{is_ascii_digit, is_ascii_alphabetic}, Cmp.Lexicographic.pointwise}
use Rattle.smk_base.specs.{declared.book.token.TokenKind.TokenKind, declared.book.token.TheConstants.KEYWORDS, declared.book.token.TokenKind.TheVariants.{Name, Quoted, Number, Str, Comma, Open, Close, OpenBrace, CloseBrace, Bar, Equal, NotEqual, Less, LessEqual, Greater, GreaterEqual, End, Bad, Huge}}

-- a token of a text: its place, its kind and its bytes
pub record Token : Type 0 where
  pub at : ℕ
  pub kind : TokenKind
  pub text : List ℕ

-- a byte that may be between tokens and means nothing: space, tab, line feed, carriage return
abbrev pub is_gap : ℕ → Bool
is_gap b = b == 32 || b == 9 || b == 10 || b == 13

-- a letter or an underscore
abbrev pub is_letter : ℕ → Bool
is_letter b = is_ascii_alphabetic b || b == 95

-- a letter, an underscore or a digit
abbrev pub is_word_byte : ℕ → Bool
is_word_byte b = is_letter b || is_ascii_digit b

-- any byte but a line feed
abbrev pub no_line_end : ℕ → Bool
no_line_end b = not (b == 10)

-- what may be between backquotes
abbrev pub is_quoted_byte : ℕ → Bool
is_quoted_byte b = not (b == 96) && not (b == 10)

pub record Keyword : Type 0 where
  pub word : List ℕ
  pub kind : TokenKind

-- the keywords
abbrev pub keywords : List Keyword
keywords = map (λ k. record { word = k.0.now; kind = k.1 }) KEYWORDS

-- the kind that the list gives the word, or this one
abbrev pub kind_in : List Keyword → TokenKind → List ℕ → TokenKind
kind_in [] other text = other
kind_in (k ∷ ks) other text = if pointwise nat_eq text k.word then k.kind else kind_in ks other text

-- a word that is a keyword is that keyword, any other is a name
abbrev pub word_kind : List ℕ → TokenKind
word_kind text = kind_in keywords Name text

-- the number that the digits say, after one that is read already
abbrev pub digits_value : ℕ → List ℕ → ℕ
digits_value n [] = n
digits_value n (b ∷ bs) = digits_value (n * 10 + (b - 48)) bs

-- whether a number of this sign and size is in the range of i64
abbrev pub is_i64 : Bool → ℕ → Bool
is_i64 minus size = if minus then nat_le size (2 ^ 63) else nat_lt size (2 ^ 63)

abbrev pub number_kind : Bool → ℕ → TokenKind
number_kind minus size = if is_i64 minus size then Number else Huge

-- the value of a number, which may begin with a minus sign
abbrev pub int_value : List ℕ → ℤ
int_value [] = pos 0
int_value (b ∷ bs) = if b == 45 then neg_ℤ (pos (digits_value 0 bs)) else pos (digits_value 0 (b ∷ bs))

-- the length of the longest text between quotes, with its last quote, of which n bytes are passed. A pair of quotes is one quote; the first of a pair may also be the last quote, and is kept in case no later one closes the text
abbrev pub string_len : Option ℕ → Bool → ℕ → List ℕ → Option ℕ
string_len kept true n [] = Some n
string_len kept false n [] = kept
string_len kept true n (b ∷ bs) = if b == 34 then string_len (Some n) false (n + 1) bs else Some n
string_len kept false n (b ∷ bs) = if b == 34 then string_len kept true (n + 1) bs else (if b == 10 then kept else string_len kept false (n + 1) bs)

-- each pair of quotes as one
abbrev pub undoubled : Bool → List ℕ → List ℕ
undoubled second [] = []
undoubled true (b ∷ bs) = undoubled false bs
undoubled false (b ∷ bs) = b ∷ undoubled (b == 34) bs

-- the bytes between the first and the last
abbrev pub inner : List ℕ → List ℕ
inner text = take (length text - 2) (drop 1 text)

abbrev pub string_value : List ℕ → List ℕ
string_value text = undoubled false (inner text)

-- the start of a text: something that means nothing, or a token, with its length
pub data Front : Type 0 where
  Between : ℕ → Front
  Begins : TokenKind → ℕ → Front

abbrev pub string_front : Option ℕ → Front
string_front None = Begins Bad 0
string_front (Some n) = Begins Str (n + 1)

-- a name between backquotes has a byte, and is closed on its line
abbrev pub quoted_front : ℕ → List ℕ → Front
quoted_front n [] = Begins Bad 0
quoted_front n (b ∷ bs) = if b == 96 && nat_lt 0 n then Begins Quoted (n + 2) else Begins Bad 0

-- a token of one byte, or of two where = follows
abbrev pub or_equal : TokenKind → TokenKind → List ℕ → Front
or_equal short long [] = Begins short 1
or_equal short long (b ∷ bs) = if b == 61 then Begins long 2 else Begins short 1

-- ! means nothing without =
abbrev pub unequal_front : List ℕ → Front
unequal_front [] = Begins Bad 0
unequal_front (b ∷ bs) = if b == 61 then Begins NotEqual 2 else Begins Bad 0

-- a minus sign means nothing without a digit; n is the number of digits after it
abbrev pub minus_front : List ℕ → ℕ → Front
minus_front bs n = if n == 0 then Begins Bad 0 else Begins (number_kind true (digits_value 0 (take n bs))) (n + 1)

-- a number of n digits
abbrev pub number_front : List ℕ → ℕ → Front
number_front bs n = Begins (number_kind false (digits_value 0 (take n bs))) n

-- a word of n bytes
abbrev pub word_front : List ℕ → ℕ → Front
word_front bs n = Begins (word_kind (take n bs)) n

-- the kind of a symbol of one byte
abbrev pub symbol_front : ℕ → Front
symbol_front b =
    if b == 44 then Begins Comma 1
    else (if b == 40 then Begins Open 1
    else (if b == 41 then Begins Close 1
    else (if b == 123 then Begins OpenBrace 1
    else (if b == 125 then Begins CloseBrace 1
    else (if b == 124 then Begins Bar 1
    else (if b == 61 then Begins Equal 1
    else Begins Bad 0))))))

abbrev pub front : List ℕ → Front
front [] = Begins End 0
front (b ∷ bs) =
    if is_gap b then Between 1
    else (if b == 35 then Between (length (take_while no_line_end bs) + 1)
    else (if is_letter b then word_front (b ∷ bs) (length (take_while is_word_byte bs) + 1)
    else (if b == 45 then minus_front bs (length (take_while is_ascii_digit bs))
    else (if is_ascii_digit b then number_front (b ∷ bs) (length (take_while is_ascii_digit bs) + 1)
    else (if b == 34 then string_front (string_len None false 0 bs)
    else (if b == 96 then quoted_front (length (take_while is_quoted_byte bs)) (drop (length (take_while is_quoted_byte bs)) bs)
    else (if b == 60 then or_equal Less LessEqual bs
    else (if b == 62 then or_equal Greater GreaterEqual bs
    else (if b == 33 then unequal_front bs
    else symbol_front b)))))))))

-- the end, a place where no token can be read and a number out of range are the last of the tokens
abbrev pub is_more : TokenKind → Bool
is_more End = false
is_more Bad = false
is_more Huge = false
is_more _ = true

-- the token, and after it the others unless it is the last
abbrev pub put : Front → ℕ → List ℕ → (ℕ → List Token) → List Token
put (Between n) at bs more = more (n - 1)
put (Begins kind n) at bs more = record { at = at; kind = kind; text = take n bs } ∷ (if is_more kind then more (n - 1) else [])

-- the tokens of the bytes from a place on; the first bytes are passed already
abbrev pub tokens_from : ℕ → ℕ → List ℕ → List Token
tokens_from passed at [] = record { at = at; kind = End; text = [] } ∷ []
tokens_from (suc passed) at (b ∷ bs) = tokens_from passed (at + 1) bs
tokens_from zero at (b ∷ bs) = put (front (b ∷ bs)) at (b ∷ bs) (λ n. tokens_from n (at + 1) bs)

-- the tokens of a text
abbrev pub tokens : List ℕ → List Token
tokens text = tokens_from 0 0 text

abbrev pub head_of : List Token → Token
head_of [] = record { at = 0; kind = End; text = [] }
head_of (t ∷ ts) = t

abbrev pub tail_of : List Token → List Token
tail_of [] = []
tail_of (t ∷ ts) = ts

-- a text without a token: everything before its end means nothing
abbrev pub HasNoToken : List ℕ → Type 0
HasNoToken text = (head_of (tokens text)).kind ≡ End
