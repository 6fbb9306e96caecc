-- Each number among the tokens of a text is in the range of i64.
use Rattle.std.specs.{Prelude.{Option, Some, None, FitsSigned, pos, neg_ℤ, cond, ◌==◌, ◌&&◌, nat_lt, nat_le, ◌-◌, ◌^◌, length, take, drop, take_while}, Int.w64, Char.is_ascii_digit, List.list_all}
use Rattle.std.proofs.{Common.{◌≡◌, ℕ, zero, suc, ◌+◌, ◌≤◌, List, [], ◌∷◌, Bool, true, false, ap, ◌∙◌, sym, subst, refl, arith}, lemmas.Bool.{ltb-true, leb-true}}
use Rattle.smk_base.specs.declared.book.token.TokenKind.{TokenKind}
use Rattle.smk_base.specs.declared.book.token.TokenKind.TheVariants as kinds
use Rattle.smk_base.proofs.Blanks.{cases_on}
use Rattle.smk_model.specs.Tokens.{Keyword, keywords, kind_in, word_kind, is_gap, is_letter, is_word_byte, no_line_end, is_quoted_byte, number_kind, digits_value, int_value, string_len, Front, Between, Begins, string_front, quoted_front, or_equal, unequal_front, minus_front, number_front, word_front, symbol_front, front, is_more, put, tokens_from, tokens, Token}
use Rattle.smk_model.proofs.Limited.{Ranged}

-- kinds but that of numbers
not_number : TokenKind → Bool
not_number kinds.Number = false
not_number _ = true

is_no_number : (k : TokenKind) → not_number k ≡ true → k ≡ kinds.Number → ⊥
unfolding not_number
is_no_number k h e = let f : false ≡ true = ap not_number (sym e) ∙ h in absurd (cc)

kind_in_not_number : (ks : List Keyword) (text : List ℕ) → list_all (λ k. not_number k.kind) ks ≡ true → not_number (kind_in ks kinds.Name text) ≡ true
unfolding not_number
kind_in_not_number [] text h = refl
kind_in_not_number (k ∷ ks) text h = cases_on _ (λ b. not_number (cond b k.kind (kind_in ks kinds.Name text)) ≡ true) (λ e. (both h).0) (λ e. kind_in_not_number ks text (both h).1)
  where
    both : {a b : Bool} → (a && b) ≡ true → (a ≡ true) × (b ≡ true)
    both {a = true} h = (refl, h)
    both {a = false} h = absurd (cc)

word_not_number : (text : List ℕ) → not_number (word_kind text) ≡ true
unfolding not_number
word_not_number text = kind_in_not_number keywords text refl

-- a number of the kind Number is in range
fits_minus : (size : ℕ) → number_kind true size ≡ kinds.Number → FitsSigned w64 (neg_ℤ (pos size))
fits_minus size = cases_on (nat_le size (2 ^ 63)) (λ b. cond b kinds.Number kinds.Huge ≡ kinds.Number → FitsSigned w64 (neg_ℤ (pos size))) (λ h e. small size (leb-true size (2 ^ 63) h)) (λ h e. absurd (cc))
  where
    small : (size : ℕ) → size ≤ 2 ^ 63 → FitsSigned w64 (neg_ℤ (pos size))
    small zero h = record { sfits = omega arith }
    small (suc n) h = record { sfits = omega (arith, h) }

fits_plus : (size : ℕ) → number_kind false size ≡ kinds.Number → FitsSigned w64 (pos size)
fits_plus size = cases_on (nat_lt size (2 ^ 63)) (λ b. cond b kinds.Number kinds.Huge ≡ kinds.Number → FitsSigned w64 (pos size)) (λ h e. record { sfits = ltb-true size (2 ^ 63) h }) (λ h e. absurd (cc))

-- what stands at the front is no number out of range
abbrev pub Fitting : List ℕ → Front → Type 0
Fitting bs (Between n) = Unit {0}
Fitting bs (Begins k n) = k ≡ kinds.Number → FitsSigned w64 (int_value (take n bs))

abbrev no_number_at : Front → Bool
no_number_at (Between n) = true
no_number_at (Begins k n) = not_number k

others_fit : (bs : List ℕ) (f : Front) → no_number_at f ≡ true → Fitting bs f
others_fit bs (Between n) h = tt
others_fit bs (Begins k n) h = λ e. absurd (is_no_number k h e)

minus_fits : (b : ℕ) (bs : List ℕ) (n : ℕ) → (b == 45) ≡ true → Fitting (b ∷ bs) (minus_front bs n)
minus_fits b bs n h = cases_on (n == 0) (λ o. Fitting (b ∷ bs) (cond o (Begins kinds.Bad 0) (Begins (number_kind true (digits_value 0 (take n bs))) (n + 1)))) (λ e. λ k. absurd (cc)) (λ e k. value (n + 1) (omega arith) k)
  where
    value : (m : ℕ) → m ≡ suc n → number_kind true (digits_value 0 (take n bs)) ≡ kinds.Number → FitsSigned w64 (int_value (take m (b ∷ bs)))
    value m e k = subst (λ i. FitsSigned w64 (int_value (take i (b ∷ bs)))) (sym e) (subst (λ o. FitsSigned w64 (cond o (neg_ℤ (pos (digits_value 0 (take n bs)))) (pos (digits_value 0 (b ∷ take n bs))))) (sym h) (fits_minus (digits_value 0 (take n bs)) k))

number_fits : (b : ℕ) (bs : List ℕ) (n : ℕ) → (b == 45) ≡ false → Fitting (b ∷ bs) (number_front (b ∷ bs) (n + 1))
number_fits b bs n h = value (n + 1) (omega arith)
  where
    value : (m : ℕ) → m ≡ suc n → number_kind false (digits_value 0 (take m (b ∷ bs))) ≡ kinds.Number → FitsSigned w64 (int_value (take m (b ∷ bs)))
    value m e = subst (λ i. number_kind false (digits_value 0 (take i (b ∷ bs))) ≡ kinds.Number → FitsSigned w64 (int_value (take i (b ∷ bs)))) (sym e) (λ k. subst (λ o. FitsSigned w64 (cond o (neg_ℤ (pos (digits_value 0 (take n bs)))) (pos (digits_value 0 (b ∷ take n bs))))) (sym h) (fits_plus (digits_value 0 (b ∷ take n bs)) k))

string_front_other : (o : Option ℕ) → no_number_at (string_front o) ≡ true
unfolding not_number
string_front_other None = refl
string_front_other (Some n) = refl

one_of : (o : Bool) (f g : Front) → no_number_at f ≡ true → no_number_at g ≡ true → no_number_at (cond o f g) ≡ true
one_of true f g h k = h
one_of false f g h k = k

quoted_front_other : (n : ℕ) (bs : List ℕ) → no_number_at (quoted_front n bs) ≡ true
unfolding not_number
quoted_front_other n [] = refl
quoted_front_other n (b ∷ bs) = one_of (b == 96 && nat_lt 0 n) (Begins kinds.Quoted (n + 2)) (Begins kinds.Bad 0) refl refl

or_equal_other : (k j : TokenKind) (bs : List ℕ) → not_number k ≡ true → not_number j ≡ true → no_number_at (or_equal k j bs) ≡ true
or_equal_other k j [] h i = h
or_equal_other k j (b ∷ bs) h i = one_of (b == 61) (Begins j 2) (Begins k 1) i h

unequal_front_other : (bs : List ℕ) → no_number_at (unequal_front bs) ≡ true
unfolding not_number
unequal_front_other [] = refl
unequal_front_other (b ∷ bs) = one_of (b == 61) (Begins kinds.NotEqual 2) (Begins kinds.Bad 0) refl refl

symbol_front_other : (b : ℕ) → no_number_at (symbol_front b) ≡ true
unfolding not_number
symbol_front_other b = one_of (b == 44) (Begins kinds.Comma 1) _ refl (one_of (b == 40) (Begins kinds.Open 1) _ refl (one_of (b == 41) (Begins kinds.Close 1) _ refl (one_of (b == 123) (Begins kinds.OpenBrace 1) _ refl (one_of (b == 125) (Begins kinds.CloseBrace 1) _ refl (one_of (b == 124) (Begins kinds.Bar 1) _ refl (one_of (b == 61) (Begins kinds.Equal 1) (Begins kinds.Bad 0) refl refl))))))

either_fits : (bs : List ℕ) (o : Bool) (f g : Front) → (o ≡ true → Fitting bs f) → (o ≡ false → Fitting bs g) → Fitting bs (cond o f g)
either_fits bs true f g h k = h refl
either_fits bs false f g h k = k refl

pub front_fits : (bs : List ℕ) → Fitting bs (front bs)
unfolding not_number
front_fits [] = λ e. absurd (cc)
front_fits (b ∷ bs) =
    either_fits (b ∷ bs) (is_gap b) (Between 1) _ (λ e. tt) (λ e.
    either_fits (b ∷ bs) (b == 35) (Between (length (take_while no_line_end bs) + 1)) _ (λ e. tt) (λ e.
    either_fits (b ∷ bs) (is_letter b) (word_front (b ∷ bs) (length (take_while is_word_byte bs) + 1)) _ (λ e. others_fit (b ∷ bs) (word_front (b ∷ bs) (length (take_while is_word_byte bs) + 1)) (word_not_number (take (length (take_while is_word_byte bs) + 1) (b ∷ bs)))) (λ e.
    either_fits (b ∷ bs) (b == 45) (minus_front bs (length (take_while is_ascii_digit bs))) _ (λ minus. minus_fits b bs (length (take_while is_ascii_digit bs)) minus) (λ minus.
    either_fits (b ∷ bs) (is_ascii_digit b) (number_front (b ∷ bs) (length (take_while is_ascii_digit bs) + 1)) _ (λ e. number_fits b bs (length (take_while is_ascii_digit bs)) minus) (λ e.
    others_fit (b ∷ bs) _ (one_of (b == 34) (string_front (string_len None false 0 bs)) _ (string_front_other (string_len None false 0 bs))
    (one_of (b == 96) (quoted_front (length (take_while is_quoted_byte bs)) (drop (length (take_while is_quoted_byte bs)) bs)) _ (quoted_front_other (length (take_while is_quoted_byte bs)) (drop (length (take_while is_quoted_byte bs)) bs))
    (one_of (b == 60) (or_equal kinds.Less kinds.LessEqual bs) _ (or_equal_other kinds.Less kinds.LessEqual bs refl refl)
    (one_of (b == 62) (or_equal kinds.Greater kinds.GreaterEqual bs) _ (or_equal_other kinds.Greater kinds.GreaterEqual bs refl refl)
    (one_of (b == 33) (unequal_front bs) (symbol_front b) (unequal_front_other bs) (symbol_front_other b)))))))))))

put_ranged : (f : Front) (at : ℕ) (bs : List ℕ) (more : ℕ → List Token) → Fitting bs f → ((n : ℕ) → Ranged (more n)) → Ranged (put f at bs more)
put_ranged (Between n) at bs more h g = g (n - 1)
put_ranged (Begins k n) at bs more h g = (h, cases_on (is_more k) (λ o. Ranged (cond o (more (n - 1)) [])) (λ e. g (n - 1)) (λ e. tt))

tokens_from_ranged : (passed at : ℕ) (bs : List ℕ) → Ranged (tokens_from passed at bs)
tokens_from_ranged passed at [] = (λ e. absurd (cc), tt)
tokens_from_ranged (suc passed) at (b ∷ bs) = tokens_from_ranged passed (at + 1) bs
tokens_from_ranged zero at (b ∷ bs) = put_ranged (front (b ∷ bs)) at (b ∷ bs) (λ n. tokens_from n (at + 1) bs) (front_fits (b ∷ bs)) (λ n. tokens_from_ranged n (at + 1) bs)

pub tokens_ranged : (text : List ℕ) → Ranged (tokens text)
tokens_ranged text = tokens_from_ranged 0 0 text
