-- The number that an optional sign and digits write, and the int that bytes write.
use Rattle.std.proofs.{Common.{◌≡◌, ◌∙◌, ◌<◌, ◌≤◌, ◌+◌, ◌*◌, ℕ, true, cond, ◌&&◌, ◌==◌, List, [], ◌∷◌, ◌++◌, length, drop, ℤ, pos, negsuc, ◌^◌, nat_lt, refl, sym, ap, arith, append-nil, true≢false, Option, Some, None, IfSome, IfNone}, lemmas.Bool.{eqb-true, ltb-true, lt-ltb, and_parts}, lemmas.Bool.Decides.nat_tests}
use Rattle.std.specs.{List.list_all, Char.{is_ascii_digit, digit_value}, Str.all_ascii_digits, Str.Parse.{without_leading_sign, signed_digits_value, digits_value_after}, Int.w64, Int.RustNames.FitsSigned}
use Rattle.smk_base.specs.Ints.{after_blanks, before_blanks, is_i64, is_numeral, numeral_int, int_of, IsIntText}
use Rattle.smk_base.proofs.Blanks.{cases_on, is_solid, before_blanks-append, before_blanks-solid, after_blanks-append, after_blanks-solid, blanks_before, blanks_behind}

-- digits and signs are no blanks
digit_solid : (c : ℕ) → is_ascii_digit c ≡ true → is_solid c ≡ true
digit_solid c h = grind (arith, nat_tests)

digits_solid : (ds : List ℕ) → all_ascii_digits ds ≡ true → list_all is_solid ds ≡ true
digits_solid [] h = refl
digits_solid (d ∷ ds) h =
    let first : is_ascii_digit d ≡ true = grind arith in
    let rest : all_ascii_digits ds ≡ true = grind arith in
    rw (digit_solid d first, digits_solid ds rest) refl

-- a text of a sign and digits begins with a minus, a plus or a digit
sign_cases : (c : ℕ) (cs : List ℕ) (P : Type 0) → (c ≡ 45 → all_ascii_digits cs ≡ true → P) → (c ≡ 43 → all_ascii_digits cs ≡ true → P) → (all_ascii_digits (c ∷ cs) ≡ true → P)
    → all_ascii_digits (without_leading_sign (c ∷ cs)) ≡ true → P
sign_cases c cs P minus plus none =
    cases_on (c == 45) (λ b. all_ascii_digits (cond b cs (drop (cond (c == 43) 1 0) (c ∷ cs))) ≡ true → P)
    (λ e h. minus (eqb-true c 45 e) h)
    (λ _. cases_on (c == 43) (λ b. all_ascii_digits (drop (cond b 1 0) (c ∷ cs)) ≡ true → P)
    (λ e h. plus (eqb-true c 43 e) h)
    (λ _ h. none h))

numeral_solid : (text : List ℕ) → all_ascii_digits (without_leading_sign text) ≡ true → list_all is_solid text ≡ true
numeral_solid [] h = refl
numeral_solid (c ∷ cs) h =
    sign_cases c cs (list_all is_solid (c ∷ cs) ≡ true)
    (λ e d. rw (e, digits_solid cs d) refl)
    (λ e d. rw (e, digits_solid cs d) refl)
    (λ d. digits_solid (c ∷ cs) d)
    h

i64_fits : (z : ℤ) → is_i64 z ≡ true → FitsSigned w64 z
i64_fits (pos n) h = record { sfits = ltb-true n (2 ^ 63) h }
i64_fits (negsuc n) h = record { sfits = ltb-true n (2 ^ 63) h }

fits_i64 : (z : ℤ) → FitsSigned w64 z → is_i64 z ≡ true
fits_i64 (pos n) h = lt-ltb n (2 ^ 63) h.sfits
fits_i64 (negsuc n) h = lt-ltb n (2 ^ 63) h.sfits

-- what is_numeral tests
digits_of : (ds : List ℕ) → is_numeral ds ≡ true → (0 < length ds) × (all_ascii_digits ds ≡ true)
digits_of ds h = let t = and_parts (nat_lt 0 (length ds)) (all_ascii_digits ds) h in (ltb-true 0 (length ds) t.0, t.1)

-- a number is at most what it and the digits behind it write
pub le-digits_value_after : (n : ℕ) (ds : List ℕ) → n ≤ digits_value_after 10 n ds
le-digits_value_after n [] = omega arith
le-digits_value_after n (d ∷ ds) = omega (arith, le-digits_value_after (n * 10 + digit_value d) ds)

-- what a number says of its text
numeral_int-some : (text : List ℕ) (n : ℤ) → numeral_int text ≡ Some n → (is_numeral (without_leading_sign text) ≡ true) × (n ≡ signed_digits_value 10 text) × FitsSigned w64 n
numeral_int-some text n =
    cases_on (is_numeral (without_leading_sign text) && is_i64 (signed_digits_value 10 text))
    (λ b. cond b (Some (signed_digits_value 10 text)) None ≡ Some n → (is_numeral (without_leading_sign text) ≡ true) × (n ≡ signed_digits_value 10 text) × FitsSigned w64 n)
    (λ t e. let u = and_parts _ _ t in let same : n ≡ signed_digits_value 10 text = cc in (u.0, same, rw same (i64_fits _ u.1)))
    (λ _ e. absurd (let bad : None ≡ Some n = e in cc))

-- the int of bytes is written by them
pub IsIntText-int_of : (bytes : List ℕ) (n : ℤ) → int_of bytes ≡ Some n → IsIntText bytes n
unfolding int_of
IsIntText-int_of bytes n e =
    let first = blanks_before bytes in
    let last = blanks_behind (after_blanks bytes) in
    let facts = numeral_int-some (before_blanks (after_blanks bytes)) n e in
    record {
      before = first.0;
      numeral = before_blanks (after_blanks bytes);
      after = last.0;
      parts = first.1 ∙ ap (λ l. first.0 ++ l) last.1;
      blank_before = first.2;
      digits = facts.0;
      blank_after = last.2;
      value = facts.1;
      small = facts.2;
    }

numeral_long : (text : List ℕ) → is_numeral (without_leading_sign text) ≡ true → 0 < length text
numeral_long [] h = absurd (true≢false (sym h))
numeral_long (c ∷ cs) h = omega arith

trimmed : (bytes : List ℕ) (n : ℤ) (t : IsIntText bytes n) → before_blanks (after_blanks bytes) ≡ t.numeral
trimmed bytes n t =
    let digits = digits_of (without_leading_sign t.numeral) t.digits in
    let solid = numeral_solid t.numeral digits.1 in
    ap (λ l. before_blanks (after_blanks l)) t.parts
    ∙ ap before_blanks (after_blanks-append t.before (t.numeral ++ t.after) t.blank_before ∙ after_blanks-solid t.numeral t.after (numeral_long t.numeral t.digits) solid)
    ∙ before_blanks-append t.numeral t.after t.blank_after
    ∙ before_blanks-solid t.numeral solid

numeral_int-written : (text : List ℕ) (n : ℤ) → is_numeral (without_leading_sign text) ≡ true → n ≡ signed_digits_value 10 text → FitsSigned w64 n → numeral_int text ≡ Some n
numeral_int-written text n digits value small =
    let fits : is_i64 (signed_digits_value 10 text) ≡ true = rw (← value) (fits_i64 n small) in
    rw (digits, fits) (ap Some (sym value))

-- and what bytes write is their int
pub int_of-IsIntText : (bytes : List ℕ) (n : ℤ) → IsIntText bytes n → int_of bytes ≡ Some n
unfolding int_of
int_of-IsIntText bytes n t = ap numeral_int (trimmed bytes n t) ∙ numeral_int-written t.numeral n t.digits t.value t.small

-- a sign and digits with no blank around them are that int
pub int_of-numeral : (text : List ℕ) (n : ℤ) → numeral_int text ≡ Some n → int_of text ≡ Some n
int_of-numeral text n e =
    let facts = numeral_int-some text n e in
    int_of-IsIntText text n (record {
      before = [];
      numeral = text;
      after = [];
      parts = sym (append-nil text);
      blank_before = refl;
      digits = facts.0;
      blank_after = refl;
      value = facts.1;
      small = facts.2;
    })

-- the clauses of what reads an int
pub some_says : (bytes : List ℕ) (o : Option ℤ) → o ≡ int_of bytes → IfSome o (λ n. IsIntText bytes n)
some_says bytes None e = tt
some_says bytes (Some n) e = IsIntText-int_of bytes n (sym e)

pub none_says : (bytes : List ℕ) (o : Option ℤ) → o ≡ int_of bytes → IfNone o ((n : ℤ) → ¬ (IsIntText bytes n))
none_says bytes None e = λ n t. let bad : None ≡ Some n = e ∙ int_of-IsIntText bytes n t in cc
none_says bytes (Some n) e = tt
