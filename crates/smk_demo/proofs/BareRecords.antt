-- Records whose fields are written as they are: the fields with commas between them, and a line feed.
use Rattle.std.proofs.{Common.{◌≡◌, ◌∙◌, ◌<◌, ◌+◌, ◌%◌, ◌^◌, ◌++◌, ◌∷◌, [], ℕ, suc, ℤ, pos, negsuc, false, List, refl, ap, arith, append_assoc, decimal}, lemmas.Bool.Decides.nat_tests, lemmas.List.Folds.list_any-append, lemmas.Fmt.decimal_by_steps}
use Rattle.std.specs.{List.list_any, Fmt.signed_decimal}
use lib.Signed.{mag}
use Rattle.csv.specs.Writing.{default_writer, needs_byte, fields_text, is_blank}
use Rattle.smk_model.specs.Texts.{record_line}

-- a field that calls for no quotes
pub record IsBare (field : List ℕ) : Type 0 where
  pub plain : list_any (needs_byte default_writer) field ≡ false

pub bare_append : (a b : List ℕ) → IsBare a → IsBare b → IsBare (a ++ b)
bare_append a b ha hb = record { plain = rw (list_any-append (needs_byte default_writer) a b) (rw (ha.plain, hb.plain) refl) }

plain_digit : (n : ℕ) → n < 10 → needs_byte default_writer (48 + n) ≡ false
plain_digit n h = grind (arith, nat_tests)

bare_digit : (n : ℕ) → n < 10 → IsBare ((48 + n) ∷ [])
bare_digit n h = record { plain = rw (plain_digit n h) refl }

last_below : (n : ℕ) → n % 10 < 10
last_below n = omega arith

pub bare_decimal : (n : ℕ) → n < 2 ^ 64 → IsBare (decimal n)
bare_decimal n h = decimal_by_steps (λ _ ds. IsBare ds) bare_digit (λ m ds _ front. bare_append ds ((48 + m % 10) ∷ []) front (bare_digit (m % 10) (last_below m))) n h

pub bare_signed : (z : ℤ) → mag z < 2 ^ 63 → IsBare (signed_decimal z)
bare_signed (pos n) h = bare_decimal n (omega arith)
bare_signed (negsuc n) h = bare_append (45 ∷ []) (decimal (suc n)) (record { plain = refl }) (bare_decimal (suc n) (omega arith))

-- fields that call for none
abbrev pub AreBare : List (List ℕ) → Type 0
AreBare [] = Unit {0}
AreBare (field ∷ rest) = IsBare field × AreBare rest

-- each after a comma, and then these bytes
abbrev pub after_commas : List (List ℕ) → List ℕ → List ℕ
after_commas [] tail = tail
after_commas (field ∷ rest) tail = 44 ∷ (field ++ after_commas rest tail)

fields_after : (fields : List (List ℕ)) (tail : List ℕ) → AreBare fields → fields_text default_writer fields ++ tail ≡ after_commas fields tail
unfolding fields_text
fields_after [] tail h = refl
fields_after (field ∷ rest) tail h =
    rw h.0.plain (rw (append_assoc field (fields_text default_writer rest) tail) (ap (λ x. 44 ∷ (field ++ x)) (fields_after rest tail h.1)))

-- a record of two fields or more
pub bare_line : (x y : List ℕ) (rest : List (List ℕ)) → IsBare x → AreBare (y ∷ rest) → record_line (x ∷ y ∷ rest) ≡ x ++ after_commas (y ∷ rest) (10 ∷ [])
unfolding record_line is_blank
bare_line x y rest hx h =
    rw hx.plain (append_assoc x (fields_text default_writer (y ∷ rest)) (10 ∷ []) ∙ ap (λ t. x ++ t) (fields_after (y ∷ rest) (10 ∷ []) h))
