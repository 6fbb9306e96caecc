-- The records of the tables, as they are written part by part.
use Rattle.std.proofs.{Common.{◌≡◌, ◌<◌, ◌+◌, ◌*◌, ◌/◌, ◌%◌, ◌++◌, ◌∷◌, [], ℕ, List, pos, refl, sym, arith, append_assoc, add-one, map, decimal}, lemmas.Fmt.decimal_digit}
use Rattle.std.specs.{Prelude.◌-ℤ◌, Fmt.signed_decimal}
use Rattle.smk_base.specs.Places.{upto}
use Rattle.smk_model.specs.{Texts.record_line, Demo.{flight, airport, table_text}}
use Rattle.smk_demo.proofs.DemoTexts.{flight_line, airport_line, table_more}

-- a record behind a text, as its parts come
pub flight_parts : (text : List ℕ) (i : ℕ) → i < 200000
    → text ++ record_line (flight i)
    ≡ (((((text ++ decimal i) ++ 44 ∷ 67 ∷ (48 + i / 3 % 10) ∷ 44 ∷ []) ++ decimal (5 * i % 24)) ++ 44 ∷ []) ++ signed_decimal (pos (37 * i % 240) -ℤ pos 60))
    ++ 44 ∷ 65 ∷ (48 + 11 * i % 40 / 10) ∷ (48 + 11 * i % 40 % 10) ∷ 10 ∷ []
flight_parts text i h =
    let carrier = decimal_digit (i / 3 % 10) (omega arith) in
    let tens = decimal_digit (11 * i % 40 / 10) (omega arith) in
    let ones = decimal_digit (11 * i % 40 % 10) (omega arith) in
    rw (flight_line i h) (rw (carrier, tens, ones) (simp append_assoc))

pub airport_parts : (text : List ℕ) (i : ℕ) → i < 40
    → text ++ record_line (airport i) ≡ text ++ 65 ∷ (48 + i / 10) ∷ (48 + i % 10) ∷ 44 ∷ 83 ∷ (48 + i % 8) ∷ 10 ∷ []
airport_parts text i h =
    let tens = decimal_digit (i / 10) (omega arith) in
    let ones = decimal_digit (i % 10) (omega arith) in
    let state = decimal_digit (i % 8) (omega arith) in
    rw (airport_line i h) (rw (tens, ones, state) refl)

-- one more record behind a header
pub records_more : (header : List (List ℕ)) (f : ℕ → List (List ℕ)) (i : ℕ)
    → table_text (header ∷ map f (upto (i + 1))) ≡ table_text (header ∷ map f (upto i)) ++ record_line (f i)
records_more header f i =
    rw add-one (rw (table_more f i) (sym (append_assoc (record_line header) (table_text (map f (upto i))) (record_line (f i)))))
