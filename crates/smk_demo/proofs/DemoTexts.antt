-- The records of the demo as they are written.
use Rattle.std.proofs.{Common.{◌≡◌, ◌∙◌, ap, append-nil, map, suc, ◌<◌, ◌*◌, ◌/◌, ◌%◌, ◌^◌, ◌++◌, ◌∷◌, [], ℕ, ℤ, pos, negsuc, List, refl, arith, codes, decimal}, lemmas.List.map-append, lemmas.List.Concat.flat_map-append, lemmas.Int.ints}
use Rattle.std.specs.{Prelude.◌-ℤ◌, Fmt.signed_decimal}
use lib.Signed.{mag}
use Rattle.csv.specs.Writing.{fields_text, is_blank}
use Rattle.smk_base.specs.Places.{upto}
use Rattle.smk_model.specs.{Texts.record_line, Demo.{flight, airport, flight_header, airport_header, two_digits, table_text}}
use Rattle.smk_demo.proofs.BareRecords.{IsBare, AreBare, after_commas, bare_append, bare_decimal, bare_signed, bare_line}

-- a delay is small
small_as : (z : ℤ) (a : ℕ) → a < 240 → z ≡ pos a -ℤ pos 60 → mag z < 240
small_as (pos n) a h e = omega (arith, ints)
small_as (negsuc n) a h e = omega (arith, ints)

pub small_delay : (a : ℕ) → a < 240 → mag (pos a -ℤ pos 60) < 240
small_delay a h = small_as (pos a -ℤ pos 60) a h refl

below : (n m : ℕ) → 0 < m → n % m < m
below n m h = omega arith

bare_digits : (m : ℕ) → m < 2 ^ 64 → IsBare (two_digits m)
bare_digits m h = bare_append (decimal (m / 10)) (decimal (m % 10)) (bare_decimal (m / 10) (omega arith)) (bare_decimal (m % 10) (omega arith))

letter : (b : ℕ) (rest : List ℕ) → IsBare (b ∷ []) → IsBare rest → IsBare (b ∷ rest)
letter b rest hb h = bare_append (b ∷ []) rest hb h

pub flight_line : (i : ℕ) → i < 200000 → record_line (flight i) ≡ decimal i ++ after_commas ((codes "C" ++ decimal (i / 3 % 10)) ∷ decimal (5 * i % 24) ∷ signed_decimal (pos (37 * i % 240) -ℤ pos 60) ∷ (codes "A" ++ two_digits (11 * i % 40)) ∷ []) (10 ∷ [])
flight_line i h =
    let small : mag (pos (37 * i % 240) -ℤ pos 60) < 240 = small_delay (37 * i % 240) (below (37 * i) 240 (omega arith)) in
    let bare : AreBare ((codes "C" ++ decimal (i / 3 % 10)) ∷ decimal (5 * i % 24) ∷ signed_decimal (pos (37 * i % 240) -ℤ pos 60) ∷ (codes "A" ++ two_digits (11 * i % 40)) ∷ []) = (
      letter 67 (decimal (i / 3 % 10)) (record { plain = refl }) (bare_decimal (i / 3 % 10) (omega arith)),
      (
        bare_decimal (5 * i % 24) (omega arith),
        (
          bare_signed (pos (37 * i % 240) -ℤ pos 60) (omega arith),
          (letter 65 (two_digits (11 * i % 40)) (record { plain = refl }) (bare_digits (11 * i % 40) (omega arith)), tt),
        ),
      ),
    ) in
    bare_line (decimal i) _ _ (bare_decimal i (omega arith)) bare

pub airport_line : (i : ℕ) → i < 40 → record_line (airport i) ≡ (codes "A" ++ two_digits i) ++ after_commas ((codes "S" ++ decimal (i % 8)) ∷ []) (10 ∷ [])
airport_line i h = bare_line (codes "A" ++ two_digits i) _ _ (letter 65 _ (record { plain = refl }) (bare_digits i (omega arith)))
    (letter 83 _ (record { plain = refl }) (bare_decimal (i % 8) (omega arith)), tt)

-- one more record
pub table_more : (f : ℕ → List (List ℕ)) (n : ℕ) → table_text (map f (upto (suc n))) ≡ table_text (map f (upto n)) ++ record_line (f n)
table_more f n =
    rw (map-append f (upto n) (n ∷ [])) (flat_map-append record_line (map f (upto n)) (f n ∷ [])
    ∙ ap (λ x. table_text (map f (upto n)) ++ x) (append-nil (record_line (f n))))

-- the headers
pub flight_header_line : record_line flight_header ++ [] ≡ codes "id,carrier,hour,delay,airport\n"
unfolding record_line fields_text is_blank
flight_header_line = refl

pub airport_header_line : record_line airport_header ++ [] ≡ codes "code,state\n"
unfolding record_line fields_text is_blank
airport_header_line = refl
