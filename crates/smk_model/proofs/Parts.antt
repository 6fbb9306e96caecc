-- A list cut into consecutive parts.
use Rattle.std.proofs.{Common.{◌≡◌, ℕ, zero, suc, ◌+◌, ◌<◌, Bool, List, [], ◌∷◌, ◌++◌, length, map, refl, ap, sym, ◌∙◌, arith}, lemmas.List.{map-append, map-id, length-append, get_or_append_left, get_or-append-add}, lemmas.List.Elements.filter-append, lemmas.List.Concat.flat_map-append}
use Rattle.std.specs.List.{flat_map, filter, fold}
use Rattle.smk_model.specs.{Values.{Row, meets}, Plain.{row_eq, add_first, firsts, nested}, Lineage.{upto, places, row_at, partners, matching}, LocalLaws.{together, part_places, part_pairs, Cut}}
use Rattle.smk_base.proofs.Places.{filter_map, map_map, map_flat_map, flat_map_map, flat_map_agree, same_below, upto_add}
use Rattle.smk_model.proofs.Firsts.{fold_append, add_firsts}

pub filter_parts : (f : Row → Bool) (parts : List (List Row)) → flat_map (filter f) parts ≡ filter f (together parts)
filter_parts f [] = refl
filter_parts f (part ∷ parts) = rw (filter_parts f parts) (sym (filter-append f part (together parts)))

nested_parts : (test : Row → Row → Bool) (parts : List (List Row)) (R : List Row) → flat_map (λ part. nested test part R) parts ≡ nested test (together parts) R
nested_parts test [] R = refl
nested_parts test (part ∷ parts) R = rw (nested_parts test parts R) (sym (flat_map-append (λ l. map (λ r. l ++ r) (filter (test l) R)) part (together parts)))

keys_parts : (key : Row → Row) (found : List Row) (parts : List (List Row)) → fold add_first found (map key (together parts)) ≡ fold add_first found (flat_map (λ part. firsts (map key part)) parts)
keys_parts key found [] = refl
keys_parts key found (part ∷ parts) =
    ap (fold add_first found) (map-append key part (together parts)) ∙ fold_append found (map key part) (map key (together parts))
    ∙ keys_parts key (fold add_first found (map key part)) parts
    ∙ ap (λ t. fold add_first t (flat_map (λ part. firsts (map key part)) parts)) (sym (add_firsts found [] (map key part)))
    ∙ sym (fold_append found (firsts (map key part)) (flat_map (λ part. firsts (map key part)) parts))

-- the places that pass in two parts are those in the first, and those in the second moved by the length of the first
pub places_add : (t : ℕ → Bool) (m n : ℕ) → places t (m + n) ≡ places t m ++ map (λ i. m + i) (places (λ i. t (m + i)) n)
places_add t m n = ap (filter t) (upto_add m n) ∙ filter-append t (upto m) (map (λ i. m + i) (upto n)) ∙ ap (λ z. places t m ++ z) (filter_map t (λ i. m + i) (upto n))

-- a place moved by m
abbrev moved : ℕ → ℕ → ℕ
moved m i = m + i

-- a pair moved by m on the left
abbrev shifted : ℕ → ℕ × ℕ → ℕ × ℕ
shifted m p = (m + p.0, p.1)

pub map_agree : {X Y : Type 0} (f g : X → Y) → ((x : X) → f x ≡ g x) → (xs : List X) → map f xs ≡ map g xs
map_agree f g h [] = refl
map_agree f g h (x ∷ xs) = rw (h x, map_agree f g h xs) refl

moved_by_none : (xs : List ℕ) → map (moved 0) xs ≡ xs
moved_by_none xs = map_agree (moved 0) (λ i. i) (λ i. omega arith) xs ∙ map-id xs

moved_twice : (m n : ℕ) (xs : List ℕ) → map (moved m) (map (moved n) xs) ≡ map (moved (m + n)) xs
moved_twice m n xs = map_map (moved m) (moved n) xs ∙ map_agree (λ i. m + (n + i)) (moved (m + n)) (λ i. omega arith) xs

shifted_by_none : (ps : List (ℕ × ℕ)) → map (shifted 0) ps ≡ ps
shifted_by_none ps = map_agree (shifted 0) (λ p. p) (λ p. let e : 0 + p.0 ≡ p.0 = omega arith in rw e refl) ps ∙ map-id ps

shifted_twice : (m n : ℕ) (ps : List (ℕ × ℕ)) → map (shifted m) (map (shifted n) ps) ≡ map (shifted (m + n)) ps
shifted_twice m n ps =
    map_map (shifted m) (shifted n) ps
    ∙ map_agree (λ (p : ℕ × ℕ). shifted m (shifted n p)) (shifted (m + n)) (λ p. let e : m + (n + p.0) ≡ (m + n) + p.0 = omega arith in rw e refl) ps

-- the places of rows that pass

moved_places : (test : Row → Bool) (m n : ℕ) (parts : List (List Row)) → map (moved m) (part_places test n parts) ≡ part_places test (m + n) parts
moved_places test m n [] = refl
moved_places test m n (part ∷ parts) =
    let here = places (λ i. test (row_at part i)) (length part) in
    let e : m + (n + length part) ≡ (m + n) + length part = omega arith in
    map-append (moved m) (map (moved n) here) (part_places test (n + length part) parts) ∙ rw (moved_twice m n here, moved_places test m (n + length part) parts, e) refl

test_parts : (test : Row → Bool) (parts : List (List Row)) → places (λ i. test (row_at (together parts) i)) (length (together parts)) ≡ part_places test 0 parts
test_parts test [] = refl
test_parts test (part ∷ parts) =
    let rest = together parts in
    let t = λ (i : ℕ). test (row_at (part ++ rest) i) in
    let here = places (λ i. test (row_at part i)) (length part) in
    let left : places t (length part) ≡ here = same_below t (λ i. test (row_at part i)) (length part) (λ i l. ap test (get_or_append_left part rest [] i l)) in
    let right : places (λ i. t (length part + i)) (length rest) ≡ places (λ i. test (row_at rest i)) (length rest) =
    same_below (λ i. t (length part + i)) (λ i. test (row_at rest i)) (length rest) (λ i l. ap test (get_or-append-add part rest i [])) in
    let first : length part + 0 ≡ 0 + length part = omega arith in
    ap (places t) (length-append part rest) ∙ places_add t (length part) (length rest)
    ∙ rw (left, right, test_parts test parts, moved_places test (length part) 0 parts, first) (ap (λ z. z ++ part_places test (0 + length part) parts) (sym (moved_by_none here)))

-- the matching pairs

flat_map_below : {X : Type 0} (f g : ℕ → List X) (n : ℕ) → ((i : ℕ) → i < n → f i ≡ g i) → flat_map f (upto n) ≡ flat_map g (upto n)
flat_map_below f g zero h = refl
flat_map_below f g (suc n) h =
    flat_map-append f (upto n) (n ∷ []) ∙ rw (flat_map_below f g n (λ i l. h i (omega arith)), h n (omega arith)) (sym (flat_map-append g (upto n) (n ∷ [])))

-- the pairs of one left row
abbrev row_pairs : (Row → Row → Bool) → List Row → List Row → ℕ → List (ℕ × ℕ)
row_pairs test L R i = map (λ j. (i, j)) (partners test L R i)

pairs_of_two : (test : Row → Row → Bool) (A B R : List Row) → matching test (A ++ B) R ≡ matching test A R ++ map (shifted (length A)) (matching test B R)
pairs_of_two test A B R =
    let m = length A in
    let n = length B in
    let F = row_pairs test (A ++ B) R in
    let left : flat_map F (upto m) ≡ matching test A R = flat_map_below F (row_pairs test A R) m (λ i l. ap (λ (row : Row). map (λ j. (i, j)) (places (λ j. test row (row_at R j)) (length R))) (get_or_append_left A B [] i l)) in
    let each : (i : ℕ) → F (m + i) ≡ map (shifted m) (row_pairs test B R i) = λ i.
    ap (λ (row : Row). map (λ j. (m + i, j)) (places (λ j. test row (row_at R j)) (length R))) (get_or-append-add A B i []) ∙ sym (map_map (shifted m) (λ j. (i, j)) (partners test B R i)) in
    let right : flat_map F (map (moved m) (upto n)) ≡ map (shifted m) (matching test B R) =
    flat_map_map F (moved m) (upto n) ∙ flat_map_agree (λ i. F (m + i)) (λ i. map (shifted m) (row_pairs test B R i)) each (upto n) ∙ sym (map_flat_map (shifted m) (row_pairs test B R) (upto n)) in
    ap (λ k. flat_map F (upto k)) (length-append A B) ∙ ap (flat_map F) (upto_add m n) ∙ flat_map-append F (upto m) (map (moved m) (upto n)) ∙ rw (left, right) refl

shifted_pairs : (test : Row → Row → Bool) (m n : ℕ) (parts : List (List Row)) (R : List Row) → map (shifted m) (part_pairs test n parts R) ≡ part_pairs test (m + n) parts R
shifted_pairs test m n [] R = refl
shifted_pairs test m n (part ∷ parts) R =
    let e : m + (n + length part) ≡ (m + n) + length part = omega arith in
    map-append (shifted m) (map (shifted n) (matching test part R)) (part_pairs test (n + length part) parts R) ∙ rw (shifted_twice m n (matching test part R), shifted_pairs test m (n + length part) parts R, e) refl

pairs_parts : (test : Row → Row → Bool) (parts : List (List Row)) (R : List Row) → matching test (together parts) R ≡ part_pairs test 0 parts R
pairs_parts test [] R = refl
pairs_parts test (part ∷ parts) R =
    let first : length part + 0 ≡ 0 + length part = omega arith in
    pairs_of_two test part (together parts) R
    ∙ rw (pairs_parts test parts R, shifted_pairs test (length part) 0 parts R, first) (ap (λ z. z ++ part_pairs test (0 + length part) parts R) (sym (shifted_by_none (matching test part R))))

pub cut : Cut
cut = record {
  selection = λ formula parts. filter_parts (meets formula) parts;
  join = nested_parts;
  keys = λ key parts. keys_parts key [] parts;
  places_of_key = λ key k parts. test_parts (λ row. row_eq k (key row)) parts;
  places_of_two = places_add;
  places_of_test = test_parts;
  pairs = pairs_parts;
}
