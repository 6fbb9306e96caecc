-- Classes of the values of a column.
use Rattle.std.proofs.{Common.{◌≡◌, ◌∙◌, ◌<◌, ◌≤◌, ℕ, pos, true, false, List, [], ◌∷◌, length, map, take, refl, sym, ap, arith, get_or, nat_eq, subst}, lemmas.Bool.{eq-eqb, ne_eqb}, lemmas.List.{length-map, get_or-map, get_or_default, get_or-take, length-take-le, take-map}, lemmas.List.Folds.{list_any_at, list_any_none}}
use Rattle.std.specs.List.{All, list_any}
use Rattle.smk_base.specs.{declared.value.Value.Value, declared.value.Value.TheVariants.Int, Places.{upto, places, inverted}, Rels.picked, Values.value_eq}
use Rattle.smk_model.specs.{Values.{Row, value_at}, Lineage.row_at, Locals.singles, Classes.{classes, first_places}, Replies.with_value}
use Rattle.smk_base.proofs.Places.{same_below, map_map, map_upto, map_upto_agree}
use Rattle.smk_keys.specs.Classes.{ClassesImage, classes_of}
use Rattle.smk_body.proofs.Classing.{class_pair, are_numbered, length_of}
use Rattle.smk_skip.specs.Parts.{values_in, lists_by, HasAll}
use Rattle.smk_skip.proofs.{Filters.and_true, Orders.turned_is}

-- the values of a column as keys
abbrev pub keys_in : List Row → ℕ → List Row
keys_in rows col = map (picked (col ∷ [])) rows

key_at : (rows : List Row) (col i : ℕ) → i < length rows → row_at (keys_in rows col) i ≡ value_at (row_at rows i) col ∷ []
key_at rows col i h = get_or-map (picked (col ∷ [])) rows i [] [] h

-- a row is in a class exactly where it has the value of the class's first row
pub class_test : (rows : List Row) (col i p : ℕ) → i < length rows → p < length (first_places (keys_in rows col))
    → nat_eq p (get_or (classes (keys_in rows col)) i 0) ≡ value_eq (value_at (row_at rows i) col) (value_at (row_at rows (get_or (first_places (keys_in rows col)) p 0)) col)
class_test rows col i p h low =
    let keys = keys_in rows col in
    let at = are_numbered keys in
    let j = get_or (first_places keys) p 0 in
    let long : length keys ≡ length rows = length-map rows (picked (col ∷ [])) in
    let small : j < length rows = omega (arith, at.within p 0 low, long) in
    let a = value_at (row_at rows i) col in
    let b = value_at (row_at rows j) col in
    ap (λ z. nat_eq z (get_or (classes keys) i 0)) (sym (at.first p low))
    ∙ class_pair keys i j (omega (arith, h, long)) (omega (arith, small, long))
    ∙ rw (key_at rows col i h, key_at rows col j small) (and_true (value_eq a b) true refl)

-- the rids of each class are those with its value
pub lists_are : (rows : List Row) (col : ℕ) → (inverted (singles (classes (keys_in rows col)) (length (first_places (keys_in rows col))))).lists ≡ lists_by rows col (values_in rows col (first_places (keys_in rows col)))
lists_are rows col =
    let keys = keys_in rows col in
    let firsts = first_places keys in
    let n = length rows in
    let val = λ (r : ℕ). value_at (row_at rows r) col in
    let G = λ (r : ℕ). with_value rows col (val r) (upto n) in
    let long : length (classes keys) ≡ n = length_of keys ∙ length-map rows (picked (col ∷ [])) in
    turned_is (classes keys) (length firsts)
    ∙ ap (λ m. map (λ r. places (λ i. nat_eq r (get_or (classes keys) i 0)) m) (upto (length firsts))) long
    ∙ map_upto_agree (λ r. places (λ i. nat_eq r (get_or (classes keys) i 0)) n) (λ r. G (get_or firsts r 0)) (length firsts) (λ r low.
    same_below (λ i. nat_eq r (get_or (classes keys) i 0)) (λ i. value_eq (val i) (val (get_or firsts r 0))) n (λ i l. class_test rows col i r l low))
    ∙ sym (map_map G (λ r. get_or firsts r 0) (upto (length firsts)))
    ∙ ap (map G) (map_upto firsts 0)
    ∙ sym (map_map (λ value. with_value rows col value (upto n)) val firsts)

-- each row's value is that of its class
pub all_there : (rows : List Row) (col : ℕ) → HasAll rows col (values_in rows col (first_places (keys_in rows col)))
all_there rows col r h =
    let keys = keys_in rows col in
    let firsts = first_places keys in
    let long : length keys ≡ length rows = length-map rows (picked (col ∷ [])) in
    let at = are_numbered keys in
    let p = get_or (classes keys) r 0 in
    let low : p < length firsts = at.below r 0 (omega (arith, h, long, at.long)) in
    let val = λ (r : ℕ). value_at (row_at rows r) col in
    let here : get_or (values_in rows col firsts) p (Int (pos 0)) ≡ val (get_or firsts p 0) = get_or-map val firsts p 0 (Int (pos 0)) low in
    let same : value_eq (val r) (val (get_or firsts p 0)) ≡ true = sym (class_test rows col r p h low) ∙ eq-eqb p p refl in
    list_any_at (value_eq (val r)) (values_in rows col firsts) p (Int (pos 0)) (omega (arith, low, length-map firsts val)) (ap (value_eq (val r)) here ∙ same)

-- no two classes have the same value
pub values_apart : (rows : List Row) (col i j : ℕ) → i < j → j < length (first_places (keys_in rows col))
    → value_eq (get_or (values_in rows col (first_places (keys_in rows col))) j (Int (pos 0))) (get_or (values_in rows col (first_places (keys_in rows col))) i (Int (pos 0))) ≡ false
values_apart rows col i j up low =
    let keys = keys_in rows col in
    let firsts = first_places keys in
    let long : length keys ≡ length rows = length-map rows (picked (col ∷ [])) in
    let at = are_numbered keys in
    let val = λ (r : ℕ). value_at (row_at rows r) col in
    let a = get_or-map val firsts j 0 (Int (pos 0)) low in
    let b = get_or-map val firsts i 0 (Int (pos 0)) (omega arith) in
    let small : get_or firsts j 0 < length rows = omega (arith, at.within j 0 low, long) in
    rw (a, b) (sym (class_test rows col (get_or firsts j 0) i small (omega arith)) ∙ ap (nat_eq i) (at.first j low) ∙ ne_eqb i j (λ e. absurd (omega arith)))

-- a value is not among those before it
pub value_new : (rows : List Row) (col : ℕ) (rids : List ℕ) (i : ℕ) (x : Value) → ((i j : ℕ) → i < j → j < length rids → value_eq (get_or (values_in rows col rids) j (Int (pos 0))) (get_or (values_in rows col rids) i (Int (pos 0))) ≡ false)
    → i < length rids → x ≡ value_at (row_at rows (get_or rids i 0)) col → list_any (value_eq x) (values_in rows col (take i rids)) ≡ false
value_new rows col rids i x apart low e =
    let V = values_in rows col rids in
    let val = λ (r : ℕ). value_at (row_at rows r) col in
    let cut : values_in rows col (take i rids) ≡ take i V = sym (take-map val i rids) in
    let here : get_or V i (Int (pos 0)) ≡ x = get_or-map val rids i 0 (Int (pos 0)) low ∙ sym e in
    let long : length V ≡ length rids = length-map rids val in
    ap (list_any (value_eq x)) cut ∙ list_any_none (value_eq x) (take i V) (λ k d l.
    let before : k < i = omega (arith, l, length-take-le i V (omega (arith, long))) in
    let at : get_or (take i V) k d ≡ get_or V k (Int (pos 0)) = get_or-take i V k d before ∙ get_or_default V k d (Int (pos 0)) (omega (arith, long)) in
    rw (at, sym here) (apart k i before low))

-- what the classes of the values of a column are
pub record AreValued (rows : List Row) (col : ℕ) (made : ClassesImage) : Type 0 where
  pub long : length made.of ≡ length rows
  pub few : length made.firsts ≤ length rows
  pub below : All (λ p. p < length made.firsts) made.of
  pub within : All (λ i. i < length rows) made.firsts
  pub apart : (i j : ℕ) → i < j → j < length made.firsts → value_eq (get_or (values_in rows col made.firsts) j (Int (pos 0))) (get_or (values_in rows col made.firsts) i (Int (pos 0))) ≡ false
  pub whole : HasAll rows col (values_in rows col made.firsts)
  pub lists : (inverted (singles made.of (length made.firsts))).lists ≡ lists_by rows col (values_in rows col made.firsts)

pub are_valued : (rows : List Row) (col : ℕ) (made : ClassesImage) → made ≡ classes_of (keys_in rows col) → AreValued rows col made
are_valued rows col made e = subst (AreValued rows col) (sym e) (
    let keys = keys_in rows col in
    let at = are_numbered keys in
    let size : length keys ≡ length rows = length-map rows (picked (col ∷ [])) in
    record {
      long = at.long ∙ size;
      few = omega (arith, at.few, size);
      below = at.below;
      within = λ k d l. omega (arith, at.within k d l, size);
      apart = values_apart rows col;
      whole = all_there rows col;
      lists = lists_are rows col;
    })
