-- The numbers of the classes of rows.
use Rattle.std.proofs.{Common.{◌≡◌, ◌∙◌, ◌<◌, ◌≤◌, ℕ, true, List, [], length, sym, ap, arith, get_or, map, nat_eq, subst, take, drop, ◌-◌}, lemmas.List.{get_or-map, length-map, length-drop, get_or_default, take_all}, lemmas.List.Sums.fails_before_first, lemmas.Bool.false≢true}
use Rattle.smk_model.specs.{Values.Row, Plain.{row_eq, key_of, firsts}, Lineage.row_at, Classes.{classes, first_places}}
use Rattle.smk_model.proofs.{Classes.{place_in, found_at, same_place, key_test, known_key, class_at, first_below, classes_are}, Firsts.{row_same, holds_at, firsts_from}, Locals.firsts_apart, Sizes.firsts_short}
use Rattle.smk_keys.specs.Classes.{ClassesImage, classes_of}
use Rattle.smk_base.specs.declared.rel.TheConstants.{ROW_LIMIT}
use Rattle.smk_body.specs.{Bounds.{AreBelow, IsPartition}, Halves.AreNumbered}

pub length_of : (keys : List Row) → length (classes keys) ≡ length keys
length_of keys = length-map keys (place_in (firsts keys))

pub length_firsts : (keys : List Row) → length (first_places keys) ≡ length (firsts keys)
length_firsts keys = length-map (firsts keys) (place_in keys)

-- there are no more first occurrences than rows
pub few_firsts : (keys : List Row) → length (first_places keys) ≤ length keys
few_firsts keys = omega (arith, length_firsts keys, firsts_short keys)

first_is : (keys : List Row) (p : ℕ) → p < length (firsts keys) → get_or (first_places keys) p 0 ≡ place_in keys (row_at (firsts keys) p)
first_is keys p h = get_or-map (place_in keys) (firsts keys) p [] 0 h

-- the first place of a class has its first occurrence
pub first_at : (keys : List Row) (p : ℕ) → p < length (firsts keys) → row_at keys (get_or (first_places keys) p 0) ≡ row_at (firsts keys) p
first_at keys p h = rw (first_is keys p h) (found_at keys (row_at (firsts keys) p) (firsts_from keys (row_at (firsts keys) p) (holds_at (firsts keys) p h)))

-- two rows are of one class exactly where they are equal
pub class_pair : (keys : List Row) (i j : ℕ) → i < length keys → j < length keys → nat_eq (get_or (classes keys) j 0) (get_or (classes keys) i 0) ≡ row_eq (row_at keys i) (row_at keys j)
class_pair keys i j h l =
    let at = classes_are.stand keys in
    let p = get_or (classes keys) i 0 in
    ap (λ z. nat_eq z p) (class_at (firsts keys) keys j l) ∙ sym (key_test (firsts keys) (row_at keys j) p (firsts_apart keys) (known_key keys j l) (at.below i h)) ∙ ap (λ z. row_eq z (row_at keys j)) (at.at i h)

pub are_numbered : (keys : List Row) → AreNumbered (length keys) (classes_of keys)
are_numbered keys =
    let at = classes_are.stand keys in
    record {
      long = length_of keys;
      few = few_firsts keys;
      below = λ i d l. rw (get_or_default (classes keys) i d 0 l, length_firsts keys) (at.below i (omega (arith, length_of keys)));
      within = first_below keys;
      first = λ p l.
          let low : p < length (firsts keys) = omega (arith, length_firsts keys) in
          let i = get_or (first_places keys) p 0 in
          let small : i < length keys = first_below keys p 0 l in
          same_place (firsts keys) (get_or (classes keys) i 0) p (firsts_apart keys) (at.below i small) low (at.at i small ∙ first_at keys p low);
      none = λ p i l m e.
          let low : p < length (firsts keys) = omega (arith, length_firsts keys) in
          let small : i < length keys = omega (arith, first_below keys p 0 l) in
          let before : i < place_in keys (row_at (firsts keys) p) = omega (arith, first_is keys p low) in
          let same : row_eq (row_at (firsts keys) p) (row_at keys i) ≡ true = (row_same (row_at (firsts keys) p) (row_at keys i)).1 (ap (row_at (firsts keys)) (sym e) ∙ at.at i small) in
          absurd (false≢true (sym (fails_before_first (row_eq (row_at (firsts keys) p)) keys i [] before) ∙ same));
    }

-- the classes of the keys of rows
pub rows_numbered : (keys : List ℕ) (rows : List Row) (made : ClassesImage) → made ≡ classes_of (map (key_of keys) rows) → AreNumbered (length rows) made
rows_numbered keys rows made e = subst (λ (n : ℕ). AreNumbered n made) (length-map rows (key_of keys)) (subst (AreNumbered (length (map (key_of keys) rows))) (sym e) (are_numbered (map (key_of keys) rows)))

-- the rest of a list, as a slice has it
pub rest_of : {X : Type 0} (xs : List X) (k : ℕ) → take (length xs - k) (drop k xs) ≡ drop k xs
rest_of xs k = take_all (length xs - k) (drop k xs) (omega (arith, length-drop k xs))

-- the groups of few rows by their keys
pub groups_stand : (keys : List Row) (made : ClassesImage) → made ≡ classes_of keys → length keys ≤ ROW_LIMIT → IsPartition made
groups_stand keys made e short =
    let so : AreNumbered (length keys) made = subst (AreNumbered (length keys)) (sym e) (are_numbered keys) in
    record { few = omega (arith, so.long, short); numbered = subst (λ n. AreNumbered n made) (sym so.long) so }

pub groups_below : {groups : ClassesImage} → IsPartition groups → AreBelow (length groups.firsts) groups.of
groups_below is = record { few = is.few; below = is.numbered.below }
