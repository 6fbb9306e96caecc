-- Steps from rows that are gathered in bulk.
use Rattle.std.proofs.{Common.{◌≡◌, ◌∙◌, ◌<◌, ◌+◌, ℕ, suc, nat_eq, get_or, List, [], ◌∷◌, ◌++◌, length, map, refl, sym, ap, subst, arith, pos, All}, lemmas.List.{get_or-map, length-map, map-append, get_or_append_left, get_or-append-add}}
use Rattle.std.specs.List.{filter}
use Rattle.smk_base.specs.{Rels.beside_rows, declared.value.Value.TheVariants.Int}
use Rattle.smk_model.specs.{Values.{Row, meets}, Plain.{row_eq, image, key_of, aggregate, firsts, joins}, Lineage.{upto, places, row_at, sub, matching, lefts_of, rights_of}, Classes.{classes, first_places, new_places}, ClassLaws.Bulk}
use Rattle.smk_base.proofs.Places.{at_places, map_map, map_upto, same_below}
use Rattle.smk_model.proofs.{Firsts.sub_key, Parts.map_agree, Locals.locals_are, Classes.{members, first_keys, first_of_two, first_below}}

beside_each : (L R : List Row) (P : List (ℕ × ℕ)) → map (λ (p : ℕ × ℕ). row_at L p.0 ++ row_at R p.1) P ≡ beside_rows (sub L (lefts_of P)) (sub R (rights_of P))
beside_each L R [] = refl
beside_each L R (p ∷ P) = ap (λ (z : List Row). (row_at L p.0 ++ row_at R p.1) ∷ z) (beside_each L R P)

-- the keys of rows at places
keys_at : (f : Row → Row) (L : List Row) (P : List ℕ) → All (λ r. r < length L) P → map (row_at (map f L)) P ≡ map f (sub L P)
keys_at f L [] low = refl
keys_at f L (p ∷ P) low = rw (get_or-map f L p [] [] (low 0 0 (omega arith)), keys_at f L P (λ k d l. low (suc k) d (omega arith))) refl

first_rows : (f : Row → Row) (L : List Row) → firsts (map f L) ≡ map f (sub L (first_places (map f L)))
first_rows f L =
    let keys = map f L in
    let low : All (λ r. r < length L) (first_places keys) = subst (λ (n : ℕ). All (λ r. r < n) (first_places keys)) (length-map L f) (first_below keys) in
    sym (first_keys keys) ∙ keys_at f L (first_places keys) low

whole_rows : (n : ℕ) (rows : List Row) → All (λ row. length row ≡ n) rows → map (key_of (upto n)) rows ≡ rows
whole_rows n [] all = refl
whole_rows n (row ∷ rows) all =
    let long : length row ≡ n = all 0 [] (omega arith) in
    let own : key_of (upto n) row ≡ row = ap (λ m. key_of (upto m) row) (sym long) ∙ map_upto row (Int (pos 0)) in
    rw (own, whole_rows n rows (λ k d l. all (suc k) d (omega arith))) refl

-- the rows of a class
class_rows : (f : Row → Row) (L : List Row) (p : ℕ) → p < length (firsts (map f L))
    → filter (λ row. row_eq (row_at (firsts (map f L)) p) (f row)) L ≡ sub L (places (λ i. nat_eq (get_or (classes (map f L)) i 0) p) (length L))
class_rows f L p low =
    let keys = map f L in
    let k = row_at (firsts keys) p in
    let same : places (λ i. row_eq k (f (row_at L i))) (length L) ≡ places (λ i. row_eq k (row_at keys i)) (length L) =
    same_below (λ i. row_eq k (f (row_at L i))) (λ i. row_eq k (row_at keys i)) (length L) (λ i l. ap (row_eq k) (sym (get_or-map f L i [] [] l))) in
    sym (sub_key f L k)
    ∙ ap (sub L) (same ∙ ap (places (λ i. row_eq k (row_at keys i))) (sym (length-map L f)) ∙ members keys p low ∙ ap (places (λ i. nat_eq (get_or (classes keys) i 0) p)) (length-map L f))

-- each row with what is made of it behind it
beside_made : (g : Row → Row) (rows : List Row) → map (λ row. row ++ g row) rows ≡ beside_rows rows (map g rows)
beside_made g [] = refl
beside_made g (x ∷ xs) = ap (λ (z : List Row). (x ++ g x) ∷ z) (beside_made g xs)

pub sub_left : (L R : List Row) (A : List ℕ) → All (λ r. r < length L) A → sub (L ++ R) A ≡ sub L A
sub_left L R [] low = refl
sub_left L R (a ∷ A) low = rw (get_or_append_left L R [] a (low 0 0 (omega arith)), sub_left L R A (λ k d l. low (suc k) d (omega arith))) refl

two_unions : (L R : List Row) → firsts (L ++ R) ≡ sub L (first_places L) ++ sub R (new_places L R)
two_unions L R =
    let all = L ++ R in
    let B = new_places L R in
    let right : map (row_at all) (map (λ j. length L + j) B) ≡ sub R B =
    map_map (row_at all) (λ j. length L + j) B ∙ map_agree (λ j. row_at all (length L + j)) (row_at R) (λ j. get_or-append-add L R j []) B in
    sym (first_keys all) ∙ ap (sub all) (first_of_two L R) ∙ map-append (row_at all) (first_places L) (map (λ j. length L + j) B) ∙ rw (sub_left L R (first_places L) (first_below L), right) refl

pub bulk : Bulk
bulk = record {
  selection = λ formula L. sym (at_places (meets formula) L []);
  join = λ op L R e. locals_are.joined op L R e ∙ beside_each L R (matching (joins op) L R);
  distinction = λ items L. sym (first_keys (map (image items) L));
  keys = λ keys L. first_rows (key_of keys) L;
  grouping = λ keys aggs L. beside_made (λ key. map (aggregate (filter (λ row. row_eq key (key_of keys row)) L)) aggs) (firsts (map (key_of keys) L));
  members = class_rows;
  union = λ L R. sym (first_keys (L ++ R));
  union_parts = two_unions;
  whole = whole_rows;
}
