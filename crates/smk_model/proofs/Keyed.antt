-- The places and the rows of one key.
use Rattle.std.proofs.{Common.{◌≡◌, ℕ, Bool, arith, true, false, List, [], ◌∷◌, length, map, refl, ap, sym, ◌∙◌, nat_eq, inl, inr}, lemmas.List.{get_or-map, length-map}, lemmas.List.Folds.list_any_at, lemmas.Bool.{cases_Bool, or_parts, false≢true, false_from_ne_true}}
use Rattle.std.specs.List.{list_any, filter}
use Rattle.smk_model.specs.{Values.Row, Plain.{row_eq, firsts}, Lineage.{places, row_at}}
use Rattle.smk_base.proofs.Places.{at_places, same_below, places_own, places_false}
use Rattle.smk_model.proofs.{Anys.or_false, Firsts.{row_same, row_is, holds, firsts_holds, firsts_from}, Locals.{IsApart, firsts_apart}, Classes.{place_in, found_below, found_at, key_test}}

-- the places of a key among keys
abbrev pub at_key : Row → List Row → List ℕ
at_key k keys = places (λ i. row_eq k (row_at keys i)) (length keys)

pub by_keys : (f : Row → Row) (L : List Row) (k : Row) → places (λ i. row_eq k (f (row_at L i))) (length L) ≡ at_key k (map f L)
by_keys f L k =
    same_below (λ i. row_eq k (f (row_at L i))) (λ i. row_eq k (row_at (map f L) i)) (length L) (λ i l. ap (row_eq k) (sym (get_or-map f L i [] [] l)))
    ∙ ap (places (λ i. row_eq k (row_at (map f L) i))) (sym (length-map L f))

row_turned : (a b : Row) → row_eq a b ≡ row_eq b a
row_turned a b = elim (cases_Bool (row_eq a b)) [
  | inl p ↦ p ∙ sym ((row_same b a).1 (sym (row_is a b p)))
  | inr p ↦ p ∙ sym (false_from_ne_true (row_eq b a) (λ q. false≢true (sym p ∙ (row_same a b).1 (sym (row_is b a q)))))
]

-- a key has one place among keys that are apart and have it, and none among others
pub one_key : (k : Row) (keys : List Row) → IsApart keys → holds keys k ≡ true → at_key k keys ≡ place_in keys k ∷ []
one_key k keys apart h =
    same_below (λ i. row_eq k (row_at keys i)) (nat_eq (place_in keys k)) (length keys) (λ i l. row_turned k (row_at keys i) ∙ key_test keys k i apart h l)
    ∙ places_own (place_in keys k) (length keys) (found_below keys k h)

pub no_key : (k : Row) (keys : List Row) → holds keys k ≡ false → at_key k keys ≡ []
no_key k keys none =
    same_below (λ i. row_eq k (row_at keys i)) (λ i. false) (length keys) (λ i l. false_from_ne_true (row_eq k (row_at keys i)) (λ q. false≢true (sym none ∙ list_any_at (row_eq k) keys i [] l q)))
    ∙ places_false (length keys)

pub none_pass : {X : Type 0} (f : X → Bool) (xs : List X) → list_any f xs ≡ false → filter f xs ≡ []
none_pass f [] h = refl
none_pass f (x ∷ xs) h = let each = or_parts (f x) (list_any f xs) h in rw each.0 (none_pass f xs each.1)

-- a key is among the first occurrences once, or not at all
pub once_first : (k : Row) (keys : List Row) → holds keys k ≡ true → filter (row_eq k) (firsts keys) ≡ k ∷ []
once_first k keys h =
    let found = firsts keys in
    let there : holds found k ≡ true = firsts_holds keys k h in
    sym (at_places (row_eq k) found []) ∙ ap (map (row_at found)) (one_key k found (firsts_apart keys) there) ∙ ap (λ (z : Row). z ∷ []) (found_at found k there)

not_first : (k : Row) (keys : List Row) → holds keys k ≡ false → holds (firsts keys) k ≡ false
not_first k keys none = false_from_ne_true (holds (firsts keys) k) (λ q. false≢true (sym none ∙ firsts_from keys k q))

pub never_first : (k : Row) (keys : List Row) → holds keys k ≡ false → filter (row_eq k) (firsts keys) ≡ []
never_first k keys none = none_pass (row_eq k) (firsts keys) (not_first k keys none)

-- going over the first places of a key is going over all its places
pub key_again : (F : ℕ → Bool) (keys : List Row) (k : Row) → list_any (λ i. list_any F (at_key (row_at (firsts keys) i) keys)) (at_key k (firsts keys)) ≡ list_any F (at_key k keys)
key_again F keys k =
    let found = firsts keys in
    let G = λ (i : ℕ). list_any F (at_key (row_at found i) keys) in
    elim (cases_Bool (holds keys k)) [
      | inl h ↦ (let there : holds found k ≡ true = firsts_holds keys k h in
          ap (list_any G) (one_key k found (firsts_apart keys) there) ∙ rw (found_at found k there) (or_false (list_any F (at_key k keys))))
      | inr h ↦ ap (list_any G) (no_key k found (not_first k keys h)) ∙ ap (list_any F) (sym (no_key k keys h))
    ]

pub place_none : (k : Row) (keys : List Row) → holds keys k ≡ false → place_in keys k ≡ length keys
place_none k [] h = refl
place_none k (x ∷ xs) h = let each = or_parts (row_eq k x) (holds xs k) h in rw each.0 (omega (arith, place_none k xs each.1))
