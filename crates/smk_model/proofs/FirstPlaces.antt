-- The first place of a list at which a test holds.
use Rattle.std.proofs.{Common.{◌≡◌, ℕ, ◌<◌, Bool, true, false, List, [], ◌∷◌, ◌++◌, length, map, Some, position, refl, ap, sym, ◌∙◌, arith, get_or, inl, inr}, lemmas.Bool.{cases_Bool, lt-ltb, true≢false}, lemmas.List.{get_or_append_left, length-append, length-map, get_or-map}, lemmas.List.Folds.list_any_at, lemmas.List.Sums.position_or_len_is, lemmas.List.Quantifiers.position-Some}
use Rattle.std.specs.List.{list_any}
use Rattle.smk_base.specs.Dicts.{text_eq}
use Rattle.smk_base.proofs.Codes.{text_same, text_apart}

pub first_place : {X : Type 0} (p : X → Bool) (xs : List X) (i : ℕ) (d : X) → i < length xs → p (get_or xs i d) ≡ true → ((k : ℕ) → k < i → p (get_or xs k d) ≡ false) → position p xs ≡ Some i
first_place p xs i d low here before =
    let e = position_or_len_is p xs i d (omega (arith, low)) before (λ l. here) in
    rw (e, lt-ltb i (length xs) low) refl

-- it stays where the list grows
pub place_grows : {X : Type 0} (p : X → Bool) (xs ys : List X) (i : ℕ) (d : X) → position p xs ≡ Some i → position p (xs ++ ys) ≡ Some i
place_grows p xs ys i d e =
    let f = position-Some p xs i d e in
    first_place p (xs ++ ys) i d (omega (arith, f.0, length-append xs ys)) (ap p (get_or_append_left xs ys d i f.0) ∙ f.1) (λ k h. ap p (get_or_append_left xs ys d k (omega (arith, h, f.0))) ∙ f.2 k h)

pub at_end : {X : Type 0} (xs ys : List X) (x d : X) → get_or (xs ++ x ∷ ys) (length xs) d ≡ x
at_end [] ys x d = refl
at_end (y ∷ xs) ys x d = at_end xs ys x d

none_at : {X : Type 0} (p : X → Bool) (xs : List X) (k : ℕ) (d : X) → list_any p xs ≡ false → k < length xs → p (get_or xs k d) ≡ false
none_at p xs k d none low = elim (cases_Bool (p (get_or xs k d))) [
  | inl h ↦ absurd (true≢false (sym (list_any_at p xs k d low h) ∙ none))
  | inr h ↦ h
]

-- behind members at none of which it holds
pub first_behind : {X : Type 0} (p : X → Bool) (xs ys : List X) (x : X) → list_any p xs ≡ false → p x ≡ true → position p (xs ++ x ∷ ys) ≡ Some (length xs)
first_behind p xs ys x none here =
    first_place p (xs ++ x ∷ ys) (length xs) x (let e = length-append xs (x ∷ ys) in omega (arith, e)) (ap p (at_end xs ys x x) ∙ here) (λ k h. ap p (get_or_append_left xs (x ∷ ys) x k h) ∙ none_at p xs k x none h)

text_turned : (a b : List ℕ) → text_eq a b ≡ true → text_eq b a ≡ true
text_turned a b h = (text_same b a).1 (sym ((text_same a b).0 h))

-- the place of a name among names is that of what has it
pub named_place : {X : Type 0} (f : X → List ℕ) (xs : List X) (name : List ℕ) (i : ℕ) (d : X) → position (text_eq name) (map f xs) ≡ Some i → position (λ x. text_eq (f x) name) xs ≡ Some i
named_place f xs name i d e =
    let g = position-Some (text_eq name) (map f xs) i (f d) e in
    let low : i < length xs = omega (arith, g.0, length-map xs f) in
    first_place (λ x. text_eq (f x) name) xs i d low
    (text_turned name (f (get_or xs i d)) (ap (text_eq name) (sym (get_or-map f xs i d (f d) low)) ∙ g.1))
    (λ k h. text_apart name (f (get_or xs k d)) (ap (text_eq name) (sym (get_or-map f xs k d (f d) (omega (arith, h, low)))) ∙ g.2 k h))
