-- Filters of which every member is kept, or none.
use Rattle.std.proofs.{Common.{◌≡◌, suc, Bool, true, false, List, [], ◌∷◌, ◌&&◌, refl, ap, arith, filter}, lemmas.Bool.false≢true}
use Rattle.std.specs.List.{All}

pub and_true : (a b : Bool) → b ≡ true → (a && b) ≡ a
and_true true b h = h
and_true false b h = refl

pub and_false : (a b : Bool) → b ≡ false → (a && b) ≡ false
and_false true b h = h
and_false false b h = refl

pub and_first : (a b : Bool) → (a && b) ≡ true → a ≡ true
and_first true b h = refl
and_first false b h = absurd (false≢true h)

pub and_second : (a b : Bool) → (a && b) ≡ true → b ≡ true
and_second true b h = h
and_second false b h = absurd (false≢true h)

pub filter_none : {X : Type 0} (p : X → Bool) (xs : List X) → All (λ x. p x ≡ false) xs → filter p xs ≡ []
filter_none p [] h = refl
filter_none p (x ∷ xs) h =
    let here : p x ≡ false = h 0 x (omega arith) in
    rw here (filter_none p xs (λ k d l. h (suc k) d (omega arith)))

pub filter_all : {X : Type 0} (p : X → Bool) (xs : List X) → All (λ x. p x ≡ true) xs → filter p xs ≡ xs
filter_all p [] h = refl
filter_all p (x ∷ xs) h =
    let here : p x ≡ true = h 0 x (omega arith) in
    rw here (ap (λ z. x ∷ z) (filter_all p xs (λ k d l. h (suc k) d (omega arith))))
