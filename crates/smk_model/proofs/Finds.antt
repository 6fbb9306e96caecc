-- The first member that passes a test stands at the first place that does.
use Rattle.std.proofs.{Common.{◌≡◌, ℕ, ◌<◌, Bool, List, length, ap, ◌∙◌, get_or, Some, position, nat_lt}, lemmas.Option.{cond_some, slice_get-get_or}, lemmas.List.Folds.find_at, lemmas.List.Quantifiers.position-Some}
use Rattle.std.specs.List.{find, position_or_len, slice_get}

pub find_placed : {X : Type 0} (p : X → Bool) (xs : List X) (i : ℕ) (d : X) → position p xs ≡ Some i → find p xs ≡ Some (get_or xs i d)
find_placed p xs i d h =
    let at : position_or_len p xs ≡ i = (cond_some (nat_lt (position_or_len p xs) (length xs)) (position_or_len p xs) i h).1 in
    let low : i < length xs = (position-Some p xs i d h).0 in
    find_at p xs ∙ ap (slice_get xs) at ∙ slice_get-get_or xs i d low
