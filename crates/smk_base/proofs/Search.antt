-- The first place at which a test passes, looked for item by item.
use Rattle.std.proofs.{Common.{◌≡◌, ◌∙◌, ℕ, ◌+◌, ◌<◌, ◌≤◌, Bool, true, not, List, length, drop, get_or, position, Some, None, refl, ap, arith}, lemmas.Bool.{lt-ltb, le-ltb}, lemmas.List.Sums.prefix_len-drop_no}
use Rattle.std.specs.List.{position_or_len}

pub place_found : {X : Type 0} (p : X → Bool) (xs : List X) (i : ℕ) (d : X) → i < length xs → p (get_or xs i d) ≡ true → position_or_len p xs ≡ i + position_or_len p (drop i xs) → position p xs ≡ Some i
place_found {X} p xs i d h hit so =
    let at : position_or_len p xs ≡ i = so ∙ ap (λ (n : ℕ). i + n) (prefix_len-drop_no (λ x. not (p x)) xs i d h (ap not hit)) ∙ omega arith in
    rw (at, lt-ltb i (length xs) h) refl

pub place_missing : {X : Type 0} (p : X → Bool) (xs : List X) (i : ℕ) → length xs ≤ i → position_or_len p xs ≡ i + position_or_len p (drop i xs) → position p xs ≡ None
place_missing {X} p xs i h so =
    let past : length xs ≤ position_or_len p xs = omega (arith, so) in
    rw (le-ltb (position_or_len p xs) (length xs) past) refl
