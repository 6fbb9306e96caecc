-- Lists that loops make item by item.
use Rattle.std.proofs.{Common.{◌≡◌, ◌∙◌, ◌<◌, ◌+◌, ◌++◌, ◌∷◌, [], ℕ, List, length, map, take, get_or, ap, sym}, lemmas.List.map_more}

-- one more image
pub mapped_next : {X Y : Type 0} (f : X → Y) (xs : List X) (now : List Y) (i : ℕ) (y : Y) (d : X) → i < length xs → y ≡ f (get_or xs i d) → now ≡ map f (take i xs) → now ++ y ∷ [] ≡ map f (take (i + 1) xs)
mapped_next {X} {Y} f xs now i y d h at is = ap (λ (z : List Y). z ++ y ∷ []) is ∙ ap (λ (w : Y). map f (take i xs) ++ w ∷ []) at ∙ sym (map_more f xs i d h)
