-- Rows numbered part by part, before equal keys of different parts have one number.
use Rattle.std.specs.Prelude.{ℕ, ◌+◌, List, [], ◌∷◌, ◌++◌, length, map, sum_by}
use Rattle.smk_keys.specs.Classes.{ClassesImage}

-- how many keys these parts have
abbrev pub key_total : List ClassesImage → ℕ
key_total = sum_by (λ part. length part.firsts)

-- the numbers of the rows of these parts, one part after the other: each class, plus the first number and the keys of the parts before it
abbrev pub numbers_from : ℕ → List ClassesImage → List ℕ
numbers_from base [] = []
numbers_from base (part ∷ parts) = map (λ x. base + x) part.of ++ numbers_from (base + length part.firsts) parts
