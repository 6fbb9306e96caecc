-- How a number of rows is cut into parts, and what the parts have made.
use Rattle.std.specs.Prelude.{◌≡◌, ℕ, ◌<◌, ◌*◌, ◌/◌, List, length, slice_index_or}

-- where part p of so many begins among n places: at p of so many parts of n, rounded down
abbrev pub cut_at : ℕ → ℕ → ℕ → ℕ
cut_at workers n p = (p * n) / workers

-- that these were made by n parts, in the order of their numbers: what part p has made is what f says of p
abbrev pub AreParts : {X : Type 0} → (ℕ → X → Type 0) → ℕ → List X → Type 0
AreParts {X} f n made = (length made ≡ n) × ((p : ℕ) (d : X) → p < n → f p (slice_index_or made p d))
