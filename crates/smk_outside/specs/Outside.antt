-- What a call to the outside may do to a count of faults and to the bytes of a sink, and what it may say of a file.
use Rattle.std.specs.Prelude.{ℕ, ◌≡◌, ◌+◌, ◌<◌, min, ◌⊎◌, ⊤, List, ◌++◌, take, Option, Some, None, IsSomeAnd}

-- the count has risen in the call, or stands at the last value that 64 bits can hold
abbrev pub Rose : ℕ → ℕ → Type 0
Rose before after = (before < after) ⊎ (after ≡ 18446744073709551615)

-- the object tells its files, and has none of this name
abbrev pub IsMissing : Option (List ℕ → Option (List ℕ)) → List ℕ → Type 0
IsMissing None name = ⊥
IsMissing (Some files) name = files name ≡ None

-- where the object tells its files, the file of this name is there, and these are its first `limit + 1` bytes, or all of them where it has fewer
abbrev pub IsFrontOf : Option (List ℕ → Option (List ℕ)) → List ℕ → ℕ → List ℕ → Type 0
IsFrontOf None name limit front = ⊤
IsFrontOf (Some files) name limit front = IsSomeAnd (files name) (λ whole. front ≡ take (limit + 1) whole)

-- these bytes were appended, where the object tells what was written; it doesn't begin or stop telling
abbrev pub Appends : Option (List ℕ) → Option (List ℕ) → List ℕ → Type 0
Appends None None bytes = ⊤
Appends (Some before) (Some after) bytes = after ≡ before ++ bytes
Appends _ _ bytes = ⊥

-- the whole begins with this part
abbrev pub IsPrefix : List ℕ → List ℕ → Type 0
IsPrefix part whole = (rest : List ℕ) × (whole ≡ part ++ rest)

-- some of these bytes were appended, from the first on
abbrev pub AppendsPart : Option (List ℕ) → Option (List ℕ) → List ℕ → Type 0
AppendsPart before after bytes = (part : List ℕ) × IsPrefix part bytes × Appends before after part

-- the count after one more, which stays at the last value that 64 bits can hold
abbrev pub next_count : ℕ → ℕ
next_count count = min (count + 1) 18446744073709551615
