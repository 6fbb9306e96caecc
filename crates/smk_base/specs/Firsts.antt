-- The distinct members of a list, in the order of their first occurrences, for an equality of the caller's.
use Rattle.std.specs.{Prelude.{Bool, List, [], ◌∷◌, ◌++◌, fold, if◌then◌else◌}, List.list_any}

-- the members with this one added at the end, unless an equal one is there
abbrev pub with_item : {X : Type 0} → (X → X → Bool) → List X → X → List X
with_item eq found item = if list_any (eq item) found then found else found ++ item ∷ []

-- the distinct members, in the order of their first occurrences
abbrev pub first_items : {X : Type 0} → (X → X → Bool) → List X → List X
first_items eq items = fold (with_item eq) [] items
