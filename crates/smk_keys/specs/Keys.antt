-- Distinct keys in the order in which they came.
use Rattle.std.specs.{Prelude.{ℕ, Bool, List, [], ◌∷◌, ◌++◌, Option, position, if◌then◌else◌}, Cmp.Lexicographic.pointwise, List.{list_any, position_or_len, IsDistinct}}
use Rattle.smk_base.specs.{declared.value.Value.Value, Values.value_eq}

-- whether two keys are equal, value by value
abbrev pub key_eq : List Value → List Value → Bool
key_eq = pointwise value_eq

-- the place of a key, or None if it isn't there
abbrev pub place_of : List (List Value) → List Value → Option ℕ
place_of keys key = position (key_eq key) keys

-- the place that a key has once it is there: its own, or after the last
abbrev pub place_or_last : List (List Value) → List Value → ℕ
place_or_last keys key = position_or_len (key_eq key) keys

-- the keys with this one: as they are if it is there, else with it at the end
abbrev pub with_key : List (List Value) → List Value → List (List Value)
with_key keys key = if list_any (key_eq key) keys then keys else keys ++ key ∷ []

-- no two keys are equal
abbrev pub AreKeys : List (List Value) → Type 0
AreKeys keys = IsDistinct key_eq keys
