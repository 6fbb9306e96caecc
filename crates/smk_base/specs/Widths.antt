-- Whether two kinds are comparable, and the kind that takes the values of both.
use Rattle.std.specs.Prelude.{T, max, Bool, true, false}
use Rattle.smk_base.specs.{declared.value.Kind.Kind, declared.value.Kind.TheVariants.{Int, Text}}

-- whether both are ints, of any levels, or both texts
abbrev pub same_sort : Kind → Kind → Bool
same_sort (Int a) (Int b) = true
same_sort Text Text = true
same_sort _ _ = false

-- both ints or both texts
abbrev pub AreAlike : Kind → Kind → Type 0
AreAlike left right = T (same_sort left right)

-- the kind that takes the values of both: for ints, the greater level
abbrev pub wider : Kind → Kind → Kind
wider (Int a) (Int b) = Int (max a b)
wider (Int a) Text = Int a
wider Text right = Text
