-- The numbers of a column of ints.
use Rattle.std.specs.Prelude.{ℤ, List}
use Rattle.smk_base.specs.{declared.rel.value_column.Ints.Ints, declared.rel.value_column.Ints.TheVariants.{Small, Wide}}

-- the numbers, in 64 bits or in 128
abbrev pub numbers_of : Ints → List ℤ
numbers_of (Small ints) = ints.now
numbers_of (Wide ints) = ints.now
