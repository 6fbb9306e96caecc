-- What contracts see of a column.
use Rattle.std.specs.Prelude.{ℕ, Bool, List, Option}
use Rattle.smk_base.specs.{declared.value.Kind.Kind, declared.value.Value.Value}

-- the kind and the values of a column, how many more values fit without memory, the text that fits, and whether the column owns its values alone
pub record ColumnImage : Type 0 where
  pub kind : Kind
  pub cells : List Value
  pub room : ℕ
  pub next : Option (List ℕ)
  pub own : Bool
