-- The lists of a map, split by the values that their rids have in a column of a table.
use Rattle.std.specs.Prelude.{ℕ, List}
use Rattle.smk_base.specs.{Places.{Lists, members_at}, declared.value.Value.Value}
use Rattle.smk_model.specs.{Values.Row, Replies.with_value}

-- a map to the rows of a table, and the column that it is split by
pub record SplitImage : Type 0 where
  pub map : Lists
  pub rows : List Row
  pub col : ℕ

-- the members of the lists at these marks whose row has the value in the column
abbrev pub members_with : SplitImage → List ℕ → Value → List ℕ
members_with split marks value = with_value split.rows split.col value (members_at split.map marks)
