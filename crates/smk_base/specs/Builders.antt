-- Rows that are built value by value.
use Rattle.std.specs.{Prelude.{ℕ, ◌+◌, ◌<◌, ◌≤◌, List, length, map}, List.range_with_len}
use Rattle.smk_base.specs.{declared.value.Kind.Kind, declared.value.Value.Value, Rels.value_in, Images.ColumnImage, Columns.IsColumnOf, Relations.{column_in, kinds_of, rows_of}, declared.rel.TheConstants.{COLUMN_LIMIT, ROW_LIMIT}}

-- the kinds, the complete rows, and the values so far of the row that is being built
pub record RowsBegun : Type 0 where
  pub kinds : List Kind
  pub rows : List (List Value)
  pub begun : List Value

-- the values in row `count` of the first `at` columns
abbrev pub begun_in : ℕ → ℕ → List ColumnImage → List Value
begun_in count at columns = map (λ c. value_in (column_in columns c).cells count) (range_with_len 0 at)

abbrev pub rows_begun : ℕ → ℕ → List ColumnImage → RowsBegun
rows_begun count at columns = record { kinds = kinds_of columns; rows = rows_of count columns; begun = begun_in count at columns }

-- at most 16 columns with `count` rows each, and one value more in the first `at` of them
pub record AreBegun (count at : ℕ) (columns : List ColumnImage) : Type 0 where
  pub few_columns : length columns ≤ COLUMN_LIMIT
  pub few_rows : count ≤ ROW_LIMIT
  pub within : at ≤ length columns
  pub longer : (k : ℕ) → k < at → IsColumnOf (count + 1) (column_in columns k)
  pub rest : (k : ℕ) → at ≤ k → k < length columns → IsColumnOf count (column_in columns k)
