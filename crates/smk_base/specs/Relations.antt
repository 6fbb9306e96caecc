-- Relations stored as columns.
use Rattle.std.specs.{Prelude.{◌≡◌, ℕ, ◌<◌, ◌≤◌, true, List, [], length, map, take, None, slice_index_or, All}, List.range_with_len}
use Rattle.smk_base.specs.{declared.value.Kind.Kind, declared.value.Value.Value, Rels.{Relation, value_in}, Images.ColumnImage, Columns.IsColumnOf, declared.rel.TheConstants.{COLUMN_LIMIT, ROW_LIMIT}}
use Rattle.smk_base.specs.declared.value.Kind.TheVariants as kinds

-- column c
abbrev pub column_in : List ColumnImage → ℕ → ColumnImage
column_in columns c = slice_index_or columns c (record { kind = kinds.Text; cells = []; room = 0; next = None; own = true })

abbrev pub kinds_of : List ColumnImage → List Kind
kinds_of columns = map (λ column. column.kind) columns

-- row i: the value of each column there
abbrev pub row_at : List ColumnImage → ℕ → List Value
row_at columns i = map (λ column. value_in column.cells i) columns

-- the first rows of columns
abbrev pub rows_of : ℕ → List ColumnImage → List (List Value)
rows_of count columns = map (row_at columns) (range_with_len 0 count)

abbrev pub relation_of : ℕ → List ColumnImage → Relation
relation_of count columns = record { kinds = kinds_of columns; rows = rows_of count columns }

-- at most 16 columns with `count` values each, of the column's kind
pub record AreColumns (count : ℕ) (columns : List ColumnImage) : Type 0 where
  pub few_columns : length columns ≤ COLUMN_LIMIT
  pub few_rows : count ≤ ROW_LIMIT
  pub each : All (IsColumnOf count) columns

-- columns by place: their number, and the kind and the cells of the k-th
pub record AreMade (count n : ℕ) (kind_at : ℕ → Kind) (cells_at : ℕ → List Value) (made : List ColumnImage) : Type 0 where
  pub long : length made ≡ n
  pub kinds : (k : ℕ) → k < n → (column_in made k).kind ≡ kind_at k
  pub cells : (k : ℕ) → k < n → (column_in made k).cells ≡ cells_at k
  pub each : All (IsColumnOf count) made

-- columns that begin with the old rows; those with more rows own their values alone
pub record AreLonger (count : ℕ) (old now : List ColumnImage) : Type 0 where
  pub long : length now ≡ length old
  pub kinds : (k : ℕ) → k < length old → (column_in now k).kind ≡ (column_in old k).kind
  pub longer : (k : ℕ) → k < length old → count ≤ length (column_in now k).cells
  pub own : (k : ℕ) → k < length old → count < length (column_in now k).cells → (column_in now k).own ≡ true
  pub first : (k : ℕ) → k < length old → take count (column_in now k).cells ≡ (column_in old k).cells
