-- Columns of values.
use Rattle.std.specs.Prelude.{◌≡◌, ℕ, ◌<◌, ◌≤◌, Some, length, All}
use Rattle.smk_base.specs.declared.value.Kind.TheVariants as kinds
use Rattle.smk_base.specs.{declared.value.Value.Value, Rels.{IsColumn, Fits, text_of}, Images.ColumnImage, declared.rel.TheConstants.ROW_LIMIT}

-- a column of this many values, each of the column's kind
pub record IsColumnOf (count : ℕ) (column : ColumnImage) : Type 0 where
  pub long : length column.cells ≡ count
  pub few : count ≤ ROW_LIMIT
  pub low : IsColumn column.kind
  pub fit : All (Fits column.kind) column.cells

-- whether a value can be appended without memory
pub record IsReady (column : ColumnImage) (value : Value) : Type 0 where
  pub room : 0 < column.room
  pub next : column.kind ≡ kinds.Text → column.next ≡ Some (text_of value)
