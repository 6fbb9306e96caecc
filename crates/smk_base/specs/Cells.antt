-- Cells against values.
use Rattle.std.specs.Prelude.{ℕ, List, pos, slice_index_or}
use Rattle.smk_base.specs.{declared.value.Value.Value, declared.value.CellRef.CellRef}
use Rattle.smk_base.specs.declared.value.Value.TheVariants as values
use Rattle.smk_base.specs.declared.value.CellRef.TheVariants as cells

-- the int or the text of a cell
abbrev pub value_of_cell : CellRef → Value
value_of_cell (cells.Int number) = values.Int number
value_of_cell (cells.Text bytes) = values.Text bytes.now

-- the cell at a place, and 0 past the last
abbrev pub cell_in : List CellRef → ℕ → CellRef
cell_in of_cells place = slice_index_or of_cells place (cells.Int (pos 0))
