-- A row that is put into columns value by value.
use Rattle.std.proofs.{Common.{◌≡◌, ℕ, ◌<◌, List, length, map, sym, subst, ◌∙◌, arith, pos, take}, lemmas.List.{get_or-map, length-map}, lemmas.Slice.Zip.AllZip-long}
use Rattle.smk_base.specs.{declared.value.CellRef.CellRef, declared.value.Kind.Kind, declared.value.Value.Value, Cells.{value_of_cell, cell_in}, Rels.{Fits, RowFits, kind_in, value_in}, Images.ColumnImage, Relations.{column_in, kinds_of, AreMade, AreLonger}}
use Rattle.smk_base.specs.declared.value.Kind.TheVariants as kinds
use Rattle.smk_base.specs.declared.value.Value.TheVariants as values
use Rattle.smk_base.proofs.RelRows.{AllZip-at}

pub wide_row : (columns : List ColumnImage) (row : List Value) → RowFits (kinds_of columns) row → length row ≡ length columns
wide_row columns row fits = AllZip-long Fits (kinds_of columns) row fits ∙ length-map columns (λ column. column.kind)

pub kind_in-kinds_of : (columns : List ColumnImage) (c : ℕ) → c < length columns → kind_in (kinds_of columns) c ≡ (column_in columns c).kind
kind_in-kinds_of columns c h = get_or-map (λ column. column.kind) columns c _ kinds.Text h

-- a value of a row that fits fits its column
pub fits_at : (columns : List ColumnImage) (row : List Value) (c : ℕ) → RowFits (kinds_of columns) row → c < length columns → Fits (column_in columns c).kind (value_in row c)
fits_at columns row c fits h =
    let kind = kind_in-kinds_of columns c h in
    let long : c < length (kinds_of columns) = omega (arith, h, length-map columns (λ column. column.kind)) in
    subst (λ k. Fits k (value_in row c)) kind (AllZip-at Fits (kinds_of columns) row c kinds.Text (values.Int (pos 0)) fits long)

-- cut to the rows that all of them had, they are as before
pub AreMade-first : (count : ℕ) (old now made : List ColumnImage) → AreLonger count old now
    → AreMade count (length now) (λ k. (column_in now k).kind) (λ k. take count (column_in now k).cells) made → AreMade count (length old) (λ k. (column_in old k).kind) (λ k. (column_in old k).cells) made
AreMade-first count old now made longer so = record {
  long = so.long ∙ longer.long;
  kinds = λ k p. so.kinds k (omega (arith, longer.long)) ∙ longer.kinds k p;
  cells = λ k p. so.cells k (omega (arith, longer.long)) ∙ longer.first k p;
  each = so.each;
}

-- the values of cells
pub value_in-cells : (cells : List CellRef) (k : ℕ) → k < length cells → value_in (map value_of_cell cells) k ≡ value_of_cell (cell_in cells k)
value_in-cells cells k h = get_or-map value_of_cell cells k _ (values.Int (pos 0)) h

pub long_cells : (columns : List ColumnImage) (cells : List CellRef) → RowFits (kinds_of columns) (map value_of_cell cells) → length cells ≡ length columns
long_cells columns cells fits = sym (length-map cells value_of_cell) ∙ wide_row columns (map value_of_cell cells) fits

pub cells_fit : (columns : List ColumnImage) (cells : List CellRef) → RowFits (kinds_of columns) (map value_of_cell cells) → (k : ℕ) → k < length columns → Fits (column_in columns k).kind (value_of_cell (cell_in cells k))
cells_fit columns cells fits k h =
    let low : k < length cells = omega (arith, h, long_cells columns cells fits) in
    subst (Fits (column_in columns k).kind) (value_in-cells cells k low) (fits_at columns (map value_of_cell cells) k fits h)

-- columns of the same cells at other words for them
pub AreMade-alike : (count n : ℕ) (kind : ℕ → Kind) (cells others : ℕ → List Value) (made : List ColumnImage) → ((k : ℕ) → k < n → cells k ≡ others k) → AreMade count n kind cells made → AreMade count n kind others made
AreMade-alike count n kind cells others made same so = record { long = so.long; kinds = so.kinds; cells = λ k h. so.cells k h ∙ same k h; each = so.each }
