-- Rows of columns.
use Rattle.std.proofs.{Common.{◌≡◌, ℕ, ◌<◌, ◌≤◌, List, [], ◌∷◌, length, ap, sym, ◌∙◌, arith, All, pos}, lemmas.List.{get_or-map, length-map, ext_get_or}, lemmas.List.Elements.{All-map, All-head, All-tail}, lemmas.List.FromFn.{length-map-range_with_len, get_or-map-range_with_len, fill_by_all}}
use Rattle.smk_base.specs.{declared.value.Kind.Kind, declared.value.Value.Value, Rels.{Relation, IsRelation, IsColumn, RowFits, kind_in, row_in, value_in}, Images.ColumnImage, Columns.IsColumnOf, Relations.{column_in, kinds_of, row_at, rows_of, relation_of, AreColumns, AreMade}}
use Rattle.smk_base.specs.declared.value.Kind.TheVariants as kinds
use Rattle.smk_base.specs.declared.value.Value.TheVariants as values
use Rattle.smk_base.proofs.Pushed.{kind_in-kinds_of}

pub length-rows_of : (n : ℕ) (columns : List ColumnImage) → length (rows_of n columns) ≡ n
length-rows_of n columns = length-map-range_with_len (row_at columns) 0 n

pub row_in-rows_of : (n : ℕ) (columns : List ColumnImage) (i : ℕ) → i < n → row_in (rows_of n columns) i ≡ row_at columns i
row_in-rows_of n columns i h = get_or-map-range_with_len (row_at columns) 0 n i i [] h (omega arith)

pub value_in-row_at : (columns : List ColumnImage) (i c : ℕ) → c < length columns → value_in (row_at columns i) c ≡ value_in (column_in columns c).cells i
value_in-row_at columns i c h = get_or-map (λ column. value_in column.cells i) columns c _ (values.Int (pos 0)) h

pub value_in-rows_of : (n : ℕ) (columns : List ColumnImage) (i c : ℕ) → i < n → c < length columns → value_in (row_in (rows_of n columns) i) c ≡ value_in (column_in columns c).cells i
value_in-rows_of n columns i c p q = ap (λ row. value_in row c) (row_in-rows_of n columns i p) ∙ value_in-row_at columns i c q

pub kinds_is : (columns : List ColumnImage) (ks : List Kind) → length ks ≡ length columns → ((c : ℕ) → c < length columns → kind_in ks c ≡ (column_in columns c).kind) → kinds_of columns ≡ ks
kinds_is columns ks long each =
    ext_get_or kinds.Text (kinds_of columns) ks (length-map columns (λ column. column.kind) ∙ sym long)
    (λ c h. let low : c < length columns = omega (arith, h, length-map columns (λ column. column.kind)) in kind_in-kinds_of columns c low ∙ sym (each c low))

pub row_is : (columns : List ColumnImage) (i : ℕ) (row : List Value) → length row ≡ length columns → ((c : ℕ) → c < length columns → value_in row c ≡ value_in (column_in columns c).cells i) → row ≡ row_at columns i
row_is columns i row long each =
    ext_get_or (values.Int (pos 0)) row (row_at columns i) (long ∙ sym (length-map columns (λ column. value_in column.cells i)))
    (λ c h. let low : c < length columns = omega (arith, h, long) in each c low ∙ sym (value_in-row_at columns i c low))

-- columns make a relation that has their kinds and, place by place, their values
pub relation_made : (count n : ℕ) (kind : ℕ → Kind) (cells : ℕ → List Value) (made : List ColumnImage) (rel : Relation) → AreMade count n kind cells made
    → length rel.kinds ≡ n → ((c : ℕ) → c < n → kind_in rel.kinds c ≡ kind c)
    → length rel.rows ≡ count → ((i : ℕ) → i < count → length (row_in rel.rows i) ≡ n) → ((i c : ℕ) → i < count → c < n → value_in (row_in rel.rows i) c ≡ value_in (cells c) i)
    → relation_of count made ≡ rel
relation_made count n kind cells made rel so wide kinds long widths each =
    let same_kinds : kinds_of made ≡ rel.kinds = kinds_is made rel.kinds (wide ∙ sym so.long) (λ c h. let low : c < n = omega (arith, h, so.long) in kinds c low ∙ sym (so.kinds c low)) in
    let same_rows : rel.rows ≡ rows_of count made = fill_by_all (row_at made) rel.rows count [] long (λ i h.
    row_is made i (row_in rel.rows i) (widths i h ∙ sym so.long)
    (λ c p. let low : c < n = omega (arith, p, so.long) in each i c h low ∙ sym (ap (λ cells. value_in cells i) (so.cells c low)))) in
    (λ j. record { kinds = same_kinds j; rows = sym same_rows j })

pub AreColumns-made : (count n : ℕ) (kind : ℕ → Kind) (cells : ℕ → List Value) (made : List ColumnImage) → AreMade count n kind cells made → n ≤ 16 → count ≤ 1048576 → AreColumns count made
AreColumns-made count n kind cells made so few few_rows = record { few_columns = omega (arith, so.long); few_rows = few_rows; each = so.each }

fits-row : (count i : ℕ) (columns : List ColumnImage) → i < count → All (IsColumnOf count) columns → RowFits (kinds_of columns) (row_at columns i)
fits-row count i [] h each = tt
fits-row count i (column ∷ columns) h each =
    let is : IsColumnOf count column = All-head (IsColumnOf count) column columns each in
    (is.fit i (values.Int (pos 0)) (omega (arith, is.long)), fits-row count i columns h (All-tail (IsColumnOf count) column columns each))

pub IsRelation-columns : (count : ℕ) (columns : List ColumnImage) → AreColumns count columns → IsRelation (relation_of count columns)
IsRelation-columns count columns are = record {
  few_columns = omega (arith, length-map columns (λ column. column.kind), are.few_columns);
  low_levels = All-map IsColumn (λ column. column.kind) columns (λ k d h. (are.each k d h).low);
  few_rows = omega (arith, length-rows_of count columns, are.few_rows);
  fit = λ k d h.
      let low : k < count = omega (arith, h, length-rows_of count columns) in
      let row = get_or-map-range_with_len (row_at columns) 0 count k k d low (omega arith) in
      rw row (fits-row count k columns low are.each);
}
