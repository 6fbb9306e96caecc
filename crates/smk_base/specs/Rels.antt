-- What a Rel means: kinds of columns and rows of values that fit them.
use Rattle.std.specs.{Prelude.{◌≡◌, ℕ, zero, suc, ◌+◌, ◌*◌, ◌^◌, ◌<◌, ◌≤◌, ℤ, pos, neg_ℤ, ◌≤ℤ◌, ◌+ℤ◌, FitsSigned, List, [], ◌∷◌, ◌++◌, length, map, slice_index, slice_index_or, All}, List.AllZip, Int.{w64, int_div_euclid}}
use Rattle.smk_base.specs.{declared.value.Kind.Kind, declared.value.Value.Value, declared.rel.TheConstants.{COLUMN_LIMIT, ROW_LIMIT}}
use Rattle.smk_base.specs.declared.value.Kind.TheVariants as kinds
use Rattle.smk_base.specs.declared.value.Value.TheVariants as values

-- a relation: the kind of each column, and the rows
pub record Relation : Type 0 where
  pub kinds : List Kind
  pub rows : List (List Value)

-- whether an int is in the range of its level: that of i64 at level 0, and at most 2^(63 + 20 level) in size above
abbrev pub IsWithin : ℕ → ℤ → Type 0
IsWithin zero n = FitsSigned w64 n
IsWithin (suc k) n = (neg_ℤ (pos (2 ^ (63 + 20 * suc k))) ≤ℤ n) × (n ≤ℤ pos (2 ^ (63 + 20 * suc k)))

-- whether a value fits a kind
abbrev pub Fits : Kind → Value → Type 0
Fits (kinds.Int level) (values.Int n) = IsWithin level n
Fits kinds.Text (values.Text t) = Unit {0}
Fits _ _ = ⊥

-- whether a row has one value for each kind, and each fits
abbrev pub RowFits : List Kind → List Value → Type 0
RowFits = AllZip Fits

-- whether a kind is a text or has a level of at most 3
abbrev pub IsColumn : Kind → Type 0
IsColumn (kinds.Int level) = level ≤ 3
IsColumn kinds.Text = Unit {0}

-- what every Rel keeps: the limits of columns, levels and rows, and rows that fit
pub record IsRelation (relation : Relation) : Type 0 where
  pub few_columns : length relation.kinds ≤ COLUMN_LIMIT
  pub low_levels : All IsColumn relation.kinds
  pub few_rows : length relation.rows ≤ ROW_LIMIT
  pub fit : All (RowFits relation.kinds) relation.rows

-- the kind of column c
abbrev pub kind_in : List Kind → ℕ → Kind
kind_in of_columns c = slice_index_or of_columns c kinds.Text

-- row i
abbrev pub row_in : List (List Value) → ℕ → List Value
row_in rows i = slice_index_or rows i []

-- the value in column c of a row
abbrev pub value_in : List Value → ℕ → Value
value_in row c = slice_index_or row c (values.Int (pos 0))

-- the values in column c of rows
abbrev pub column_values : ℕ → List (List Value) → List Value
column_values c rows = map (λ row. value_in row c) rows

-- the text of a value, and none for an int
abbrev pub text_of : Value → List ℕ
text_of (values.Int n) = []
text_of (values.Text t) = t

-- the texts in column c of rows
abbrev pub column_texts : ℕ → List (List Value) → List (List ℕ)
column_texts c rows = map (λ row. text_of (value_in row c)) rows

-- the number of a value, and 0 for a text
abbrev pub number_of : Value → ℤ
number_of (values.Int n) = n
number_of (values.Text t) = pos 0

-- the number of the bin, of this width, that a value falls into: the quotient rounded down
abbrev pub bin_of : ℤ → Value → Value
bin_of width value = values.Int (int_div_euclid (number_of value) width)

-- whether these are the bins of least, least + 1, and so on
abbrev pub AreBinsFrom : ℤ → ℤ → List ℤ → Type 0
AreBinsFrom least width bins = (k : ℕ) → k < length bins → slice_index_or bins k (pos 0) ≡ int_div_euclid (least +ℤ pos k) width

-- the rows at these places
abbrev pub rows_at : List (List Value) → List ℕ → List (List Value)
rows_at rows places = map (row_in rows) places

-- the values of a row at these columns
abbrev pub picked : List ℕ → List Value → List Value
picked cols row = map (value_in row) cols

-- each row followed by the other's row at the same place
abbrev pub beside_rows : List (List Value) → List (List Value) → List (List Value)
beside_rows (left ∷ lefts) (right ∷ rights) = (left ++ right) ∷ beside_rows lefts rights
beside_rows _ _ = []

-- whether the left kind takes every value that the right one takes
abbrev pub IsWider : Kind → Kind → Type 0
IsWider (kinds.Int a) (kinds.Int b) = b ≤ a
IsWider kinds.Text kinds.Text = Unit {0}
IsWider _ _ = ⊥

-- codes that are equal exactly where the values are
pub record AreCodesOf (of_values : List Value) (codes : List ℕ) : Type 0 where
  pub long : length codes ≡ length of_values
  pub same : (i j : ℕ) → i < length of_values → j < length of_values → slice_index codes i ≡ slice_index codes j → value_in of_values i ≡ value_in of_values j
  pub alike : (i j : ℕ) → i < length of_values → j < length of_values → value_in of_values i ≡ value_in of_values j → slice_index codes i ≡ slice_index codes j
