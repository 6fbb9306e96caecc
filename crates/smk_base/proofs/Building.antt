-- Rows that grow value by value.
use Rattle.std.proofs.{Common.{◌≡◌, ◌≢◌, ℕ, ◌+◌, ◌<◌, List, [], ◌∷◌, ◌++◌, length, set, get_or, refl, ap, sym, ◌∙◌, arith, All, inl, inr, pos}, lemmas.Bool.{cases_eq, cases_lt}, lemmas.List.{length-map, length-set, length_push, get_or-set_same, get_or-set_other, get_or_push, get_or_append_left, get_or_read}, lemmas.List.Elements.All-from_get_or, lemmas.List.FromFn.{length-map-range_with_len, get_or-map-range_with_len, fill_by_all}}
use Rattle.smk_base.specs.{declared.value.Kind.Kind, declared.value.Value.Value, Rels.{kind_in, value_in}, Images.ColumnImage, Columns.IsColumnOf, Relations.{column_in, kinds_of, row_at, rows_of, relation_of, AreMade}, Builders.{RowsBegun, begun_in, rows_begun, AreBegun}}
use Rattle.smk_base.specs.declared.value.Value.TheVariants as values
use Rattle.smk_base.proofs.{Kept.IsColumnOf-same, Pushed.kind_in-kinds_of, Rows.{length-rows_of, row_in-rows_of, value_in-row_at, kinds_is, row_is}, Relating.made-new}

abbrev none : Value
none = values.Int (pos 0)

pub length-begun_in : (count at : ℕ) (columns : List ColumnImage) → length (begun_in count at columns) ≡ at
length-begun_in count at columns = length-map-range_with_len (λ c. value_in (column_in columns c).cells count) 0 at

value_in-begun_in : (count at : ℕ) (columns : List ColumnImage) (c : ℕ) → c < at → value_in (begun_in count at columns) c ≡ value_in (column_in columns c).cells count
value_in-begun_in count at columns c h = get_or-map-range_with_len (λ c. value_in (column_in columns c).cells count) 0 at c c none h (omega arith)

pub rows_begun-new : (ks : List Kind) (made : List ColumnImage) → AreMade 0 (length ks) (kind_in ks) (λ k. []) made → rows_begun 0 0 made ≡ record { kinds = ks; rows = []; begun = [] }
rows_begun-new ks made so =
    let same = made-new ks made so in
    (λ j. record { kinds = (same j).kinds; rows = (same j).rows; begun = [] })

-- a column with one more value
pub record IsLonger (count : ℕ) (old now : ColumnImage) (v : Value) : Type 0 where
  pub kind : now.kind ≡ old.kind
  pub cells : now.cells ≡ old.cells ++ v ∷ []
  pub keeps : IsColumnOf (count + 1) now

-- a column with the same values
pub record IsSame (old now : ColumnImage) : Type 0 where
  pub kind : now.kind ≡ old.kind
  pub cells : now.cells ≡ old.cells

-- one column in place of another
other_column : (columns : List ColumnImage) (at : ℕ) (column : ColumnImage) (k : ℕ) → k ≢ at → column_in (set columns at column) k ≡ column_in columns k
other_column columns at column k ne = get_or-set_other columns at k column _ ne

same_column : (columns : List ColumnImage) (at : ℕ) (column : ColumnImage) → at < length columns → column_in (set columns at column) at ≡ column
same_column columns at column h = get_or-set_same columns at column _ h

-- columns of the same kinds whose first values are the same have the same first rows
relation-same : (count : ℕ) (columns now : List ColumnImage) → length now ≡ length columns → ((c : ℕ) → (column_in now c).kind ≡ (column_in columns c).kind)
    → ((i c : ℕ) → i < count → value_in (column_in now c).cells i ≡ value_in (column_in columns c).cells i) → relation_of count now ≡ relation_of count columns
relation-same count columns now wide kind before =
    let kinds_same : kinds_of now ≡ kinds_of columns = kinds_is now (kinds_of columns) (length-map columns (λ column. column.kind) ∙ sym wide) (λ c p. kind_in-kinds_of columns c (omega (arith, wide)) ∙ sym (kind c)) in
    let rows_same : rows_of count columns ≡ rows_of count now = fill_by_all (row_at now) (rows_of count columns) count [] (length-rows_of count columns)
    (λ i p. row_in-rows_of count columns i p ∙ row_is now i (row_at columns i) (length-map columns (λ column. value_in column.cells i) ∙ sym wide)
    (λ c q. value_in-row_at columns i c (omega (arith, wide)) ∙ sym (before i c p))) in
    (λ j. record { kinds = kinds_same j; rows = sym rows_same j })

AreBegun-push : (count at : ℕ) (columns : List ColumnImage) (column : ColumnImage) (v : Value) → AreBegun count at columns → at < length columns → IsLonger count (column_in columns at) column v
    → AreBegun count (at + 1) (set columns at column)
AreBegun-push count at columns column v is h so =
    let here = same_column columns at column h in
    let long = length-set columns at column in
    record {
      few_columns = omega (arith, long, is.few_columns);
      few_rows = is.few_rows;
      within = omega (arith, long);
      longer = λ k p. elim (cases_eq k at) [ inl e ↦ rw (e, here) so.keeps | inr ne ↦ (let o = other_column columns at column k ne in rw o (is.longer k (omega arith))) ];
      rest = λ k p q. (let ne : k ≢ at = omega arith in rw (other_column columns at column k ne) (is.rest k (omega arith) (omega (arith, long))));
    }

rows_begun-push : (count at : ℕ) (columns : List ColumnImage) (column : ColumnImage) (v : Value) → AreBegun count at columns → at < length columns → IsLonger count (column_in columns at) column v
    → rows_begun count (at + 1) (set columns at column) ≡ record { kinds = kinds_of columns; rows = rows_of count columns; begun = begun_in count at columns ++ v ∷ [] }
rows_begun-push count at columns column v is h so =
    let now = set columns at column in
    let here = same_column columns at column h in
    let other : (k : ℕ) → k ≢ at → column_in now k ≡ column_in columns k = other_column columns at column in
    let long : length (column_in columns at).cells ≡ count = (is.rest at (omega arith) h).long in
    let kind : (c : ℕ) → (column_in now c).kind ≡ (column_in columns c).kind = (λ c. elim (cases_eq c at) [ inl e ↦ rw (e, here) so.kind | inr ne ↦ (let o = other c ne in rw o refl) ]) in
    let before : (i c : ℕ) → i < count → value_in (column_in now c).cells i ≡ value_in (column_in columns c).cells i = (λ i c p. elim (cases_eq c at) [
      | inl e ↦ rw (e, here, so.cells) (get_or_append_left (column_in columns at).cells (v ∷ []) none i (omega (arith, long)))
      | inr ne ↦ (let o = other c ne in rw o refl)
    ]) in
    let same = relation-same count columns now (length-set columns at column) kind before in
    let begun = begun_in count at columns in
    let size = length-begun_in count at columns in
    let last : value_in (column_in now at).cells count ≡ v = rw (here, so.cells) (get_or_push (column_in columns at).cells v none count long) in
    let begun_same : begun ++ v ∷ [] ≡ begun_in count (at + 1) now = fill_by_all (λ c. value_in (column_in now c).cells count) (begun ++ v ∷ []) (at + 1) none (omega (arith, length_push begun v, size))
    (λ k p. elim (cases_lt k at) [
      | inl less ↦ (let ne : k ≢ at = omega arith in
          get_or_append_left begun (v ∷ []) none k (omega (arith, size)) ∙ value_in-begun_in count at columns k less ∙ sym (ap (λ (column : ColumnImage). value_in column.cells count) (other k ne)))
      | inr more ↦ (let e : k ≡ at = omega arith in rw e (get_or_push begun v none at size ∙ sym last))
    ]) in
    (λ j. record { kinds = (same j).kinds; rows = (same j).rows; begun = sym begun_same j })

AreBegun-kept : (count at : ℕ) (columns : List ColumnImage) (column : ColumnImage) → AreBegun count at columns → at < length columns → IsSame (column_in columns at) column
    → AreBegun count at (set columns at column)
AreBegun-kept count at columns column is h so =
    let here = same_column columns at column h in
    let long = length-set columns at column in
    let same = IsColumnOf-same count (column_in columns at) column so.kind so.cells (is.rest at (omega arith) h) in
    record {
      few_columns = omega (arith, long, is.few_columns);
      few_rows = is.few_rows;
      within = omega (arith, long);
      longer = λ k p. (let ne : k ≢ at = omega arith in rw (other_column columns at column k ne) (is.longer k p));
      rest = λ k p q. elim (cases_eq k at) [ inl e ↦ rw (e, here) same | inr ne ↦ (let o = other_column columns at column k ne in rw o (is.rest k p (omega (arith, long)))) ];
    }

rows_begun-kept : (count at : ℕ) (columns : List ColumnImage) (column : ColumnImage) → at < length columns → IsSame (column_in columns at) column → rows_begun count at (set columns at column) ≡ rows_begun count at columns
rows_begun-kept count at columns column h so =
    let now = set columns at column in
    let here = same_column columns at column h in
    let each : (c : ℕ) → IsSame (column_in columns c) (column_in now c) = (λ c. elim (cases_eq c at) [ inl e ↦ rw (e, here) so | inr ne ↦ (let o = other_column columns at column c ne in rw o (record { kind = refl; cells = refl })) ]) in
    let same = relation-same count columns now (length-set columns at column) (λ c. (each c).kind) (λ i c p. ap (λ (cells : List Value). value_in cells i) (each c).cells) in
    let begun_same : begun_in count at columns ≡ begun_in count at now = fill_by_all (λ c. value_in (column_in now c).cells count) (begun_in count at columns) at none (length-begun_in count at columns)
    (λ k p. value_in-begun_in count at columns k p ∙ sym (ap (λ (cells : List Value). value_in cells count) (each k).cells)) in
    (λ j. record { kinds = (same j).kinds; rows = (same j).rows; begun = sym begun_same j })

pub AreBegun-end : (count at : ℕ) (columns : List ColumnImage) → AreBegun count at columns → at ≡ length columns → count < 1048576 → AreBegun (count + 1) 0 columns
AreBegun-end count at columns is whole room = record {
  few_columns = is.few_columns;
  few_rows = omega arith;
  within = omega arith;
  longer = λ k p. absurd (omega arith);
  rest = λ k p q. is.longer k (omega arith);
}

pub rows_begun-end : (count at : ℕ) (columns : List ColumnImage) → at ≡ length columns
    → rows_begun (count + 1) 0 columns ≡ record { kinds = kinds_of columns; rows = rows_of count columns ++ begun_in count at columns ∷ []; begun = [] }
rows_begun-end count at columns whole =
    let rows = rows_of count columns in
    let row = begun_in count at columns in
    let long = length-rows_of count columns in
    let is : row ≡ row_at columns count = row_is columns count row (length-begun_in count at columns ∙ whole) (λ c p. value_in-begun_in count at columns c (omega arith)) in
    let same : rows ++ row ∷ [] ≡ rows_of (count + 1) columns = fill_by_all (row_at columns) (rows ++ row ∷ []) (count + 1) [] (omega (arith, length_push rows row, long))
    (λ i p. elim (cases_lt i count) [
      | inl less ↦ get_or_append_left rows (row ∷ []) [] i (omega (arith, long)) ∙ row_in-rows_of count columns i less
      | inr more ↦ (let e : i ≡ count = omega arith in rw e (get_or_push rows row [] count long ∙ is))
    ]) in
    (λ j. record { kinds = kinds_of columns; rows = sym same j; begun = [] })

pub each-ended : (count at : ℕ) (columns : List ColumnImage) → AreBegun count at columns → begun_in count at columns ≡ [] → All (IsColumnOf count) columns
each-ended count at columns is e =
    let none_begun : at ≡ 0 = sym (length-begun_in count at columns) ∙ ap length e in
    All-from_get_or (IsColumnOf count) columns _ (λ k p. is.rest k (omega (arith, none_begun)) p)

-- what the contracts see, in the words of the fields
pub room-at : (count at : ℕ) (columns : List ColumnImage) (now : RowsBegun) → rows_begun count at columns ≡ now → length now.rows < 1048576 → count < 1048576
room-at count at columns now view h =
    let long : length now.rows ≡ count = sym (ap (λ (z : RowsBegun). length z.rows) view) ∙ length-rows_of count columns in
    omega (arith, h, long)

size-at : (count at : ℕ) (columns : List ColumnImage) (now : RowsBegun) → rows_begun count at columns ≡ now → length now.begun ≡ at
size-at count at columns now view = sym (ap (λ (z : RowsBegun). length z.begun) view) ∙ length-begun_in count at columns

wide-at : (count at : ℕ) (columns : List ColumnImage) (now : RowsBegun) → rows_begun count at columns ≡ now → length now.kinds ≡ length columns
wide-at count at columns now view = sym (ap (λ (z : RowsBegun). length z.kinds) view) ∙ length-map columns (λ column. column.kind)

pub below-at : (count at : ℕ) (columns : List ColumnImage) (now : RowsBegun) → rows_begun count at columns ≡ now → length now.begun < length now.kinds → at < length columns
below-at count at columns now view h = omega (arith, h, size-at count at columns now view, wide-at count at columns now view)

pub whole-at : (count at : ℕ) (columns : List ColumnImage) (now : RowsBegun) → rows_begun count at columns ≡ now → length now.begun ≡ length now.kinds → at ≡ length columns
whole-at count at columns now view h = sym (size-at count at columns now view) ∙ h ∙ wide-at count at columns now view

-- the column that the next value goes to, in rows that contracts see
pub record IsNext (count at : ℕ) (columns : List ColumnImage) (now : RowsBegun) (column : ColumnImage) : Type 0 where
  pub view : rows_begun count at columns ≡ now
  pub are : AreBegun count at columns
  pub low : at < length columns
  pub place : column ≡ column_in columns at

pub next-at : (count at : ℕ) (columns : List ColumnImage) (now : RowsBegun) (column : ColumnImage) → rows_begun count at columns ≡ now → AreBegun count at columns → length now.begun < length now.kinds
    → column ≡ get_or columns at column → IsNext count at columns now column
next-at count at columns now column view are h is =
    let low = below-at count at columns now view h in
    record { view = view; are = are; low = low; place = get_or_read columns at column low is _ }

next_long : (count at : ℕ) (columns : List ColumnImage) (now : RowsBegun) (column : ColumnImage) → IsNext count at columns now column → length column.cells ≡ count
next_long count at columns now column next = rw next.place (next.are.rest at (omega arith) next.low).long

pub next_room : (count at : ℕ) (columns : List ColumnImage) (now : RowsBegun) (column : ColumnImage) → IsNext count at columns now column → length now.rows < 1048576 → length column.cells < 1048576
next_room count at columns now column next h = omega (arith, next_long count at columns now column next, room-at count at columns now next.view h)

pub next_kind : (count at : ℕ) (columns : List ColumnImage) (now : RowsBegun) (column : ColumnImage) → IsNext count at columns now column → column.kind ≡ kind_in now.kinds (length now.begun)
next_kind count at columns now column next =
    ap (λ (column : ColumnImage). column.kind) next.place ∙ sym (kind_in-kinds_of columns at next.low)
    ∙ ap (λ (z : RowsBegun). kind_in z.kinds at) next.view ∙ ap (λ (n : ℕ). kind_in now.kinds n) (sym (size-at count at columns now next.view))

-- the rows where the next value is there
pub record IsGrown (count at : ℕ) (columns : List ColumnImage) (now : RowsBegun) (v : Value) : Type 0 where
  pub are : AreBegun count at columns
  pub view : rows_begun count at columns ≡ record { kinds = now.kinds; rows = now.rows; begun = now.begun ++ v ∷ [] }

pub next_pushed : (count at : ℕ) (columns : List ColumnImage) (now : RowsBegun) (column new : ColumnImage) (v : Value) → IsNext count at columns now column
    → new.kind ≡ column.kind → new.cells ≡ column.cells ++ v ∷ [] → IsColumnOf (length column.cells + 1) new → IsGrown count (at + 1) (set columns at new) now v
next_pushed count at columns now column new v next kind cells keeps =
    let long = next_long count at columns now column next in
    let so : IsLonger count (column_in columns at) new v = record {
      kind = kind ∙ ap (λ (column : ColumnImage). column.kind) next.place;
      cells = cells ∙ ap (λ (column : ColumnImage). column.cells ++ v ∷ []) next.place;
      keeps = rw long at keeps;
    } in
    record {
      are = AreBegun-push count at columns new v next.are next.low so;
      view = rows_begun-push count at columns new v next.are next.low so ∙ ap (λ (z : RowsBegun). (let made : RowsBegun = record { kinds = z.kinds; rows = z.rows; begun = z.begun ++ v ∷ [] } in made)) next.view;
    }

-- the rows where there was no memory for it
pub record IsUnmoved (count at : ℕ) (columns : List ColumnImage) (now : RowsBegun) : Type 0 where
  pub are : AreBegun count at columns
  pub view : rows_begun count at columns ≡ now

pub next_kept : (count at : ℕ) (columns : List ColumnImage) (now : RowsBegun) (column new : ColumnImage) → IsNext count at columns now column
    → new.kind ≡ column.kind → new.cells ≡ column.cells → IsUnmoved count at (set columns at new) now
next_kept count at columns now column new next kind cells =
    let so : IsSame (column_in columns at) new = record { kind = kind ∙ ap (λ (column : ColumnImage). column.kind) next.place; cells = cells ∙ ap (λ (column : ColumnImage). column.cells) next.place } in
    record { are = AreBegun-kept count at columns new next.are next.low so; view = rows_begun-kept count at columns new next.low so ∙ next.view }

pub ended-from : (count at : ℕ) (columns : List ColumnImage) (now : RowsBegun) → rows_begun count at columns ≡ now → length now.begun ≡ length now.kinds
    → rows_begun (count + 1) 0 columns ≡ record { kinds = now.kinds; rows = now.rows ++ now.begun ∷ []; begun = [] }
ended-from count at columns now view h =
    rows_begun-end count at columns (whole-at count at columns now view h) ∙ ap (λ (z : RowsBegun). (let made : RowsBegun = record { kinds = z.kinds; rows = z.rows ++ z.begun ∷ []; begun = [] } in made)) view
