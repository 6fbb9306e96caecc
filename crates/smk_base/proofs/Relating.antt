-- The relations that the bulk calls make.
use Rattle.std.proofs.{Common.{◌≡◌, ℕ, ℤ, ◌+◌, ◌-◌, ◌<◌, ◌≤◌, List, [], ◌∷◌, ◌++◌, length, map, get_or, refl, ap, sym, subst, ◌∙◌, arith, All, inl, inr, pos, take, None, true}, lemmas.Bool.cases_lt, lemmas.List.{get_or-map, length-map, length-append, length_push, get_or_push, get_or_append_left, get_or-append_right, get_or-take, length-take-le, map-append, map-id, ext_get_or}, lemmas.List.Elements.{All-append, All-map, length_all_zip}, lemmas.List.FromFn.fill_by_all, lemmas.Simd.map-map}
use Rattle.std.specs.List.{range_with_len, AllZip}
use Rattle.smk_base.specs.{declared.value.Kind.Kind, declared.value.Value.Value, Rels.{Relation, Fits, RowFits, IsWider, AreCodesOf, kind_in, row_in, value_in, column_values, text_of, column_texts, bin_of, picked, rows_at, beside_rows}, Dicts.code_or_last, TextColumns.text_in, Images.ColumnImage, Columns.IsColumnOf, Relations.{column_in, kinds_of, row_at, rows_of, relation_of, AreColumns, AreMade}}
use Rattle.smk_base.specs.declared.value.Kind.TheVariants as kinds
use Rattle.smk_base.specs.declared.value.Value.TheVariants as values
use Rattle.smk_base.proofs.{RelRows.AllZip-at, Pushed.{kind_in-kinds_of, wide_row}, Rows.{length-rows_of, row_in-rows_of, value_in-rows_of, relation_made}}

abbrev none : Value
none = values.Int (pos 0)

pub long-at : (n : ℕ) (columns : List ColumnImage) (c : ℕ) → All (IsColumnOf n) columns → c < length columns → length (column_in columns c).cells ≡ n
long-at n columns c each h = (each c (record { kind = kinds.Text; cells = []; room = 0; next = None; own = true }) h).long

pub width-rows_of : (n : ℕ) (columns : List ColumnImage) (i : ℕ) → i < n → length (row_in (rows_of n columns) i) ≡ length columns
width-rows_of n columns i h = ap length (row_in-rows_of n columns i h) ∙ length-map columns (λ column. value_in column.cells i)

wide_kinds : (columns : List ColumnImage) → length (kinds_of columns) ≡ length columns
wide_kinds columns = length-map columns (λ column. column.kind)

pub made-new : (ks : List Kind) (made : List ColumnImage) → AreMade 0 (length ks) (kind_in ks) (λ k. []) made → relation_of 0 made ≡ record { kinds = ks; rows = [] }
made-new ks made so = relation_made 0 (length ks) (kind_in ks) (λ k. []) made (record { kinds = ks; rows = [] }) so refl (λ c h. refl) refl (λ i h. absurd (omega arith)) (λ i c h p. absurd (omega arith))

pub made-copy : (n : ℕ) (columns made : List ColumnImage) → AreMade n (length columns) (λ k. (column_in columns k).kind) (λ k. (column_in columns k).cells) made → relation_of n made ≡ relation_of n columns
made-copy n columns made so =
    relation_made n (length columns) (λ k. (column_in columns k).kind) (λ k. (column_in columns k).cells) made (relation_of n columns) so
    (wide_kinds columns) (kind_in-kinds_of columns) (length-rows_of n columns) (width-rows_of n columns) (λ i c p q. value_in-rows_of n columns i c p q)

pub made-push : (n : ℕ) (columns made : List ColumnImage) (row : List Value) → All (IsColumnOf n) columns → RowFits (kinds_of columns) row
    → AreMade (n + 1) (length columns) (λ k. (column_in columns k).kind) (λ k. (column_in columns k).cells ++ value_in row k ∷ []) made
    → relation_of (n + 1) made ≡ record { kinds = kinds_of columns; rows = rows_of n columns ++ row ∷ [] }
made-push n columns made row each fits so =
    let long = length-rows_of n columns in
    let wide = wide_row columns row fits in
    let last : row_in (rows_of n columns ++ row ∷ []) n ≡ row = get_or_push (rows_of n columns) row [] n long in
    let before : (i : ℕ) → i < n → row_in (rows_of n columns ++ row ∷ []) i ≡ row_in (rows_of n columns) i = (λ i h. get_or_append_left (rows_of n columns) (row ∷ []) [] i (omega (arith, long))) in
    relation_made (n + 1) (length columns) (λ k. (column_in columns k).kind) (λ k. (column_in columns k).cells ++ value_in row k ∷ []) made (record { kinds = kinds_of columns; rows = rows_of n columns ++ row ∷ [] }) so
    (wide_kinds columns) (kind_in-kinds_of columns) (omega (arith, length_push (rows_of n columns) row, long))
    (λ i h. elim (cases_lt i n) [
      | inl less ↦ ap length (before i less) ∙ width-rows_of n columns i less
      | inr more ↦ (let at : i ≡ n = omega arith in rw (at, last) wide)
    ])
    (λ i c h q. elim (cases_lt i n) [
      | inl less ↦ ap (λ r. value_in r c) (before i less) ∙ value_in-rows_of n columns i c less q ∙ sym (get_or_append_left (column_in columns c).cells (value_in row c ∷ []) none i (omega (arith, long-at n columns c each q)))
      | inr more ↦ (
          let at : i ≡ n = omega arith in
          let end = get_or_push (column_in columns c).cells (value_in row c) none n (long-at n columns c each q) in
          rw (at, last, end) refl)
    ])

pub made-gather : (n : ℕ) (columns made : List ColumnImage) (places : List ℕ) → All (λ place. place < n) places
    → AreMade (length places) (length columns) (λ k. (column_in columns k).kind) (λ k. map (value_in (column_in columns k).cells) places) made
    → relation_of (length places) made ≡ record { kinds = kinds_of columns; rows = rows_at (rows_of n columns) places }
made-gather n columns made places within so =
    let at : (i : ℕ) → i < length places → row_in (rows_at (rows_of n columns) places) i ≡ row_in (rows_of n columns) (get_or places i 0) = (λ i h. get_or-map (row_in (rows_of n columns)) places i 0 [] h) in
    relation_made (length places) (length columns) (λ k. (column_in columns k).kind) (λ k. map (value_in (column_in columns k).cells) places) made (record { kinds = kinds_of columns; rows = rows_at (rows_of n columns) places }) so
    (wide_kinds columns) (kind_in-kinds_of columns) (length-map places (row_in (rows_of n columns)))
    (λ i h. ap length (at i h) ∙ width-rows_of n columns (get_or places i 0) (within i 0 h))
    (λ i c h q. ap (λ r. value_in r c) (at i h) ∙ value_in-rows_of n columns (get_or places i 0) c (within i 0 h) q ∙ sym (get_or-map (value_in (column_in columns c).cells) places i 0 none h))

pub made-pick : (n : ℕ) (columns made : List ColumnImage) (cols : List ℕ) → All (λ c. c < length columns) cols
    → AreMade n (length cols) (λ k. (column_in columns (get_or cols k 0)).kind) (λ k. (column_in columns (get_or cols k 0)).cells) made
    → relation_of n made ≡ record { kinds = map (kind_in (kinds_of columns)) cols; rows = map (picked cols) (rows_of n columns) }
made-pick n columns made cols within so =
    let at : (i : ℕ) → i < n → row_in (map (picked cols) (rows_of n columns)) i ≡ picked cols (row_in (rows_of n columns) i) = (λ i h. get_or-map (picked cols) (rows_of n columns) i [] [] (omega (arith, length-rows_of n columns))) in
    relation_made n (length cols) (λ k. (column_in columns (get_or cols k 0)).kind) (λ k. (column_in columns (get_or cols k 0)).cells) made (record { kinds = map (kind_in (kinds_of columns)) cols; rows = map (picked cols) (rows_of n columns) }) so
    (length-map cols (kind_in (kinds_of columns)))
    (λ c h. get_or-map (kind_in (kinds_of columns)) cols c 0 kinds.Text h ∙ kind_in-kinds_of columns (get_or cols c 0) (within c 0 h))
    (length-map (rows_of n columns) (picked cols) ∙ length-rows_of n columns)
    (λ i h. ap length (at i h) ∙ length-map cols (value_in (row_in (rows_of n columns) i)))
    (λ i c h q. ap (λ r. value_in r c) (at i h) ∙ get_or-map (value_in (row_in (rows_of n columns) i)) cols c 0 none q ∙ value_in-rows_of n columns i (get_or cols c 0) h (within c 0 q))

pub made-append : (n m : ℕ) (columns others made : List ColumnImage) → All (IsColumnOf n) columns → length columns ≡ length others
    → AreMade (n + m) (length columns) (λ k. (column_in columns k).kind) (λ k. (column_in columns k).cells ++ (column_in others k).cells) made
    → relation_of (n + m) made ≡ record { kinds = kinds_of columns; rows = rows_of n columns ++ rows_of m others }
made-append n m columns others made each wide so =
    let long = length-rows_of n columns in
    let left : (i : ℕ) → i < n → row_in (rows_of n columns ++ rows_of m others) i ≡ row_in (rows_of n columns) i = (λ i h. get_or_append_left (rows_of n columns) (rows_of m others) [] i (omega (arith, long))) in
    let right : (i : ℕ) → n ≤ i → row_in (rows_of n columns ++ rows_of m others) i ≡ row_in (rows_of m others) (i - n) = (λ i h. get_or-append_right (rows_of n columns) (rows_of m others) n i [] long h) in
    relation_made (n + m) (length columns) (λ k. (column_in columns k).kind) (λ k. (column_in columns k).cells ++ (column_in others k).cells) made (record { kinds = kinds_of columns; rows = rows_of n columns ++ rows_of m others }) so
    (wide_kinds columns) (kind_in-kinds_of columns) (omega (arith, length-append (rows_of n columns) (rows_of m others), long, length-rows_of m others))
    (λ i h. elim (cases_lt i n) [
      | inl less ↦ ap length (left i less) ∙ width-rows_of n columns i less
      | inr more ↦ ap length (right i more) ∙ width-rows_of m others (i - n) (omega arith) ∙ sym wide
    ])
    (λ i c h q. elim (cases_lt i n) [
      | inl less ↦ ap (λ r. value_in r c) (left i less) ∙ value_in-rows_of n columns i c less q ∙ sym (get_or_append_left (column_in columns c).cells (column_in others c).cells none i (omega (arith, long-at n columns c each q)))
      | inr more ↦ ap (λ r. value_in r c) (right i more) ∙ value_in-rows_of m others (i - n) c (omega arith) (omega (arith, wide)) ∙ sym (get_or-append_right (column_in columns c).cells (column_in others c).cells n i none (long-at n columns c each q) more)
    ])

pub made-first : (n len : ℕ) (columns made : List ColumnImage) → len ≤ n
    → AreMade len (length columns) (λ k. (column_in columns k).kind) (λ k. take len (column_in columns k).cells) made
    → relation_of len made ≡ record { kinds = kinds_of columns; rows = take len (rows_of n columns) }
made-first n len columns made few so =
    let row : (i : ℕ) → i < len → row_in (take len (rows_of n columns)) i ≡ row_in (rows_of n columns) i = (λ i h. get_or-take len (rows_of n columns) i [] h) in
    relation_made len (length columns) (λ k. (column_in columns k).kind) (λ k. take len (column_in columns k).cells) made (record { kinds = kinds_of columns; rows = take len (rows_of n columns) }) so
    (wide_kinds columns) (kind_in-kinds_of columns) (length-take-le len (rows_of n columns) (omega (arith, few, length-rows_of n columns)))
    (λ i h. ap length (row i h) ∙ width-rows_of n columns i (omega (arith, few, h)))
    (λ i c h q. ap (λ r. value_in r c) (row i h) ∙ value_in-rows_of n columns i c (omega (arith, few, h)) q ∙ sym (get_or-take len (column_in columns c).cells i none h))

beside-map : (f g : ℕ → List Value) (places : List ℕ) → beside_rows (map f places) (map g places) ≡ map (λ i. f i ++ g i) places
beside-map f g [] = refl
beside-map f g (p ∷ ps) = ap (λ rows. (f p ++ g p) ∷ rows) (beside-map f g ps)

rows-beside : (a b : List ColumnImage) (places : List ℕ) → map (row_at (a ++ b)) places ≡ map (λ i. row_at a i ++ row_at b i) places
rows-beside a b [] = refl
rows-beside a b (p ∷ ps) = rw (map-append (λ column. value_in column.cells p) a b, rows-beside a b ps) refl

pub relation-beside : (n : ℕ) (a b : List ColumnImage) → relation_of n (a ++ b) ≡ record { kinds = kinds_of a ++ kinds_of b; rows = beside_rows (rows_of n a) (rows_of n b) }
relation-beside n a b =
    let same_kinds = map-append (λ column. column.kind) a b in
    let same_rows : rows_of n (a ++ b) ≡ beside_rows (rows_of n a) (rows_of n b) = rows-beside a b (range_with_len 0 n) ∙ sym (beside-map (row_at a) (row_at b) (range_with_len 0 n)) in
    (λ j. record { kinds = same_kinds j; rows = same_rows j })

pub relation-beside-same : (n m : ℕ) (a b : List ColumnImage) → n ≡ m → relation_of n (a ++ b) ≡ record { kinds = kinds_of a ++ kinds_of b; rows = beside_rows (rows_of n a) (rows_of m b) }
relation-beside-same n m a b e = subst (λ k. relation_of n (a ++ b) ≡ record { kinds = kinds_of a ++ kinds_of b; rows = beside_rows (rows_of n a) (rows_of k b) }) e (relation-beside n a b)

pub AreColumns-beside : (n : ℕ) (a b : List ColumnImage) → AreColumns n a → AreColumns n b → length a + length b ≤ 16 → AreColumns n (a ++ b)
AreColumns-beside n a b p q few = record { few_columns = omega (arith, length-append a b); few_rows = p.few_rows; each = All-append (IsColumnOf n) a b p.each q.each }

-- the texts of a column of texts
pub count-values : (c : ℕ) (rows : List (List Value)) (texts : List (List ℕ)) → column_values c rows ≡ map values.Text texts → length texts ≡ length rows
count-values c rows texts e = sym (length-map texts values.Text) ∙ sym (ap length e) ∙ length-map rows (λ row. value_in row c)

pub texts-values : (c : ℕ) (rows : List (List Value)) (texts : List (List ℕ)) → column_values c rows ≡ map values.Text texts → column_texts c rows ≡ texts
texts-values c rows texts e = sym (map-map text_of (λ row. value_in row c) rows) ∙ ap (map text_of) e ∙ map-map text_of values.Text texts ∙ map-id texts

pub text-values : (c : ℕ) (rows : List (List Value)) (texts : List (List ℕ)) (i : ℕ) → column_values c rows ≡ map values.Text texts → i < length rows → text_of (value_in (row_in rows i) c) ≡ text_in texts i
text-values c rows texts i e h =
    let cell : value_in (row_in rows i) c ≡ value_in (column_values c rows) i = sym (get_or-map (λ row. value_in row c) rows i [] none h) in
    ap text_of (cell ∙ ap (λ cells. value_in cells i) e ∙ get_or-map values.Text texts i [] none (omega (arith, h, count-values c rows texts e)))

pub wider-long : (columns others : List ColumnImage) → AllZip IsWider (kinds_of columns) (kinds_of others) → length columns ≡ length others
wider-long columns others wider = sym (wide_kinds columns) ∙ length_all_zip IsWider (kinds_of columns) (kinds_of others) wider ∙ wide_kinds others

pub wider-at : (columns others : List ColumnImage) → AllZip IsWider (kinds_of columns) (kinds_of others) → (c : ℕ) → c < length columns → IsWider (column_in columns c).kind (column_in others c).kind
wider-at columns others wider c h =
    let wide = wider-long columns others wider in
    let left = kind_in-kinds_of columns c h in
    let right = kind_in-kinds_of others c (omega (arith, wide)) in
    let here : IsWider (kind_in (kinds_of columns) c) (kind_in (kinds_of others) c) = AllZip-at IsWider (kinds_of columns) (kinds_of others) c kinds.Text kinds.Text wider (omega (arith, wide_kinds columns)) in
    subst (λ k. IsWider k (column_in others c).kind) left (subst (λ k. IsWider (kind_in (kinds_of columns) c) k) right here)

-- the values of a column
pub column_values-rows_of : (n : ℕ) (columns : List ColumnImage) (c : ℕ) → All (IsColumnOf n) columns → c < length columns → column_values c (rows_of n columns) ≡ (column_in columns c).cells
column_values-rows_of n columns c each q =
    let rows = length-rows_of n columns in
    let long : length (column_values c (rows_of n columns)) ≡ n = length-map (rows_of n columns) (λ row. value_in row c) ∙ rows in
    ext_get_or none (column_values c (rows_of n columns)) (column_in columns c).cells (long ∙ sym (long-at n columns c each q))
    (λ i h.
    let low : i < n = omega (arith, h, long) in
    get_or-map (λ row. value_in row c) (rows_of n columns) i [] none (omega (arith, low, rows)) ∙ value_in-rows_of n columns i c low q)

-- one column
pub relation-one : (n : ℕ) (column : ColumnImage) → IsColumnOf n column → relation_of n (column ∷ []) ≡ record { kinds = column.kind ∷ []; rows = map (λ value. value ∷ []) column.cells }
relation-one n column is =
    let long : length (map (λ (value : Value). value ∷ []) column.cells) ≡ n = length-map column.cells (λ value. value ∷ []) ∙ is.long in
    let rows : map (λ (value : Value). value ∷ []) column.cells ≡ rows_of n (column ∷ []) = fill_by_all (row_at (column ∷ [])) (map (λ value. value ∷ []) column.cells) n [] long
    (λ i h. get_or-map (λ (value : Value). value ∷ []) column.cells i none [] (omega (arith, is.long))) in
    (λ j. record { kinds = column.kind ∷ []; rows = sym rows j })

pub made-with_kinds : (n : ℕ) (columns made : List ColumnImage) (ks : List Kind) → length columns ≡ length ks → AreMade n (length columns) (kind_in ks) (λ k. (column_in columns k).cells) made
    → relation_of n made ≡ record { kinds = ks; rows = rows_of n columns }
made-with_kinds n columns made ks wide so =
    relation_made n (length columns) (kind_in ks) (λ k. (column_in columns k).cells) made (record { kinds = ks; rows = rows_of n columns }) so
    (sym wide) (λ c h. refl) (length-rows_of n columns) (width-rows_of n columns) (λ i c p q. value_in-rows_of n columns i c p q)

-- as many kinds as columns
pub kinds-long : (columns : List ColumnImage) (ks : List Kind) → length ks ≡ length (kinds_of columns) → length columns ≡ length ks
kinds-long columns ks long = sym (wide_kinds columns) ∙ sym long

-- the values of columns whose rows fit
pub values-fit : (n : ℕ) (columns : List ColumnImage) (ks : List Kind) → All (IsColumnOf n) columns → length columns ≡ length ks → All (RowFits ks) (rows_of n columns) → (c : ℕ) → c < length columns → All (Fits (kind_in ks c)) (column_in columns c).cells
values-fit n columns ks each long fits c h =
    subst (All (Fits (kind_in ks c))) (column_values-rows_of n columns c each h)
    (All-map (Fits (kind_in ks c)) (λ row. value_in row c) (rows_of n columns) (λ i d p. AllZip-at Fits ks (get_or (rows_of n columns) i d) c kinds.Text none (fits i d p) (omega (arith, long))))

-- one column of the bins of another
pub one-bins : (n : ℕ) (columns : List ColumnImage) (c : ℕ) (w : ℤ) (column : ColumnImage) → All (IsColumnOf n) columns → c < length columns → column.kind ≡ (column_in columns c).kind → column.cells ≡ map (bin_of w) (column_in columns c).cells
    → (let made : Relation = record { kinds = column.kind ∷ []; rows = map (λ value. value ∷ []) column.cells } in made) ≡ record { kinds = kind_in (kinds_of columns) c ∷ []; rows = map (λ row. bin_of w (value_in row c) ∷ []) (rows_of n columns) }
one-bins n columns c w column each h kind cells =
    let same_kind = kind ∙ sym (kind_in-kinds_of columns c h) in
    let bins : column.cells ≡ map (λ row. bin_of w (value_in row c)) (rows_of n columns) = cells ∙ ap (map (bin_of w)) (sym (column_values-rows_of n columns c each h)) ∙ map-map (bin_of w) (λ row. value_in row c) (rows_of n columns) in
    let same_rows : map (λ (value : Value). value ∷ []) column.cells ≡ map (λ row. bin_of w (value_in row c) ∷ []) (rows_of n columns) = ap (map (λ (value : Value). value ∷ [])) bins ∙ map-map (λ value. value ∷ []) (λ row. bin_of w (value_in row c)) (rows_of n columns) in
    (λ j. record { kinds = same_kind j ∷ []; rows = same_rows j })

-- one column of ints
pub one-ints : (level : ℕ) (numbers : List ℤ) (column : ColumnImage) → column.kind ≡ kinds.Int level → column.cells ≡ map values.Int numbers
    → (let made : Relation = record { kinds = column.kind ∷ []; rows = map (λ value. value ∷ []) column.cells } in made) ≡ record { kinds = kinds.Int level ∷ []; rows = map (λ n. values.Int n ∷ []) numbers }
one-ints level numbers column kind cells =
    let same_rows : map (λ (value : Value). value ∷ []) column.cells ≡ map (λ n. values.Int n ∷ []) numbers = ap (map (λ (value : Value). value ∷ [])) cells ∙ map-map (λ value. value ∷ []) values.Int numbers in
    (λ j. record { kinds = kind j ∷ []; rows = same_rows j })

-- one column of counts
pub one-counts : (level : ℕ) (counts : List ℕ) (column : ColumnImage) → column.kind ≡ kinds.Int level → column.cells ≡ map values.Int (map pos counts)
    → (let made : Relation = record { kinds = column.kind ∷ []; rows = map (λ value. value ∷ []) column.cells } in made) ≡ record { kinds = kinds.Int level ∷ []; rows = map (λ n. values.Int (pos n) ∷ []) counts }
one-counts level counts column kind cells =
    one-ints level (map pos counts) column kind cells ∙ ap (λ rows. record { kinds = kinds.Int level ∷ []; rows = rows }) (map-map (λ n. values.Int n ∷ []) pos counts)

-- the codes of a column of texts
pub AreCodesOf-texts : (firsts texts : List (List ℕ)) (codes : List ℕ) → codes ≡ map (code_or_last firsts) texts → map (text_in firsts) codes ≡ texts → AreCodesOf (map values.Text texts) codes
AreCodesOf-texts firsts texts codes is back =
    let wide = length-map texts values.Text in
    let long : length codes ≡ length texts = ap length is ∙ length-map texts (code_or_last firsts) in
    let value : (i : ℕ) → i < length texts → value_in (map values.Text texts) i ≡ values.Text (text_in firsts (get_or codes i 0)) = (λ i h.
    get_or-map values.Text texts i [] none h ∙ ap values.Text (ap (λ ts. get_or ts i []) (sym back) ∙ get_or-map (text_in firsts) codes i 0 [] (omega (arith, long)))) in
    let code : (i : ℕ) → i < length texts → get_or codes i 0 ≡ code_or_last firsts (get_or texts i []) = (λ i h. ap (λ cs. get_or cs i 0) is ∙ get_or-map (code_or_last firsts) texts i [] 0 h) in
    record {
      long = long ∙ sym wide;
      same = λ i j h p q. value i (omega arith) ∙ ap (λ k. values.Text (text_in firsts k)) q ∙ sym (value j (omega arith));
      alike = λ i j h p q.
          let texts_same : get_or texts i [] ≡ get_or texts j [] = (let e = sym (get_or-map values.Text texts i [] none (omega arith)) ∙ q ∙ get_or-map values.Text texts j [] none (omega arith) in cc) in
          code i (omega arith) ∙ ap (code_or_last firsts) texts_same ∙ sym (code j (omega arith));
    }
