-- Columns and aggregates that are made in halves.
use Rattle.std.proofs.{Common.{◌≡◌, ◌∙◌, ◌<◌, ◌≤◌, ◌+◌, ℕ, List, [], ◌∷◌, ◌++◌, length, map, refl, sym, ap, arith, All, get_or}, lemmas.List.{map-append, length-map, length-append, get_or-map}, lemmas.List.Elements.{All-map, All-weaker}, lemmas.Slice.Zip.AllZip-long}
use Rattle.std.specs.List.{AllZip}
use Rattle.smk_base.specs.{declared.book.plan.Agg.Agg, declared.value.Kind.TheVariants.{Int, Text}, declared.value.Kind.Kind, declared.value.Value.Value, Places.upto, Rels.{IsWider, Relation, Fits, RowFits, beside_rows, picked, row_in, rows_at}}
use Rattle.smk_keys.specs.Classes.{ClassesImage, classes_of}
use Rattle.smk_model.specs.{Values.Row, Plain.{aggregate, firsts, grouped, key_of}, Lineage.{row_at, sub}}
use Rattle.smk_base.proofs.Places.{length_upto, map_map, map_upto, upto_below}
use Rattle.smk_model.proofs.{Bulk.bulk, Directions.length_each}
use Rattle.smk_body.specs.{Halves.{AreNumbered, class_places}, Parts.{ArePlacesOf, aggregates_of, columns_of}}
use Rattle.smk_body.proofs.{Besides.{relation, related, beside_each, map_same}, Aggregating.{groups_are, map_where}}

-- no kind is narrower than itself
pub same_wider : (ks : List Kind) → AllZip IsWider ks ks
same_wider [] = tt
same_wider (Int level ∷ ks) = (omega arith, same_wider ks)
same_wider (Text ∷ ks) = (tt, same_wider ks)

-- the rows at some places and behind them those at others
pub rows_behind : (rel : Relation) (places cols low high : List ℕ) (left right : Relation) → places ≡ low ++ high → left ≡ columns_of rel low cols → right ≡ columns_of rel high cols → relation left.kinds (left.rows ++ right.rows) ≡ columns_of rel places cols
rows_behind rel places cols low high left right e l r =
    rw (e, l, r) (related refl (sym (ap (map (picked cols)) (map-append (row_in rel.rows) low high) ∙ map-append (picked cols) (rows_at rel.rows low) (rows_at rel.rows high))))

-- columns of each of some members, beside one another
abbrev pub table : {X Y : Type 0} → (X → Kind) → (Y → X → Value) → List Y → List X → Relation
table K V ys xs = record { kinds = map K xs; rows = map (λ y. map (V y) xs) ys }

pub table_beside : {X Y : Type 0} (K : X → Kind) (V : Y → X → Value) (ys : List Y) (xs low high : List X) (left right : Relation) → xs ≡ low ++ high → left ≡ table K V ys low → right ≡ table K V ys high
    → relation (left.kinds ++ right.kinds) (beside_rows left.rows right.rows) ≡ table K V ys xs
table_beside K V ys xs low high left right e l r = rw (e, l, r) (related (sym (map-append K low high))
    (beside_each (λ y. map (V y) low) (λ y. map (V y) high) ys ∙ map_same (λ y. map (V y) low ++ map (V y) high) (λ y. map (V y) (low ++ high)) ys (λ y. sym (map-append (V y) low high))))

-- columns of rows at places
pub columns_at_places : (rel : Relation) (places cols : List ℕ) → All (λ place. place < length rel.rows) places → rows_at (map (picked cols) rel.rows) places ≡ (columns_of rel places cols).rows
columns_at_places rel places cols within =
    map_where (row_in (map (picked cols) rel.rows)) (λ i. picked cols (row_in rel.rows i)) (λ i. i < length rel.rows) places (λ i h. get_or-map (picked cols) rel.rows i [] [] h) within
    ∙ sym (map_map (picked cols) (row_in rel.rows) places)

-- all columns are the rows
rows_long : (kinds : List Kind) (rows : List Row) (places : List ℕ) → All (RowFits kinds) rows → All (λ place. place < length rows) places → All (λ (row : Row). length row ≡ length kinds) (rows_at rows places)
rows_long kinds rows places fit within =
    let long : All (λ (row : Row). length row ≡ length kinds) rows = All-weaker (RowFits kinds) (λ row. length row ≡ length kinds) (λ row fits. AllZip-long Fits kinds row fits) rows fit in
    All-map (λ (row : Row). length row ≡ length kinds) (row_in rows) places (λ k d h. long (get_or places k d) [] (within k d h))

pub all_columns_are : (rel : Relation) (places : List ℕ) (n : ℕ) → n ≡ length rel.kinds → All (RowFits rel.kinds) rel.rows → All (λ place. place < length rel.rows) places
    → columns_of rel places (upto n) ≡ relation rel.kinds (rows_at rel.rows places)
all_columns_are rel places n e fit within = rw e (related (map_upto rel.kinds Text) (bulk.whole (length rel.kinds) (rows_at rel.rows places) (rows_long rel.kinds rel.rows places fit within)))

pub all_places : (rel : Relation) (places cols : List ℕ) (n : ℕ) → cols ≡ upto n → n ≡ length rel.kinds → length rel.kinds ≤ 16 → All (λ place. place < length rel.rows) places → length places ≤ 1048576 → ArePlacesOf rel places cols
all_places rel places cols n e long few within fewer = record {
  columns = rw (e, long) (upto_below (length rel.kinds));
  few_columns = omega (arith, ap length e, length_upto n, long, few);
  within = within;
  few = fewer;
}

-- no more rows behind one another than places
pub rows_few : (rel : Relation) (places cols low high : List ℕ) (left right : Relation) → places ≡ low ++ high → length places ≤ 1048576 → left ≡ columns_of rel low cols → right ≡ columns_of rel high cols → length left.rows + length right.rows ≤ 1048576
rows_few rel places cols low high left right e few l r =
    omega (arith, ap length e, length-append low high, few, ap (λ (z : Relation). length z.rows) l, length-map (rows_at rel.rows low) (picked cols), length-map low (row_in rel.rows), ap (λ (z : Relation). length z.rows) r, length-map (rows_at rel.rows high) (picked cols), length-map high (row_in rel.rows))

-- no aggregate is no column
none_each : {X Y : Type 0} (xs : List X) (ys : List Y) → length xs ≡ length ys → map (λ (x : X). let row : Row = [] in row) xs ≡ map (λ (y : Y). let row : Row = [] in row) ys
none_each [] [] e = refl
none_each [] (y ∷ ys) e = absurd (omega (arith, e))
none_each (x ∷ xs) [] e = absurd (omega (arith, e))
none_each (x ∷ xs) (y ∷ ys) e = ap (λ (rows : List Row). (let row : Row = [] in row) ∷ rows) (none_each xs ys (omega (arith, e)))

pub no_aggregates : (rel : Relation) (classes : ClassesImage) (places : List ℕ) (aggs : List Agg) → places ≡ classes.firsts → aggs ≡ [] → columns_of rel places [] ≡ aggregates_of rel classes aggs
no_aggregates rel classes places aggs e none = rw (e, none) (related refl (none_each (rows_at rel.rows classes.firsts) (upto (length classes.firsts)) (length-map classes.firsts (row_in rel.rows) ∙ sym (length_upto (length classes.firsts)))))

-- the first places of classes
pub first_places_are : (rel : Relation) (classes : ClassesImage) (places cols : List ℕ) → All (λ c. c < length rel.kinds) cols → length cols ≤ 16 → length rel.rows ≤ 1048576 → AreNumbered (length rel.rows) classes → places ≡ classes.firsts → ArePlacesOf rel places cols
first_places_are rel classes places cols columns narrow few are e = record {
  columns = columns;
  few_columns = narrow;
  within = rw e are.within;
  few = omega (arith, ap length e, are.few, few);
}

-- the keys at the first places beside the aggregates are the groups
pub groups_beside : (rel : Relation) (keys : List ℕ) (aggs : List Agg) (classes : ClassesImage) (places : List ℕ) → classes ≡ classes_of (map (key_of keys) rel.rows) → places ≡ classes.firsts
    → beside_rows (columns_of rel places keys).rows (aggregates_of rel classes aggs).rows ≡ map (grouped keys aggs rel.rows) (firsts (map (key_of keys) rel.rows))
groups_beside rel keys aggs classes places is e =
    let made = classes_of (map (key_of keys) rel.rows) in
    let A = made.firsts in
    let K = λ (p : ℕ). key_of keys (row_at rel.rows (get_or A p 0)) in
    let G = λ (p : ℕ). map (aggregate (sub rel.rows (class_places made.of (length rel.rows) p))) aggs in
    let keyed : map (picked keys) (rows_at rel.rows A) ≡ map K (upto (length A)) =
    ap (λ (z : List ℕ). map (picked keys) (rows_at rel.rows z)) (sym (map_upto A 0)) ∙ ap (map (picked keys)) (map_map (row_at rel.rows) (λ p. get_or A p 0) (upto (length A)))
    ∙ map_map (picked keys) (λ p. row_at rel.rows (get_or A p 0)) (upto (length A)) in
    rw (e, is) (ap (λ (rows : List Row). beside_rows rows (map G (upto (length A)))) keyed ∙ beside_each K G (upto (length A)) ∙ groups_are keys aggs rel.rows)

-- as many keys as aggregates
pub groups_long : (rel : Relation) (keys : List ℕ) (aggs : List Agg) (classes : ClassesImage) (places : List ℕ) (left right : Relation) → left ≡ columns_of rel places keys → right ≡ aggregates_of rel classes aggs → places ≡ classes.firsts → length left.rows ≡ length right.rows
groups_long rel keys aggs classes places left right l r e =
    ap (λ (z : Relation). length z.rows) l ∙ length-map (rows_at rel.rows places) (picked keys) ∙ length-map places (row_in rel.rows) ∙ ap length e
    ∙ sym (ap (λ (z : Relation). length z.rows) r ∙ length_each (λ p. map (aggregate (sub rel.rows (class_places classes.of (length rel.rows) p))) aggs) (length classes.firsts))
