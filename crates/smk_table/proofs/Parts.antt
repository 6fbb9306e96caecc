-- Columns of parts that lie one behind the other.
use Rattle.std.proofs.{Common.{◌≡◌, ◌∙◌, ℕ, ◌+◌, ◌<◌, ◌≤◌, List, [], ◌∷◌, ◌++◌, length, map, take, drop, get_or, refl, ap, sym, subst, arith, All, Ok, IfOk, Result, pos}, lemmas.List.{get_or-map, length-map, length-append, map-append, append-nil, take_more, take-append-drop}, lemmas.List.Concat.flat_map-append, lemmas.List.Elements.{All-nil, All-append, All-map, All-head, All-tail}, lemmas.Slice.Zip.AllZip-long}
use Rattle.std.specs.List.{flat_map}
use Rattle.smk_base.specs.{declared.value.Kind.Kind, declared.value.Value.Value, Places.upto, Rels.{Relation, IsRelation, Fits, kind_in, value_in, picked, beside_rows}}
use Rattle.smk_base.specs.declared.value.Kind.TheVariants as kinds
use Rattle.smk_base.specs.declared.value.Value.TheVariants as values
use Rattle.smk_base.proofs.Places.{map_flat_map, flat_map_map, map_upto, length_upto, upto_more}
use Rattle.smk_table.specs.Joined.{AreParts, columns_of, end_to_end}

abbrev none : Relation
none = record { kinds = []; rows = [] }

abbrev rows_in : Relation → List (List Value)
rows_in rel = rel.rows

-- columns of the whole are the parts' columns, one behind the other
pub columns_end_to_end : (cols : List ℕ) (parts : List Relation) → 0 < length parts → end_to_end (map (columns_of cols) parts) ≡ columns_of cols (end_to_end parts)
columns_end_to_end cols parts some =
    let same_kinds : (end_to_end (map (columns_of cols) parts)).kinds ≡ map (kind_in (end_to_end parts).kinds) cols = ap (λ (rel : Relation). rel.kinds) (get_or-map (columns_of cols) parts 0 none none some) in
    let same_rows : flat_map rows_in (map (columns_of cols) parts) ≡ map (picked cols) (flat_map rows_in parts) = flat_map_map rows_in (columns_of cols) parts ∙ sym (map_flat_map (picked cols) rows_in parts) in
    λ j. record { kinds = same_kinds j; rows = same_rows j }

pub AreParts-columns : (cols : List ℕ) (parts : List Relation) → AreParts parts → AreParts (map (columns_of cols) parts)
AreParts-columns cols parts are =
    let whole = columns_end_to_end cols parts are.some in
    record {
      some = omega (arith, are.some, length-map parts (columns_of cols));
      kinds = All-map (λ part. part.kinds ≡ (end_to_end (map (columns_of cols) parts)).kinds) (columns_of cols) parts
          (λ k d h. ap (λ (ks : List Kind). map (kind_in ks) cols) (are.kinds k d h) ∙ sym (ap (λ (rel : Relation). rel.kinds) whole));
      few = omega (arith, ap (λ (rel : Relation). length rel.rows) whole, length-map (flat_map rows_in parts) (picked cols), are.few);
    }

pub column_is : {E : Type 0} (parts : List Relation) (c : ℕ) (items : List Relation) (r : Result Relation E) (column : Relation) → AreParts parts → IfOk r (λ made. made ≡ end_to_end items) → items ≡ map (columns_of (c ∷ [])) parts → r ≡ Ok column
    → column ≡ columns_of (c ∷ []) (end_to_end parts)
column_is parts c items r column are made e is =
    let at : column ≡ end_to_end items = subst (λ r. IfOk r (λ made. made ≡ end_to_end items)) is made in
    at ∙ ap end_to_end e ∙ columns_end_to_end (c ∷ []) parts are.some

-- one more part
pub rows_more : (parts : List Relation) (n : ℕ) (part : Relation) → n < length parts → part ≡ get_or parts n part → flat_map rows_in (take (n + 1) parts) ≡ flat_map rows_in (take n parts) ++ part.rows
rows_more parts n part h at =
    ap (flat_map rows_in) (take_more parts n part h) ∙ flat_map-append rows_in (take n parts) (get_or parts n part ∷ [])
    ∙ ap (λ (z : List (List Value)). flat_map rows_in (take n parts) ++ z) (append-nil (get_or parts n part).rows ∙ ap rows_in (sym at))

pub few_more : (parts : List Relation) (n : ℕ) (part : Relation) → AreParts parts → n < length parts → part ≡ get_or parts n part → length (flat_map rows_in (take n parts)) + length part.rows ≤ 1048576
few_more parts n part are h at =
    let all : flat_map rows_in parts ≡ flat_map rows_in (take (n + 1) parts) ++ flat_map rows_in (drop (n + 1) parts) = ap (flat_map rows_in) (sym (take-append-drop (n + 1) parts)) ∙ flat_map-append rows_in (take (n + 1) parts) (drop (n + 1) parts) in
    omega (arith, are.few, ap length all, length-append (flat_map rows_in (take (n + 1) parts)) (flat_map rows_in (drop (n + 1) parts)), ap length (rows_more parts n part h at), length-append (flat_map rows_in (take n parts)) part.rows)

-- columns beside each other
beside_picked : (cols others : List ℕ) (rows : List (List Value)) → beside_rows (map (picked cols) rows) (map (picked others) rows) ≡ map (picked (cols ++ others)) rows
beside_picked cols others [] = refl
beside_picked cols others (row ∷ rows) = rw (map-append (value_in row) cols others, beside_picked cols others rows) refl

pub columns_beside : (c : ℕ) (rel left right : Relation) → left ≡ columns_of (upto c) rel → right ≡ columns_of (c ∷ []) rel
    → (let made : Relation = record { kinds = left.kinds ++ right.kinds; rows = beside_rows left.rows right.rows } in made) ≡ columns_of (upto (c + 1)) rel
columns_beside c rel left right e f =
    let same_kinds : map (kind_in rel.kinds) (upto c) ++ map (kind_in rel.kinds) (c ∷ []) ≡ map (kind_in rel.kinds) (upto (c + 1)) = sym (map-append (kind_in rel.kinds) (upto c) (c ∷ [])) ∙ ap (map (kind_in rel.kinds)) (sym (upto_more c)) in
    let same_rows : beside_rows (map (picked (upto c)) rel.rows) (map (picked (c ∷ [])) rel.rows) ≡ map (picked (upto (c + 1))) rel.rows = beside_picked (upto c) (c ∷ []) rel.rows ∙ ap (λ (z : List ℕ). map (picked z) rel.rows) (sym (upto_more c)) in
    rw (e, f) (λ j. record { kinds = same_kinds j; rows = same_rows j })

pub beside_fits : (c : ℕ) (rel left right : Relation) → left ≡ columns_of (upto c) rel → right ≡ columns_of (c ∷ []) rel → (length left.rows ≡ length right.rows) × (length left.kinds + length right.kinds ≡ c + 1)
beside_fits c rel left right e f =
    rw (e, f) (
      length-map rel.rows (picked (upto c)) ∙ sym (length-map rel.rows (picked (c ∷ []))),
      omega (arith, length-map (upto c) (kind_in rel.kinds), length_upto c),
    )

-- all columns are the whole
long_rows : (ks : List Kind) (parts : List Relation) → All IsRelation parts → All (λ part. part.kinds ≡ ks) parts → All (λ row. length row ≡ length ks) (flat_map rows_in parts)
long_rows ks [] each same = All-nil (λ row. length row ≡ length ks)
long_rows ks (part ∷ parts) each same =
    let is = All-head IsRelation part parts each in
    All-append (λ row. length row ≡ length ks) part.rows (flat_map rows_in parts)
    (λ k d h. AllZip-long Fits part.kinds (get_or part.rows k d) (is.fit k d h) ∙ ap length (All-head (λ part. part.kinds ≡ ks) part parts same))
    (long_rows ks parts (All-tail IsRelation part parts each) (All-tail (λ part. part.kinds ≡ ks) part parts same))

whole_rows : (n : ℕ) (rows : List (List Value)) → All (λ row. length row ≡ n) rows → map (picked (upto n)) rows ≡ rows
whole_rows n [] long = refl
whole_rows n (row ∷ rows) long =
    let here : length row ≡ n = All-head (λ row. length row ≡ n) row rows long in
    let same : picked (upto n) row ≡ row = ap (λ m. picked (upto m) row) (sym here) ∙ map_upto row (values.Int (pos 0)) in
    rw (same, whole_rows n rows (All-tail (λ row. length row ≡ n) row rows long)) refl

pub all_columns : (n : ℕ) (parts : List Relation) → All IsRelation parts → AreParts parts → n ≡ length (end_to_end parts).kinds → columns_of (upto n) (end_to_end parts) ≡ end_to_end parts
all_columns n parts each are wide =
    let ks = (end_to_end parts).kinds in
    let same_kinds : map (kind_in ks) (upto n) ≡ ks = ap (λ m. map (kind_in ks) (upto m)) wide ∙ map_upto ks kinds.Text in
    let same_rows : map (picked (upto n)) (flat_map rows_in parts) ≡ flat_map rows_in parts = ap (λ m. map (picked (upto m)) (flat_map rows_in parts)) wide ∙ whole_rows (length ks) (flat_map rows_in parts) (long_rows ks parts each are.kinds) in
    λ j. record { kinds = same_kinds j; rows = same_rows j }
