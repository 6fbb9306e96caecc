-- Tables of which one has other rows.
use Rattle.std.proofs.{Common.{◌≡◌, ◌≢◌, ℕ, zero, suc, ◌<◌, false, List, [], ◌∷◌, ◌++◌, length, get_or, take, drop, set, refl, ap, sym, ◌∙◌, arith, nat_eq}, lemmas.Bool.{eq-eqb, false≢true}, lemmas.List.{get_or-map, get_or-set_same, get_or-set_other, length-map, length-set, map-set, set-set, set-get_or}, Math.Seq.map-set_same}
use Rattle.smk_base.specs.{Rels.Relation, declared.value.Kind.Kind}
use Rattle.smk_model.specs.{Values.Row, Appends.longer, Plain.table_at, Selection.{each_kinds, each_rows}}
use Rattle.smk_compose.specs.Fetched.{table_of}
use Rattle.smk_grow.specs.Grown.{rows_of, with_rows, longer_tables, first_tables, last_tables}

abbrev pub rel_of : List Kind → List Row → Relation
rel_of kinds rows = record { kinds = kinds; rows = rows }

abbrev no_rel : Relation
no_rel = rel_of [] []

pub each_rows_with : (tables : List Relation) (t : ℕ) (rows : List Row) → each_rows (with_rows tables t rows) ≡ set (each_rows tables) t rows
each_rows_with tables t rows = map-set (λ (r : Relation). r.rows) tables t (rel_of (table_of tables t).kinds rows)

pub each_kinds_with : (tables : List Relation) (t : ℕ) (rows : List Row) → each_kinds (with_rows tables t rows) ≡ each_kinds tables
each_kinds_with tables t rows = map-set_same (λ (r : Relation). r.kinds) tables t (rel_of (table_of tables t).kinds rows) no_rel refl

pub rows_is : (tables : List Relation) (t : ℕ) → t < length tables → table_at (each_rows tables) t ≡ rows_of tables t
rows_is tables t low = get_or-map (λ (r : Relation). r.rows) tables t no_rel [] low

pub long_rows : (tables : List Relation) → length (each_rows tables) ≡ length tables
long_rows tables = length-map tables (λ (r : Relation). r.rows)

-- the rows of the table, and of the others

pub at_with : (tables : List Relation) (t : ℕ) (rows : List Row) → t < length tables → table_at (each_rows (with_rows tables t rows)) t ≡ rows
at_with tables t rows low =
    let long : t < length (each_rows tables) = omega (arith, low, long_rows tables) in
    ap (λ (T : List (List Row)). table_at T t) (each_rows_with tables t rows) ∙ get_or-set_same (each_rows tables) t rows [] long

other : (u t : ℕ) → nat_eq u t ≡ false → u ≢ t
other u t ne e = false≢true (sym ne ∙ eq-eqb u t e)

pub other_with : (tables : List Relation) (t u : ℕ) (rows : List Row) → nat_eq u t ≡ false → table_at (each_rows (with_rows tables t rows)) u ≡ table_at (each_rows tables) u
other_with tables t u rows ne =
    ap (λ (T : List (List Row)). table_at T u) (each_rows_with tables t rows) ∙ get_or-set_other (each_rows tables) t u rows [] (other u t ne)

-- other rows once more

pub table_with : (tables : List Relation) (t : ℕ) (rows : List Row) → t < length tables → table_of (with_rows tables t rows) t ≡ rel_of (table_of tables t).kinds rows
table_with tables t rows low = get_or-set_same tables t (rel_of (table_of tables t).kinds rows) no_rel low

pub with_with : (tables : List Relation) (t : ℕ) (first second : List Row) → t < length tables → with_rows (with_rows tables t first) t second ≡ with_rows tables t second
with_with tables t first second low =
    ap (λ (r : Relation). set (with_rows tables t first) t (rel_of r.kinds second)) (table_with tables t first low)
    ∙ set-set tables t (rel_of (table_of tables t).kinds first) (rel_of (table_of tables t).kinds second)

pub with_own : (tables : List Relation) (t : ℕ) → with_rows tables t (rows_of tables t) ≡ tables
with_own tables t = set-get_or tables t no_rel

take_front : (xs ys : List Row) → take (length xs) (xs ++ ys) ≡ xs
take_front [] ys = refl
take_front (x ∷ xs) ys = ap (λ (l : List Row). x ∷ l) (take_front xs ys)

drop_front : (xs ys : List Row) → drop (length xs) (xs ++ ys) ≡ ys
drop_front [] ys = refl
drop_front (x ∷ xs) ys = drop_front xs ys

-- the first rows and the last rows of a table with more rows

pub first_of_longer : (tables : List Relation) (t : ℕ) (more : List Row) → t < length tables → first_tables (longer_tables tables t more) t (length (rows_of tables t)) ≡ tables
first_of_longer tables t more low =
    let all = rows_of tables t ++ more in
    ap (λ (r : Relation). with_rows (with_rows tables t all) t (take (length (rows_of tables t)) r.rows)) (table_with tables t all low)
    ∙ ap (with_rows (with_rows tables t all) t) (take_front (rows_of tables t) more)
    ∙ with_with tables t all (rows_of tables t) low
    ∙ with_own tables t

pub last_of_longer : (tables : List Relation) (t : ℕ) (more : Relation) → t < length tables → more.kinds ≡ (table_of tables t).kinds
    → last_tables (longer_tables tables t more.rows) t (length (rows_of tables t)) ≡ set tables t more
last_of_longer tables t more low kinds =
    let all = rows_of tables t ++ more.rows in
    ap (λ (r : Relation). with_rows (with_rows tables t all) t (drop (length (rows_of tables t)) r.rows)) (table_with tables t all low)
    ∙ ap (with_rows (with_rows tables t all) t) (drop_front (rows_of tables t) more.rows)
    ∙ with_with tables t all more.rows low
    ∙ ap (λ (k : List Kind). set tables t (rel_of k more.rows)) (sym kinds)

pub longer_is : (tables : List Relation) (t : ℕ) (more : List Row) → t < length tables → each_rows (longer_tables tables t more) ≡ longer (each_rows tables) t more
longer_is tables t more low =
    each_rows_with tables t (rows_of tables t ++ more)
    ∙ ap (λ (l : List Row). set (each_rows tables) t (l ++ more)) (sym (rows_is tables t low))

-- a table in the place of another of the same kinds

pub kinds_set : (tables : List Relation) (t : ℕ) (more : Relation) → more.kinds ≡ (table_of tables t).kinds → each_kinds (set tables t more) ≡ each_kinds tables
kinds_set tables t more same = map-set_same (λ (r : Relation). r.kinds) tables t more no_rel same

pub rows_set : (tables : List Relation) (t : ℕ) (more : Relation) → t < length tables → rows_of (set tables t more) t ≡ more.rows
rows_set tables t more low = ap (λ (r : Relation). r.rows) (get_or-set_same tables t more no_rel low)

pub set_back : (tables : List Relation) (t : ℕ) (more own : Relation) → own ≡ table_of tables t → set (set tables t more) t own ≡ tables
set_back tables t more own is = set-set tables t more own ∙ ap (set tables t) is ∙ set-get_or tables t no_rel

pub long_set : (tables : List Relation) (t : ℕ) (more : Relation) → length (set tables t more) ≡ length tables
long_set tables t more = length-set tables t more

default_same : (tables : List Relation) (t : ℕ) (d e : Relation) → t < length tables → get_or tables t d ≡ get_or tables t e
default_same [] t d e low = absurd (omega arith)
default_same (x ∷ xs) zero d e low = refl
default_same (x ∷ xs) (suc t) d e low = default_same xs t d e (omega arith)

pub at_table : (tables : List Relation) (t : ℕ) (table : Relation) → t < length tables → get_or tables t table ≡ table_of tables t
at_table tables t table low = default_same tables t table no_rel low

pub at_is : (tables : List Relation) (t : ℕ) (table : Relation) → t < length tables → table ≡ get_or tables t table → table ≡ table_of tables t
at_is tables t table low is = is ∙ default_same tables t table no_rel low

pub long_with : (tables : List Relation) (t : ℕ) (more : List Row) → length (longer_tables tables t more) ≡ length tables
long_with tables t more = length-set tables t (rel_of (table_of tables t).kinds (rows_of tables t ++ more))
