-- Tables of which one is cut or has more rows.
use Rattle.std.specs.Prelude.{ℕ, ◌++◌, List, set, take, drop}
use Rattle.smk_base.specs.Rels.{Relation}
use Rattle.smk_model.specs.Values.{Row}
use Rattle.smk_compose.specs.Fetched.{table_of}

-- the rows of a table
abbrev pub rows_of : List Relation → ℕ → List Row
rows_of tables t = (table_of tables t).rows

-- the tables, with these rows in one of them
abbrev pub with_rows : List Relation → ℕ → List Row → List Relation
with_rows tables t rows = set tables t (record { kinds = (table_of tables t).kinds; rows = rows })

-- the tables, with more rows at the end of one
abbrev pub longer_tables : List Relation → ℕ → List Row → List Relation
longer_tables tables t more = with_rows tables t (rows_of tables t ++ more)

-- the tables, but one with only its first rows, and with only the rows after them
abbrev pub first_tables : List Relation → ℕ → ℕ → List Relation
first_tables tables t len = with_rows tables t (take len (rows_of tables t))

abbrev pub last_tables : List Relation → ℕ → ℕ → List Relation
last_tables tables t len = with_rows tables t (drop len (rows_of tables t))
