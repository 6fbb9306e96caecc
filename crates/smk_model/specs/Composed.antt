-- Lineage of a whole plan over whole tables, as lists of rids and as lists of places.
use Rattle.std.specs.Prelude.{ℕ, List, [], ◌∷◌, length, map}
use Rattle.smk_base.specs.{Places.{Lists, upto}, Plans.Expr}
use Rattle.smk_model.specs.{Values.Row, Plain.whole, Annotated.{back, fwd}}
pub use Rattle.smk_model.specs.Plain.{table_at, rows_over}

-- the backward lineage of a plan to a table, as lists: for each output row the rids that it came from
abbrev pub backs : Expr → List (List Row) → ℕ → Lists
backs plan tables table = record { lists = map (λ o. back plan (whole plan tables) (o ∷ []) table (length (table_at tables table))) (upto (length (rows_over plan tables))); bound = length (table_at tables table) }

-- the forward lineage, as lists: for each rid of the table the places of the output rows that came from it
abbrev pub forwards : Expr → List (List Row) → ℕ → Lists
forwards plan tables table = record { lists = map (λ rid. fwd plan (whole plan tables) (rid ∷ []) table) (upto (length (table_at tables table))); bound = length (rows_over plan tables) }
