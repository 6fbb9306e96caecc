-- The rows of a table that are shown.
use Rattle.std.specs.Prelude.{ℕ, take}
use Rattle.smk_base.specs.Rels.{Relation}

-- the first rows
abbrev pub first_rows : ℕ → Relation → Relation
first_rows n rel = record { kinds = rel.kinds; rows = take n rel.rows }
