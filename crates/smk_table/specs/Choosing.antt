-- Chosen rows of a table.
use Rattle.std.specs.Prelude.{ℕ, ◌<◌, ◌≤◌, List, length, Option, Some, None, All}
use Rattle.smk_base.specs.{Rels.{Relation, rows_at}, declared.rel.TheConstants.ROW_LIMIT}

-- the rows at these rids, or all
abbrev pub chosen_of : Relation → Option (List ℕ) → Relation
chosen_of rel (Some rids) = record { kinds = rel.kinds; rows = rows_at rel.rows rids }
chosen_of rel None = rel

-- the rids are of rows that are there, and few enough for a Rel
abbrev pub AreInside : Relation → Option (List ℕ) → Type 0
AreInside rel (Some rids) = All (λ rid. rid < length rel.rows) rids × (length rids ≤ ROW_LIMIT)
AreInside rel None = Unit {0}
