-- Rows picked of some tables.
use Rattle.std.specs.Prelude.{ℕ, ◌<◌, List, length, map, slice_index_or, All}
use Rattle.smk_base.specs.declared.list.table_rids.Pick.{Pick}

-- ascending without repeats: every number is less than each later one
abbrev pub IsAscending : List ℕ → Type 0
IsAscending A = (i j : ℕ) → i < j → j < length A → slice_index_or A i 0 < slice_index_or A j 0

-- ascending by table, each table's rids ascending without repeats
pub record ArePicks (picks : List Pick) : Type 0 where
  pub by_table : IsAscending (map (λ pick. pick.table) picks)
  pub by_rid : All (λ pick. IsAscending pick.rids) picks
