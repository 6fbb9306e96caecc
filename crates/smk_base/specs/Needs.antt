-- Which tables need lineage, and in which direction.
use Rattle.std.specs.Prelude.{◌||◌, Bool, IsTrue, List, map, All}
use Rattle.smk_base.specs.{Picks.IsAscending, declared.book.need.Needed.Needed, declared.book.plan.Dir.Dir}

-- whether lineage is needed in some direction
abbrev pub some_direction : Dir → Bool
some_direction dir = dir.back || dir.fwd

-- whether a table needs lineage in some direction
abbrev pub is_needed : Needed → Bool
is_needed needed = some_direction needed.dir

-- tables in ascending order, each with a direction that is needed
pub record IsNeed (need : List Needed) : Type 0 where
  pub by_table : IsAscending (map (λ needed. needed.table) need)
  pub directed : All (λ needed. IsTrue (is_needed needed)) need
