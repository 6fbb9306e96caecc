-- The invariant of growing lists.
use Rattle.std.specs.Prelude.{◌≡◌, ℕ}
use Rattle.smk_base.specs.Places.{Lists, pairs_of}
use Rattle.smk_rid.specs.Maps.{IsMap}

-- the lists are those of a rid map at any time, and their rids are counted
pub record IsGrown (m : Lists) (pairs : ℕ) : Type 0 where
  pub map : IsMap m
  pub counted : pairs ≡ pairs_of m.lists
