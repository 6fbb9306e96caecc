-- What each part of a step finds of its rows.
use Rattle.std.specs.Prelude.{◌≡◌, ℕ, ◌<◌, ◌+◌, ◌-◌, ◌↔◌, min, List, ◌++◌, length, sum_by}
use Rattle.smk_base.specs.{Places.upto, Plans.Formula, declared.rel.TheConstants.ROW_LIMIT}
use Rattle.smk_model.specs.{Values.Row, Lineage.{lefts_of, rights_of}}
use Rattle.smk_body.specs.Halves.{PlacePairs, meeting_below, pairs_below}

-- these are the places from one up to another whose rows meet a formula: after those below the first, they complete those below the second
abbrev pub HasPlaces : Formula → List Row → ℕ → ℕ → List ℕ → Type 0
HasPlaces formula L from to places = meeting_below formula L from ++ places ≡ meeting_below formula L to

-- these are the pairs of the left places from one up to another, in the same sense
pub record HasPairs (partners_of : ℕ → List ℕ) (from to : ℕ) (made : PlacePairs) : Type 0 where
  pub lefts : lefts_of (pairs_below partners_of from) ++ made.lefts ≡ lefts_of (pairs_below partners_of to)
  pub rights : rights_of (pairs_below partners_of from) ++ made.rights ≡ rights_of (pairs_below partners_of to)

-- how many pairs have a left place from one up to another, counted no further than one past the limit
abbrev pub count_between : (ℕ → List ℕ) → ℕ → ℕ → ℕ
count_between partners_of from to = min (ROW_LIMIT + 1) (length (pairs_below partners_of to) - length (pairs_below partners_of from))

-- the counts of n parts add up to more than 1,048,576 exactly if the number of rows is more
abbrev pub CountRows : (ℕ → ℕ) → ℕ → ℕ → Type 0
CountRows f n rows = (ROW_LIMIT < sum_by f (upto n)) ↔ (ROW_LIMIT < rows)
