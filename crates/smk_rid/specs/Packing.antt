-- How lists lie in arrays of numbers.
use Rattle.std.specs.{Prelude.{◌≡◌, ◌==◌, ℕ, ◌≤◌, ◌+◌, ◌-◌, List, [], ◌∷◌, length, map, take, slice_index, slice_range, if◌then◌else◌}, List.concat}
use Rattle.smk_base.specs.Places.{upto, pairs_of}
use Rattle.smk_rid.specs.{declared.hold.array.TheConstants.NONE, declared.map.TheConstants.PAIR_LIMIT}

-- what one number of a rid array stands for: the list of only that rid, or an empty list
abbrev pub one_of : ℕ → List ℕ
one_of r = if r == NONE then [] else r ∷ []

-- the rids between two neighbouring offsets
abbrev pub part : List ℕ → List ℕ → ℕ → List ℕ
part starts rids i = slice_range rids (slice_index starts i) (slice_index starts (i + 1))

-- the lists that the offsets cut out of the rids
unfoldable pub cut : List ℕ → List ℕ → List (List ℕ)
cut starts rids = map (part starts rids) (upto (length starts - 1))

-- the rids are all lists one after the other, few enough, and each offset is the number of rids before a list
pub record IsPacking (starts rids : List ℕ) (lists : List (List ℕ)) : Type 0 where
  pub size : length starts ≡ length lists + 1
  pub offsets : (i : ℕ) → i ≤ length lists → slice_index starts i ≡ pairs_of (take i lists)
  pub all : rids ≡ concat lists
  pub few : length rids ≤ PAIR_LIMIT
