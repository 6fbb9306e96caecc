-- The invariant of a rid map, and the lists that its calls make.
use Rattle.std.specs.{Prelude.{ℕ, ◌<◌, ◌≤◌, ◌||◌, Bool, if◌then◌else◌, List, [], ◌∷◌, ◌++◌, length, map, slice_index_or, slice_set, Option}, List.{All, sum_by}, Option.option_to_list}
use Rattle.smk_base.specs.Places.{Lists, IsPlaces, pairs_of, places, has, upto, list_at}
use Rattle.smk_rid.specs.declared.map.TheConstants.{PAIR_LIMIT}

-- each list ascending without repeats and below the bound, fewer than 2 ^ 32 lists, and at most so many rids together
pub record IsMap (m : Lists) : Type 0 where
  pub sets : All (IsPlaces m.bound) m.lists
  pub short : length m.lists < 4294967296
  pub few : pairs_of m.lists ≤ PAIR_LIMIT

-- each list has at most one rid
abbrev pub IsSingle : List (List ℕ) → Type 0
IsSingle lists = All (λ l. length l ≤ 1) lists

-- for each optional rid the list of only that rid, or an empty list
abbrev pub array_lists : List (Option ℕ) → ℕ → Lists
array_lists of bound = record { lists = map option_to_list of; bound = bound }

-- the places below n that at least one of two lists has
abbrev pub both : List ℕ → List ℕ → ℕ → List ℕ
both A B n = places (λ r. has A r || has B r) n

-- the rids that at least one of two maps has for a place
abbrev pub merge_at : Lists → Lists → ℕ → List ℕ
merge_at a b i = both (list_at a i) (list_at b i) a.bound

-- with one more list at the end
abbrev pub with_list : Lists → List ℕ → Lists
with_list m list = record { lists = m.lists ++ list ∷ []; bound = m.bound }

-- with one more rid at the end of the list i
abbrev pub with_rid_at : Lists → ℕ → ℕ → Lists
with_rid_at m i rid = record { lists = slice_set m.lists i (list_at m i ++ rid ∷ []); bound = m.bound }

-- the places of those of the first n lists that have r
abbrev pub with_rid : List (List ℕ) → ℕ → ℕ → List ℕ
with_rid lists n r = places (λ i. has (slice_index_or lists i []) r) n

-- how many of the first n lists have r
abbrev pub size_of : List (List ℕ) → ℕ → ℕ → ℕ
size_of lists n r = length (with_rid lists n r)

-- how many of the first n lists have each rid below the bound
abbrev pub sizes_of : Lists → ℕ → List ℕ
sizes_of m n = map (size_of m.lists n) (upto m.bound)

-- how many of these marks aren't set
abbrev pub unmarked : List Bool → ℕ
unmarked marks = sum_by (λ m. if m then 0 else 1) marks
