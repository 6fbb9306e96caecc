-- The two forms in which a rid map holds its lists.
use Rattle.std.specs.Prelude.{◌≡◌, ℕ, List}
use Rattle.smk_base.specs.Places.{pairs_of}
use Rattle.smk_rid.specs.{Maps.{IsMap, IsSingle}, declared.map.Storage.Storage, declared.map.Storage.TheVariants.{Array, Index}}

-- the lists, in whichever form
abbrev pub lists_of : Storage → List (List ℕ)
lists_of (Array lists) = lists
lists_of (Index lists) = lists

-- the form is an array exactly if each list has at most one rid
abbrev pub IsChosen : Storage → Type 0
IsChosen (Array lists) = IsSingle lists
IsChosen (Index lists) = IsSingle lists → ⊥

-- the lists are those of a rid map, in their form, and their rids are counted
pub record IsStored (storage : Storage) (bound pairs : ℕ) : Type 0 where
  pub map : IsMap (record { lists = lists_of storage; bound = bound })
  pub counted : pairs ≡ pairs_of (lists_of storage)
  pub chosen : IsChosen storage
