-- Files in memory, as contracts see them.
use Rattle.std.specs.{Prelude.{ℕ, nat_eq, Bool, ◌&&◌, is_some, List, Option, Some, if◌then◌else◌}, List.{find, list_any}, Option.option_map, Cmp.Lexicographic.pointwise}
use Rattle.smk_outside.specs.Outside.{next_count}

-- names with their bytes, the numbers of the calls that are to fail, and how many calls were made and how many failed by a fault
pub record StoredFiles : Type 0 where
  pub files : List (List ℕ × List ℕ)
  pub fails : List ℕ
  pub calls : ℕ
  pub faults : ℕ

-- the bytes of the first file of this name
abbrev pub contents_of : List (List ℕ × List ℕ) → List ℕ → Option (List ℕ)
contents_of files name = option_map (λ file. file.1) (find (λ file. pointwise nat_eq file.0 name) files)

-- what the object tells: all of its files
abbrev pub held_of : StoredFiles → Option (List ℕ → Option (List ℕ))
held_of store = Some (contents_of store.files)

-- whether the next call is one of those that are to fail
abbrev pub fails_next : StoredFiles → Bool
fails_next store = list_any (nat_eq store.calls) store.fails

-- one more call was made; it counts as a fault where it was to fail and the file is there
abbrev pub after_read : StoredFiles → List ℕ → StoredFiles
after_read store name = record store {
  calls = next_count store.calls;
  faults = if is_some (contents_of store.files name) && fails_next store then next_count store.faults else store.faults;
}
