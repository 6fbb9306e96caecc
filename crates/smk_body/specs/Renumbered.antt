-- Rows numbered part by part, before equal keys of different parts have one number.
use Rattle.std.specs.Prelude.{◌≡◌, ℕ, ◌<◌, ◌≤◌, List, length, map, slice_index, slice_range}
use Rattle.smk_keys.specs.Classes.{ClassesImage, classes_of}
use Rattle.smk_model.specs.{Values.Row, Plain.key_of, Lineage.row_at}

-- these are the classes of the keys of the rows from one place up to another
abbrev pub HasKeys : List ℕ → List Row → ℕ → ℕ → ClassesImage → Type 0
HasKeys keys L from to classes = classes ≡ classes_of (map (key_of keys) (slice_range L from to))

-- numbers of the first n keys, in the order in which they come, and for each number its first place: the key there equals every key with this number
pub record StandFor (keys : List Row) (n : ℕ) (firsts of : List ℕ) : Type 0 where
  pub long : length of ≡ n
  pub few : length firsts ≤ n
  pub within : (i : ℕ) → i < n → slice_index of i < length firsts
  pub place : (k : ℕ) → k < length firsts → slice_index firsts k < n
  pub at : (k : ℕ) → k < length firsts → slice_index of (slice_index firsts k) ≡ k
  pub first : (k i : ℕ) → k < length firsts → i < slice_index firsts k → slice_index of i < k
  pub same : (i : ℕ) → i < n → row_at keys (slice_index firsts (slice_index of i)) ≡ row_at keys i
