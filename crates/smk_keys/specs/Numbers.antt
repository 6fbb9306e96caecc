-- Numbers that stand for items.
use Rattle.std.specs.Prelude.{◌≡◌, ℕ, ◌<◌, List, length, slice_index, slice_index_or, All}

-- numbers below a count that are equal exactly if the items are
pub record AreNumbers {X : Type 0} (none : X) (items : List X) (count : ℕ) (numbers : List ℕ) : Type 0 where
  pub long : length numbers ≡ length items
  pub below : All (λ number. number < count) numbers
  pub same : (i j : ℕ) → i < length items → j < length items → slice_index numbers i ≡ slice_index numbers j → slice_index_or items i none ≡ slice_index_or items j none
  pub alike : (i j : ℕ) → i < length items → j < length items → slice_index_or items i none ≡ slice_index_or items j none → slice_index numbers i ≡ slice_index numbers j
