-- Numbers that come in order.
use Rattle.std.specs.Prelude.{◌≡◌, ℕ, ◌<◌, List, length, slice_index}

-- no number among the first n comes before all lesser ones have come, and `firsts` has the place where each comes first
pub record IsInOrder (of firsts : List ℕ) (n : ℕ) : Type 0 where
  pub below : (i : ℕ) → i < n → slice_index of i < length firsts
  pub place : (k : ℕ) → k < length firsts → slice_index firsts k < n
  pub at : (k : ℕ) → k < length firsts → slice_index of (slice_index firsts k) ≡ k
  pub first : (k i : ℕ) → k < length firsts → i < slice_index firsts k → slice_index of i < k
