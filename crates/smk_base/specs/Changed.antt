-- What a call changes by its `&mut`.
use Rattle.std.specs.{Prelude.{◌≡◌, ℕ, ◌⊎◌}, Borrow.MutBor, Fn.Shared}

module _ {F T R : Type 0} (g : Shared F (ℕ × (MutBor T × Unit {0})) (R × (MutBor T × Unit {0}))) (f : F) (k : ℕ) (x : T) where
  -- f may be called with k and a `&mut` to x
  abbrev pub TakesAt : Type 0
  TakesAt = (p : MutBor T) → p.now ≡ x → g.pre f (k, (p, tt))

  -- such a call may give r and leave x'
  pub record LeavesAt (r : R) (x' : T) : Type 0 where
    pub shown : MutBor T
    pub shows : shown.now ≡ x
    pub left : MutBor T
    pub met : g.post f (k, (shown, tt)) (r, (left, tt))
    pub leaves : left.now ≡ x'

  -- x' is x, or what such a call may leave
  abbrev pub MayLeaveAt : T → Type 0
  MayLeaveAt x' = (x' ≡ x) ⊎ ((r : R) × LeavesAt r x')
