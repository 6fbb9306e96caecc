-- Bins of the numbers from a least one on.
use Rattle.std.proofs.Common.{◌≡◌, ℕ, ℤ, pos, ◌+ℤ◌, ◌-ℤ◌, List, [], ◌∷◌, ◌++◌, length, ◌∙◌, arith, inl, inr}
use Rattle.std.specs.{Prelude.◌≤ℤ◌, Int.int_div_euclid}
use lib.IntN.{nat_abs}
use lib.Signed.{yes_non_neg, pos-nat_abs}
use Rattle.std.proofs.{lemmas.Bool.cases_lt, lemmas.Int.ints, lemmas.List.{get_or_append_left, get_or_push, length_push}}
use Rattle.smk_base.specs.Rels.{AreBinsFrom}

-- a number is the least and how far it is above it
pub above-is : (least x : ℤ) → least ≤ℤ x → least +ℤ pos (nat_abs (x -ℤ least)) ≡ x
above-is least x h =
    let rising : pos 0 ≤ℤ (x -ℤ least) = omega (arith, ints) in
    let same = pos-nat_abs (x -ℤ least) (yes_non_neg rising) in
    omega (arith, ints)

-- one more bin
pub bins-next : (least width : ℤ) (bins : List ℤ) (k : ℕ) (bin : ℤ) → length bins ≡ k → bin ≡ int_div_euclid (least +ℤ pos k) width → AreBinsFrom least width bins → AreBinsFrom least width (bins ++ bin ∷ [])
bins-next least width bins k bin long at is = λ j h. elim (cases_lt j k) [
  | inl less ↦ get_or_append_left bins (bin ∷ []) (pos 0) j (omega (arith, less, long)) ∙ is j (omega (arith, less, long))
  | inr more ↦ (let e : j ≡ k = omega (arith, more, long, length_push bins bin, h) in rw e (get_or_push bins bin (pos 0) k long ∙ at))
]
