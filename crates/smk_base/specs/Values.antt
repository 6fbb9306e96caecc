-- When two values are the same, and what a value feeds a hasher.
use Rattle.std.specs.{Prelude.{◌≡◌, Bool, false, nat_eq, ◌++◌, Decides}, Ordering.int_eq, Cmp.{unsigned_Decides, signed_Decides}, Cmp.Lexicographic.pointwise}
use Rattle.std.specs.Hash as fed
use Rattle.std.proofs.{Common.{refl, ap, sym, true≢false}, lemmas.Slice.Eq.slice_eq-Decides}
use Rattle.smk_base.specs.{declared.value.Value.Value, declared.value.Value.TheVariants.{Int, Text}}

-- whether two values are the same int or the same text
abbrev pub value_eq : Value → Value → Bool
value_eq (Int a) (Int b) = int_eq a b
value_eq (Text a) (Text b) = pointwise nat_eq a b
value_eq _ _ = false

pub value_same : (a b : Value) → Decides (value_eq a b) (a ≡ b)
value_same (Int a) (Int b) = (λ e. ap Int ((signed_Decides a b).0 e), λ e. (signed_Decides a b).1 (cc))
value_same (Text a) (Text b) = (λ e. ap Text ((slice_eq-Decides unsigned_Decides a b (pointwise nat_eq a b) refl).0 e), λ e. (slice_eq-Decides unsigned_Decides a b (pointwise nat_eq a b) refl).1 (cc))
value_same _ _ = (λ e. absurd (true≢false (sym e)), λ e. absurd (cc))

-- what a value writes into a hasher: its variant, then its content
abbrev pub value_fed : Value → fed.HashWrites
value_fed (Int a) = fed.u8 0 ++ fed.i128 a
value_fed (Text a) = fed.u8 1 ++ fed.slice fed.u8 a
