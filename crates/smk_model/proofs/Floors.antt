-- The floor of a quotient.
use Rattle.std.proofs.{Common.{◌≡◌, ℕ, zero, suc, ◌+◌, ◌*◌, ◌/◌, ◌<◌, ◌≤◌, ℤ, pos, negsuc, ◌+ℤ◌, ◌*ℤ◌, ◌≤ℤ◌, ◌<ℤ◌, neg_ℤ, arith}, Math.Nat.{div-mul-le_self, lt-div-mul-add, suc-mul, le-div_iff_mul-le, div-lt_iff_lt-mul}, lemmas.Int.ints}
use Rattle.smk_model.specs.{Values.bin, LineageLaws.BinIsFloor}

neg_below : (m a : ℕ) → suc a ≤ m → neg_ℤ (pos m) ≤ℤ negsuc a
neg_below zero a h = absurd (omega arith)
neg_below (suc m) a h = omega (arith, ints, h)

below_neg : (m a : ℕ) → neg_ℤ (pos m) ≤ℤ negsuc a → suc a ≤ m
below_neg zero a h = absurd (omega (arith, ints, h))
below_neg (suc m) a h = omega (arith, ints, h)

over_neg : (m a : ℕ) → m ≤ a → negsuc a <ℤ neg_ℤ (pos m)
over_neg zero a h = omega (arith, ints)
over_neg (suc m) a h = omega (arith, ints, h)

within : (v w : ℤ) → pos 1 ≤ℤ w → (bin v w *ℤ w) ≤ℤ v
within (pos a) (pos b) h = omega (arith, ints, div-mul-le_self a b)
within (negsuc a) (pos b) h =
    let some : 0 < b = omega (arith, ints, h) in
    neg_below (suc (a / b) * b) a (omega (arith, lt-div-mul-add {a = a} some, suc-mul (a / b) b))
within (pos a) (negsuc b) h = absurd (omega (arith, ints, h))
within (negsuc a) (negsuc b) h = absurd (omega (arith, ints, h))

above : (a b q : ℕ) → q * b ≤ a → negsuc a <ℤ ((negsuc q +ℤ pos 1) *ℤ pos b)
above a b zero h = omega (arith, ints)
above a b (suc q) h =
    let less : negsuc (suc q) +ℤ pos 1 ≡ negsuc q = omega (arith, ints) in
    rw less (over_neg (suc q * b) a h)

next : (v w : ℤ) → pos 1 ≤ℤ w → v <ℤ ((bin v w +ℤ pos 1) *ℤ w)
next (pos a) (pos b) h =
    let some : 0 < b = omega (arith, ints, h) in
    let more : a / b + 1 ≡ suc (a / b) = omega arith in
    let low : a < (a / b + 1) * b = rw more (omega (arith, lt-div-mul-add {a = a} some, suc-mul (a / b) b)) in
    omega (arith, ints, low)
next (negsuc a) (pos b) h = above a b (a / b) (div-mul-le_self a b)
next (pos a) (negsuc b) h = absurd (omega (arith, ints, h))
next (negsuc a) (negsuc b) h = absurd (omega (arith, ints, h))

greatest : (v w q : ℤ) → pos 1 ≤ℤ w → (q *ℤ w) ≤ℤ v → q ≤ℤ bin v w
greatest (pos a) (pos b) (pos c) h l =
    let some : 0 < b = omega (arith, ints, h) in
    let low : c * b ≤ a = omega (arith, ints, l) in
    omega (arith, ints, (le-div_iff_mul-le {x = c} {y = a} some).1 low)
greatest (pos a) (pos b) (negsuc c) h l = omega (arith, ints)
greatest (negsuc a) (pos b) (pos c) h l = absurd (omega (arith, ints, l))
greatest (negsuc a) (pos b) (negsuc c) h l =
    let some : 0 < b = omega (arith, ints, h) in
    let low : a / b < suc c = (div-lt_iff_lt-mul {x = a} {y = suc c} some).1 (below_neg (suc c * b) a l) in
    omega (arith, ints, low)
greatest (pos a) (negsuc b) q h l = absurd (omega (arith, ints, h))
greatest (negsuc a) (negsuc b) q h l = absurd (omega (arith, ints, h))

pub bin_is_floor : BinIsFloor
bin_is_floor = record { within = within; next = next; greatest = greatest }
