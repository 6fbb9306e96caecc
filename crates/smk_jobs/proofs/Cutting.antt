-- Where parts begin.
use Rattle.std.proofs.{Common.{◌≡◌, ◌∙◌, ◌<◌, ◌≤◌, ◌+◌, ◌*◌, ◌/◌, ℕ, ap, arith}, Math.Nat.{zero-div, div-mul-le_self, div-le_of_le-mul, mul_comm, mul-le-mul, mul-le-mul_right, add-mul}, lemmas.Nat.{le-div, div-mul-add}}
use Rattle.smk_jobs.specs.Cuts.{cut_at}

-- the first begins at the first place
pub cut_first : (workers n : ℕ) → cut_at workers n 0 ≡ 0
cut_first workers n = ap (λ k. k / workers) (let none : 0 * n ≡ 0 = omega arith in none) ∙ zero-div workers

-- the last ends behind the last
pub cut_last : (workers n : ℕ) → 0 < workers → cut_at workers n workers ≡ n
cut_last workers n h =
    let same : workers * n ≡ n * workers + 0 = omega (arith, mul_comm workers n) in
    ap (λ k. k / workers) same ∙ div-mul-add n workers 0 h

-- so does what comes behind as many parts as there are
pub cut_end : (workers n p : ℕ) → 0 < workers → p ≡ workers → cut_at workers n p ≡ n
cut_end workers n p some e = ap (cut_at workers n) e ∙ cut_last workers n some

-- each begins where the one before it does, or behind
pub cut_grows : (workers n p : ℕ) → p < workers → cut_at workers n p ≤ cut_at workers n (p + 1)
cut_grows workers n p h =
    le-div (cut_at workers n p) ((p + 1) * n) workers (omega arith) (omega (arith, div-mul-le_self (p * n) workers, add-mul p 1 n))

-- none begins past the end
pub cut_within : (workers n p : ℕ) → p ≤ workers → cut_at workers n p ≤ n
cut_within workers n p h = div-le_of_le-mul workers {m = p * n} {n = n} (mul-le-mul_right {m = p} {n = workers} n h)

-- what is divided stays small
pub product_small : (workers n p : ℕ) → p ≤ workers → workers ≤ 64 → n ≤ 1048576 → p * n < 4294967296
product_small workers n p below few rows = omega (arith, mul-le-mul {n₁ = p} {m₁ = n} {n₂ = 64} {m₂ = 1048576} (omega arith) rows)
