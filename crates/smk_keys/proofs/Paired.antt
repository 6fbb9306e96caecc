-- Pairs of numbers.
use Rattle.std.proofs.{Common.{◌≡◌, ℕ, ◌+◌, ◌*◌, ◌<◌, ◌≤◌, List, length, get_or, ap, sym, ◌∙◌, arith, All}, lemmas.List.get_or_default, lemmas.Nat.{mul-add-lt, same_from_place}, lemmas.Slice.Zip.{length-zip, get_or-zip}}
use Rattle.std.specs.List.{zip}
use Rattle.smk_keys.specs.Numbers.{AreNumbers}

-- places in a table are numbers of pairs
pub AreNumbers-places : (lefts rights : List ℕ) (height width : ℕ) (places : List ℕ) → length rights ≡ length lefts → All (λ k. k < height) lefts → All (λ k. k < width) rights
    → length places ≡ length lefts → ((k : ℕ) → k < length lefts → get_or places k 0 ≡ get_or lefts k 0 * width + get_or rights k 0) → AreNumbers (0, 0) (zip lefts rights) (height * width) places
AreNumbers-places lefts rights height width places long above beside e at =
    let pairs : length (zip lefts rights) ≡ length lefts = omega (arith, length-zip lefts rights) in
    let pair : (i : ℕ) → i < length lefts → get_or (zip lefts rights) i (0, 0) ≡ (get_or lefts i 0, get_or rights i 0) = (λ i h. get_or-zip lefts rights i (0, 0) h (omega arith)) in
    record {
      long = omega arith;
      below = λ i d h.
          let inside : i < length lefts = omega arith in
          rw (get_or_default places i d 0 h, at i inside) (omega (arith, mul-add-lt (get_or lefts i 0) width (get_or rights i 0) height (above i 0 inside) (beside i 0 (omega arith))));
      same = λ i j p q f.
          let parts = same_from_place (get_or lefts i 0) (get_or rights i 0) (get_or lefts j 0) (get_or rights j 0) width (beside i 0 (omega arith)) (beside j 0 (omega arith)) (sym (at i (omega arith)) ∙ f ∙ at j (omega arith)) in
          pair i (omega arith) ∙ (λ t. (parts.0 t, parts.1 t)) ∙ sym (pair j (omega arith));
      alike = λ i j p q f.
          let same = sym (pair i (omega arith)) ∙ f ∙ pair j (omega arith) in
          at i (omega arith) ∙ ap (λ (p : ℕ × ℕ). p.0 * width + p.1) same ∙ sym (at j (omega arith));
    }

-- where the left numbers are all the same, the right ones are numbers of pairs
pub AreNumbers-right : (lefts rights : List ℕ) (height width : ℕ) → length rights ≡ length lefts → height ≤ 1 → All (λ k. k < height) lefts → All (λ k. k < width) rights → AreNumbers (0, 0) (zip lefts rights) width rights
AreNumbers-right lefts rights height width long one above beside =
    let pairs : length (zip lefts rights) ≡ length lefts = omega (arith, length-zip lefts rights) in
    let pair : (i : ℕ) → i < length lefts → get_or (zip lefts rights) i (0, 0) ≡ (get_or lefts i 0, get_or rights i 0) = (λ i h. get_or-zip lefts rights i (0, 0) h (omega arith)) in
    let zero_at : (i : ℕ) → i < length lefts → get_or lefts i 0 ≡ 0 = (λ i h. omega (arith, above i 0 h)) in
    record {
      long = omega arith;
      below = beside;
      same = λ i j p q f.
          let front = zero_at i (omega arith) ∙ sym (zero_at j (omega arith)) in
          pair i (omega arith) ∙ (λ t. (front t, f t)) ∙ sym (pair j (omega arith));
      alike = λ i j p q f. ap (λ (p : ℕ × ℕ). p.1) (sym (pair i (omega arith)) ∙ f ∙ pair j (omega arith));
    }
