use Rattle.std.proofs.{Common.{◌≡◌, ◌∙◌, ◌+◌, ◌<◌, ℕ, Bool, All, length, take, slice_set, get_or, ap, sym, subst, arith}, lemmas.List.{length-set, drop-set-lt}, lemmas.List.Elements.All-get_or, lemmas.List.Filters.FiltersInPlace}
use Rattle.smk_body.proofs.{Comparing.{next_same, rest_same, front_kept, front_left}, find.passing.keep_where.Goals.{then-test, else-test}}
use Rattle.smk_body.proofs.find.passing.keep_where.Goals as goal

pub test-requires : goal.test-requires
test-requires g c =
    let xs = c.as_mut_slice-items.result.now in
    let ys = c.loop-k.items in
    let i = c.loop-k.k in
    let same = next_same xs ys i (omega (arith, c.loop-k.invariant.long, c.loop-k-test.true)) c.loop-k-test.true c.loop-k.invariant.rest in
    subst (λ j. goal.F-pre g c.args.test.now j) (sym same) (All-get_or (λ j. goal.F-pre g c.args.test.now j) xs i 0 c.loop-k-test.true (subst (All (λ j. goal.F-pre g c.args.test.now j)) (sym c.as_mut_slice-items.ensures.value) c.requires))

pub loop-k-preserved : goal.loop-k-preserved
loop-k-preserved g c =
    let xs = c.as_mut_slice-items.result.now in
    let ys = c.loop-k.items in
    let k = c.loop-k.count in
    let i = c.loop-k.k in
    let x = get_or ys i 0 in
    let low : i < length ys = omega (arith, c.loop-k.invariant.long, c.loop-k-test.true) in
    let same = next_same xs ys i low c.loop-k-test.true c.loop-k.invariant.rest in
    let says = λ (f : ℕ → Bool) (j : ℕ). (told : Bool) → goal.F-post g c.args.test.now j told → told ≡ f j in
    let so : (f : ℕ → Bool) → All (says f) xs → FiltersInPlace f xs ys k i = λ f agree. record {
      front = c.loop-k.invariant.front f agree;
      rest = c.loop-k.invariant.rest;
      behind = c.loop-k.invariant.behind;
      within = omega (arith, c.loop-k-test.true);
      long = c.loop-k.invariant.long;
    } in
    let told = λ (f : ℕ → Bool) (agree : All (says f) xs). subst (says f) (sym same) (All-get_or (says f) xs i 0 c.loop-k-test.true agree) c.test.result c.test.ensures in
    record {
      behind = elim c.if-test.branch [
        | then-test w ↦ omega (arith, w.count-is, c.loop-k.invariant.behind)
        | else-test w ↦ omega (arith, w.count-is, c.loop-k.invariant.behind)
      ];
      long = length-set ys k x ∙ c.loop-k.invariant.long;
      rest = drop-set-lt (i + 1) ys k x (omega (arith, c.loop-k.invariant.behind)) ∙ rest_same xs ys i low c.loop-k-test.true c.loop-k.invariant.rest;
      front = λ f agree. elim c.if-test.branch [
        | then-test w ↦ ap (λ n. take n (slice_set ys k x)) w.count-is ∙ front_kept f xs ys k i (so f agree) low (sym (told f agree) ∙ w.if-test.true)
        | else-test w ↦ ap (λ n. take n (slice_set ys k x)) w.count-is ∙ front_left f xs ys k i (so f agree) low (sym (told f agree) ∙ w.if-test.false)
      ];
    }
