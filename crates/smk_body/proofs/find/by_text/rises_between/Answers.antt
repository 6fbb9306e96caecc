use Rattle.std.proofs.{Common.{◌≡◌, ℕ, ◌<◌, ◌≤◌, ◌-◌, ◌++◌, ◌∷◌, [], length, get_or, ap, arith, rules, inl, inr}, lemmas.Bool.cases_lt, lemmas.List.{get_or_push, length_push}}
use Rattle.smk_body.proofs.{Rising.{rises_kept, rises_more}, find.by_text.rises_between.Goals.{then-code-next+in_ok-push, else-code-next}}
use Rattle.smk_body.proofs.find.by_text.rises_between.Goals as goal

pub loop-place-preserved : goal.loop-place-preserved
loop-place-preserved c =
    let codes = c.args.codes.now in
    let R = c.loop-place.rises.items in
    let place = c.loop-place.place in
    let code : c.from-code.result ≡ get_or codes place 0 = search rules in
    elim c.if-code-next.branch [
      | then-code-next+in_ok-push w ↦ (
          let more = length_push R place in
          let all : (i : ℕ) → c.args.from ≤ i → i < place → get_or codes i 0 < get_or codes place 0 = λ i p q. omega (arith, code, c.loop-place.invariant.3 i p q, w.if-code-next.true) in
          rw (w.rises-is, w.in_ok-push.ensures.items, w.next-is) (
            rises_more codes R c.args.from place c.loop-place.invariant.0 c.loop-place.invariant.1 all,
            λ none. absurd (omega (arith, none, more)),
            λ none. absurd (omega (arith, none, more)),
            λ i p q. elim (cases_lt i place) [
              | inl before ↦ omega (arith, code, all i p before)
              | inr here ↦ (let same : i ≡ place = omega (arith, here, q) in omega (arith, code, ap (λ k. get_or codes k 0) same))
            ],
            λ some.
                let last : get_or (R ++ place ∷ []) (length (R ++ place ∷ []) - 1) 0 ≡ place = get_or_push R place 0 _ (omega (arith, more)) in
                omega (arith, code, ap (λ k. get_or codes k 0) last),
          ))
      | else-code-next w ↦ (
          let some : 0 < length R = elim (cases_lt 0 (length R)) [
            | inl some ↦ some
            | inr none ↦ absurd (omega (arith, w.if-code-next.false, c.loop-place.invariant.2 (omega (arith, none))))
          ] in
          let last = c.loop-place.invariant.4 some in
          rw (w.rises-is, w.next-is) (
            rises_kept codes R c.args.from place c.loop-place.invariant.0 some (omega (arith, code, last, w.if-code-next.false)),
            λ none. absurd (omega (arith, none, some)),
            λ none. absurd (omega (arith, none, some)),
            λ i p q. elim (cases_lt i place) [
              | inl before ↦ c.loop-place.invariant.3 i p before
              | inr here ↦ (let same : i ≡ place = omega (arith, here, q) in omega (arith, code, w.if-code-next.false, ap (λ k. get_or codes k 0) same))
            ],
            λ h. last,
          ))
    ]
