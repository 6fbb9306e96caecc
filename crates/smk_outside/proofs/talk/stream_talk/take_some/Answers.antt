use Rattle.std.proofs.{Common.{◌≡◌, ◌≢◌, ◌<◌, ◌≤◌, ◌-◌, inl, inr, length, take, subst, ◌∙◌, rules, arith, take-take, eq-eqb}, lemmas.List.Elements.All-take}
use Rattle.std.specs.Io.BufRead.{FillKeeps, DropsConsumable}
use Rattle.smk_outside.proofs.{Reading.{part_taken, HasNoEnd}, talk.stream_talk.take_some.Goals.{then-end-eq0, else-end-eq0}}
use Rattle.smk_outside.proofs.talk.stream_talk.take_some.Goals as goal

pub returns-clause-some : goal.returns-clause-some
returns-clause-some g c =
    let shown = c.in-Ok.available.now in
    let end = c.min-end.result in
    let through = c.len_through in
    let rested = c.fill_buf.follows.lender-at-none in
    let filled = subst (FillKeeps _ (g.R.Read.remaining rested) (g.R.BufRead.consumable_len rested)) c.in-Ok.is c.fill_buf.follows.holds-at-none in
    let same : c.if-end-eq0.reader ≡ rested = search rules in
    let drops = subst (λ r. DropsConsumable (g.R.Read.remaining r) (g.R.Read.remaining c.consume.new.self) (g.R.BufRead.consumable_len r) end) same c.consume.ensures.bytes in
    let within : end ≤ length shown = omega (arith, through.ensures.bound) in
    let some : 0 < length shown → 0 < end = λ more. omega (arith, through.ensures.some more, c.requires) in
    let less : end - 1 ≤ through.result - 1 = omega arith in
    let before : HasNoEnd (take (end - 1) shown) = subst HasNoEnd (take-take (end - 1) (through.result - 1) shown less) (All-take (λ x. x ≢ 10) (end - 1) _ through.ensures.before) in (
      take end shown,
      c.in-Ok-extend_from_slice.ensures.items,
      part_taken _ _ _ _ shown end _ within some before c.in-Ok.ensures.front c.in-Ok.ensures.end filled.0 filled.1 drops
          (elim c.if-end-eq0.branch [
            | then-end-eq0 w ↦ inl (w.if-end-eq0.true, w.is_done-is ∙ eq-eqb _ _ w.if-end-eq0.true)
            | else-end-eq0 w ↦ inr (omega (arith, w.if-end-eq0.false), w.is_done-is)
          ]),
    )
