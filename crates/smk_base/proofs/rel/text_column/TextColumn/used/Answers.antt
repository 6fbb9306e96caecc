use Rattle.std.proofs.{Common.{arith, length, max, ◌≡◌, ◌+◌, ◌<◌, rules, inl, inr}, lemmas.Bool.cases_eq}
use Rattle.smk_base.proofs.Recoding.{few_firsts, firsts_next}
use Rattle.smk_base.proofs.rel.text_column.TextColumn.used.Goals as goal

pub overflow_add-code : goal.overflow_add-code
overflow_add-code c = omega (arith, c.code.ensures.within, few_firsts c.args.self.now.texts, c.requires.few)

pub loop-i-preserved : goal.loop-i-preserved
loop-i-preserved c =
    let most : c.max-used.result ≡ max c.loop-i.used (c.code.result + 1) = search rules in
    let here : c.loop-i.i < length c.args.self.now.texts = omega (arith, c.requires.within) in
    record {
      few = omega (arith, most, c.code.ensures.within, c.loop-i.invariant.few);
      firsts = rw most (firsts_next c.args.self.now.texts c.loop-i.i c.loop-i.used c.code.result here c.loop-i.invariant.few c.code.ensures.within c.code.ensures.text c.loop-i.invariant.firsts);
      within = λ k p. elim (cases_eq k c.loop-i.i) [
        | inl at ↦ rw at (omega (arith, most, c.code.ensures.code))
        | inr ne ↦ omega (arith, most, c.loop-i.invariant.within k (omega arith))
      ];
    }
