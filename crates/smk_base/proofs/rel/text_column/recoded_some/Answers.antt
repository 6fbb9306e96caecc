use Rattle.std.proofs.{Common.{◌≡◌, ◌∙◌, ◌+◌, ◌<◌, ℕ, ap, length, take, arith, rules}, lemmas.List.length-take-le}
use Rattle.smk_base.proofs.{Recoding.few_firsts_from, Appended.{AreAdded-more, texts_before}}
use Rattle.smk_base.proofs.rel.text_column.recoded_some.Goals as goal

pub add_bytes-requires : goal.add_bytes-requires
add_bytes-requires c =
    let low : c.loop-code.code < length c.args.other.now.texts = omega (arith, c.loop-code-test.true, c.len-code-end.ensures.count) in
    let first = take c.loop-code.code c.args.other.now.texts in
    omega (arith, ap length c.loop-code.invariant.added.texts, few_firsts_from c.args.dict.now.texts first, length-take-le c.loop-code.code c.args.other.now.texts (omega (arith, low)), low, c.requires)

pub returns-in_err-add_bytes-clause-kept : goal.returns-in_err-add_bytes-clause-kept
returns-in_err-add_bytes-clause-kept c =
    let first : take (length c.args.dict.now.texts) c.add_bytes.new.self.texts ≡ c.args.dict.now.texts = rw (c.in_err-add_bytes.ensures.kept, c.loop-code.invariant.added.texts) (texts_before c.args.dict.now.texts (take c.loop-code.code c.args.other.now.texts)) in
    search (rules, first)

pub loop-code-preserved : goal.loop-code-preserved
loop-code-preserved c =
    let low : c.loop-code.code < length c.args.other.now.texts = omega (arith, c.loop-code-test.true, c.len-code-end.ensures.count) in
    record {
      added = rw (c.in_ok-add_bytes.ensures.texts, c.push_reserved.ensures.items, c.in_ok-add_bytes.ensures.code, c.text.ensures) (AreAdded-more c.args.dict.now.texts c.args.other.now.texts c.loop-code.dict.texts c.loop-code.recoded.items c.loop-code.code low c.loop-code.invariant.added);
      len = c.push_reserved.ensures.len ∙ ap (λ (n : ℕ). n + 1) c.loop-code.invariant.len;
      room = rw c.push_reserved.ensures.capacity c.loop-code.invariant.room;
    }
