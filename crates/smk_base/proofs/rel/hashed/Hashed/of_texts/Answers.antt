use Rattle.std.proofs.{Common.{◌≡◌, ◌∙◌, ap, sym, arith, get_or, take, []}, lemmas.List.{length-map, get_or-map}}
use Rattle.smk_base.specs.Dicts.{texts_of, with_text}
use Rattle.smk_base.proofs.Codes.{with_text-next}
use Rattle.smk_base.proofs.rel.hashed.Hashed.of_texts.Goals as goal

pub loop-text-preserved : goal.loop-text-preserved
loop-text-preserved c =
    let texts = texts_of c.args.texts.now in
    let i = c.loop-text.text-index in
    let at : c.as_slice.result.now ≡ get_or texts i [] = c.as_slice.ensures.value ∙ ap (λ v. v.items) c.text-item.is ∙ sym (get_or-map (λ v. v.items) c.args.texts.now i c.text-item.result [] c.loop-text-test.true) in
    record {
      texts = c.in_ok-add_bytes.ensures.texts ∙ ap (λ texts. with_text texts c.as_slice.result.now) c.loop-text.invariant.texts ∙ ap (with_text (take i texts)) at ∙ with_text-next texts i c.requires.different (omega (arith, length-map c.args.texts.now (λ v. v.items), c.loop-text-test.true));
    }
