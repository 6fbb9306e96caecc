use Rattle.std.proofs.Common.{◌≡◌, ◌∙◌, Some, ap, sym}
use Rattle.smk_base.specs.{Dicts.{code_in, texts_of, with_text}, HeldTexts.dict_held}
use Rattle.smk_base.proofs.Codes.{with_text-known}
use Rattle.smk_base.proofs.rel.dict.Dict.add_bytes.Goals as goal

pub returns-in-Some-clause-texts : goal.returns-in-Some-clause-texts
returns-in-Some-clause-texts c =
    let texts = texts_of c.in-Few.list.items in
    let code : code_in texts c.args.text.now ≡ Some c.in-Some.code = rw (← c.as_slice.ensures.value) (sym c.place_of.ensures ∙ c.in-Some.is) in
    with_text-known texts c.args.text.now c.in-Some.code code ∙ ap (λ texts. with_text texts c.args.text.now) (ap (λ h. (dict_held h).texts) (sym c.in-Few.is) ∙ ap (λ d. d.texts) c.self.view_is)
