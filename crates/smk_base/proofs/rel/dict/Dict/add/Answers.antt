use Rattle.std.proofs.{Common.{◌≡◌, ◌∙◌, ◌++◌, ◌∷◌, [], Some, false, ap, sym, subst, refl, length, arith}, lemmas.List.{map_push, length_push, length-map}}
use Rattle.std.specs.List.{list_any}
use Rattle.smk_base.specs.{Dicts.{AreTexts, code_in, text_eq, texts_of, with_text}, HeldTexts.dict_held}
use Rattle.smk_base.proofs.{Codes.{absent, none_at, with_text-known}, Recoding.AreTexts-push, rel.dict.Dict.add.Goals.After-len-in-None}
use Rattle.smk_base.proofs.rel.dict.Dict.add.Goals as goal

new : (c : After-len-in-None) → list_any (text_eq c.args.text) (texts_of c.in-Few.list.items) ≡ false
new c = absent (texts_of c.in-Few.list.items) c.args.text (rw (← c.as_slice.ensures.value, ← c.as_slice-in-Few.ensures) (sym c.place_of.ensures ∙ c.in-None.is))

pushed : (c : After-len-in-None) → texts_of c.push_reserved.new.self.items ≡ texts_of c.in-Few.list.items ++ c.args.text ∷ []
pushed c =
    ap texts_of (c.push_reserved.ensures.items ∙ ap (λ l. l ++ c.into_vec.result ∷ []) c.in_ok-reserve-in-None.ensures.items)
    ∙ map_push (λ v. v.items) c.in-Few.list.items c.into_vec.result
    ∙ ap (λ t. texts_of c.in-Few.list.items ++ t ∷ []) c.into_vec.ensures

pub invariant_of-self-then-len-lt-FEW : goal.invariant_of-self-then-len-lt-FEW
invariant_of-self-then-len-lt-FEW c = record {
  different = rw (pushed c) (AreTexts-push (texts_of c.in-Few.list.items) c.args.text (subst (λ h. AreTexts (dict_held h).texts) c.in-Few.is c.self.invariant.different) (new c));
  few = rw (pushed c, length_push, ap (λ h. (dict_held h).texts) (sym c.in-Few.is) ∙ ap (λ d. d.texts) c.self.view_is) (omega (arith, c.requires));
}

pub returns-in-Some-clause-texts : goal.returns-in-Some-clause-texts
returns-in-Some-clause-texts c =
    let texts = texts_of c.in-Few.list.items in
    let code : code_in texts c.args.text ≡ Some c.in-Some.code = rw (← c.as_slice.ensures.value, ← c.as_slice-in-Few.ensures) (sym c.place_of.ensures ∙ c.in-Some.is) in
    with_text-known texts c.args.text c.in-Some.code code ∙ ap (λ texts. with_text texts c.args.text) (ap (λ h. (dict_held h).texts) (sym c.in-Few.is) ∙ ap (λ d. d.texts) c.self.view_is)

pub returns-in_ok-reserve-in-None-clause-code : goal.returns-in_ok-reserve-in-None-clause-code
returns-in_ok-reserve-in-None-clause-code c =
    let texts = texts_of c.in-Few.list.items in
    let held : texts ≡ c.args.self.now.texts = ap (λ h. (dict_held h).texts) (sym c.in-Few.is) ∙ ap (λ d. d.texts) c.self.view_is in
    rw (← held, none_at (text_eq c.args.text) texts (new c)) (omega (arith, length-map c.in-Few.list.items (λ v. v.items), c.as_slice.ensures.len, ap length c.as_slice.ensures.value, c.len-in-None.ensures, c.push_reserved.ensures.len, c.in_ok-reserve-in-None.ensures.len))

pub returns-in_ok-reserve-in-None-clause-texts : goal.returns-in_ok-reserve-in-None-clause-texts
returns-in_ok-reserve-in-None-clause-texts c =
    let texts = texts_of c.in-Few.list.items in
    let held : texts ≡ c.args.self.now.texts = ap (λ h. (dict_held h).texts) (sym c.in-Few.is) ∙ ap (λ d. d.texts) c.self.view_is in
    pushed c ∙ rw (← held, new c) refl
