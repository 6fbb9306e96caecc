use Rattle.std.proofs.Common.{◌≡◌, ◌≤◌, ◌∙◌, ap, sym, subst, length}
use Rattle.smk_base.specs.{Dicts.{AreTexts, texts_of}, HeldTexts.dict_held, declared.rel.TheConstants.ROW_LIMIT}
use Rattle.smk_base.proofs.{Texts.{items_alike, map_alike}, rel.dict.Dict.copy.Goals.In_ok-clone-in-Few}
use Rattle.smk_base.proofs.rel.dict.Dict.copy.Goals as goal

alike : (c : In_ok-clone-in-Few) → texts_of c.in_ok-clone-in-Few.field-0.items ≡ (dict_held c.self.inside.held).texts
alike c = map_alike (λ v. v.items) (λ v w h. items_alike v.items w.items h.0) _ _ c.in_ok-clone-in-Few.ensures.cases.0 ∙ ap (λ h. (dict_held h).texts) (sym c.in-Few.is)

pub invariant_of-result : goal.invariant_of-result
invariant_of-result c = record {
  different = subst AreTexts (sym (alike c)) c.self.invariant.different;
  few = subst (λ texts. length texts ≤ ROW_LIMIT) (sym (alike c)) c.self.invariant.few;
}

pub returns-in_ok-clone-in-Few : goal.returns-in_ok-clone-in-Few
returns-in_ok-clone-in-Few c = alike c ∙ ap (λ d. d.texts) c.self.view_is
