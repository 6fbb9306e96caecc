use Rattle.std.proofs.{Common.{◌≡◌, ◌≤◌, ◌∙◌, ap, sym, subst, length, take, arith}, lemmas.List.{take-map, length-take}}
use Rattle.smk_base.specs.{Dicts.{AreTexts, IsDict, texts_of}, declared.rel.TheConstants.ROW_LIMIT, HeldTexts.dict_held}
use Rattle.smk_base.proofs.{Recoding.AreTexts-take, rel.dict.Dict.truncate.Goals.{in-Few, in-Many}}
use Rattle.smk_base.proofs.rel.dict.Dict.truncate.Goals as goal

pub invariant_of-self : goal.invariant_of-self
invariant_of-self c = elim c.match-self.branch [
  | in-Few w ↦ (
      let texts = texts_of w.in-Few.list.items in
      let different : AreTexts texts = subst (λ h. AreTexts (dict_held h).texts) w.in-Few.is c.self.invariant.different in
      let few : length texts ≤ ROW_LIMIT = subst (λ h. length (dict_held h).texts ≤ ROW_LIMIT) w.in-Few.is c.self.invariant.few in
      let first : texts_of w.truncate.new.self.items ≡ take c.args.len texts = ap texts_of w.truncate.ensures.items ∙ sym (take-map (λ v. v.items) c.args.len w.in-Few.list.items) in
      subst (λ inside. IsDict (dict_held inside.held)) (sym w.self-inside-is) (record {
        different = rw first (AreTexts-take c.args.len texts different);
        few = rw first (omega (arith, length-take c.args.len texts, few));
      }))
  | in-Many w ↦ subst (λ inside. IsDict (dict_held inside.held)) (sym w.self-inside-is) w.truncate-in-Many.ensures.keeps
]

pub returns : goal.returns
returns c = elim c.match-self.branch [
  | in-Few w ↦ (
      ap (λ inside. (dict_held inside.held).texts) w.self-inside-is
      ∙ ap texts_of w.truncate.ensures.items
      ∙ sym (take-map (λ v. v.items) c.args.len w.in-Few.list.items)
      ∙ ap (take c.args.len) (ap (λ h. (dict_held h).texts) (sym w.in-Few.is) ∙ ap (λ d. d.texts) c.self.view_is))
  | in-Many w ↦ (
      ap (λ inside. (dict_held inside.held).texts) w.self-inside-is
      ∙ w.truncate-in-Many.ensures.texts
      ∙ ap (take c.args.len) (ap (λ d. d.texts) w.deref_mut.ensures.value ∙ ap (λ h. (dict_held h).texts) (sym w.in-Many.is) ∙ ap (λ d. d.texts) c.self.view_is))
]
