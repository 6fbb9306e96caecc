use Rattle.std.proofs.Common.{◌≡◌, sym, subst}
use Rattle.smk_base.specs.Dicts.{AreTexts, kept_texts}
use Rattle.smk_base.proofs.{Texts.{items_alike, map_alike}, rel.hashed.Hashed.copy.Goals.In_ok-from_slice}
use Rattle.smk_base.proofs.rel.hashed.Hashed.copy.Goals as goal

alike : (c : In_ok-from_slice) → kept_texts c.in_ok-clone.field-0.keys ≡ kept_texts c.self.inside.texts.keys
alike c = map_alike (λ v. v.items) (λ v w. items_alike v.items w.items) _ _ c.in_ok-clone.ensures.cases

pub invariant_of-result : goal.invariant_of-result
invariant_of-result c = record {
  different = subst AreTexts (sym (alike c)) c.self.invariant.different;
  few = rw (alike c) c.self.invariant.few;
}

pub returns-clause-texts : goal.returns-clause-texts
returns-clause-texts c = rw (← c.self.view_is) (alike c)

pub returns-clause-keeps : goal.returns-clause-keeps
returns-clause-keeps c = invariant_of-result c
