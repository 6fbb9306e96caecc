use Rattle.std.proofs.{Common.{sym, arith}, lemmas.List.{take-map, length-take}}
use Rattle.smk_base.specs.Dicts.{text_eq, kept_texts}
use Rattle.smk_base.proofs.Texts.{distinct-map}
use Rattle.smk_base.proofs.rel.hashed.Hashed.truncate.Goals as goal

pub invariant_of-self : goal.invariant_of-self
invariant_of-self c = record {
  different = distinct-map text_eq (λ v. v.items) _ c.truncate.ensures.unique;
  few = rw (c.truncate.ensures.keys, ← take-map) (omega (arith, length-take c.args.len (kept_texts c.self.inside.texts.keys), c.self.invariant.few));
}

pub returns-clause-texts : goal.returns-clause-texts
returns-clause-texts c = rw (c.truncate.ensures.keys, ← c.self.view_is) (sym (take-map (λ v. v.items) c.args.len c.self.inside.texts.keys))

pub returns-clause-keeps : goal.returns-clause-keeps
returns-clause-keeps c = invariant_of-self c
