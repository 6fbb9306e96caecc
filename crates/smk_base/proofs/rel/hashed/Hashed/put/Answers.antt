use Rattle.smk_base.specs.Dicts.{text_eq}
use Rattle.smk_base.proofs.Texts.{distinct-map, add-map, prefix_len-map, few-add}
use Rattle.std.proofs.lemmas.List.{length-map}
use Rattle.smk_base.proofs.rel.hashed.Hashed.put.Goals as goal

pub invariant_of-self-2 : goal.invariant_of-self-2
invariant_of-self-2 c = record {
  different = distinct-map text_eq (λ v. v.items) _ c.in_ok-code.ensures.unique;
  few =
      let room = rw (← c.self.view_is, length-map) at c.requires in
      rw (length-map, c.in_ok-code.ensures.keys) (few-add _ c.self.inside.texts.keys c.args.text 1048576 room);
}

pub returns-clause-code : goal.returns-clause-code
returns-clause-code c = rw (← c.self.view_is, prefix_len-map) (c.in_ok-code.ensures.index)

pub returns-clause-texts : goal.returns-clause-texts
returns-clause-texts c = rw (c.in_ok-code.ensures.keys, ← c.self.view_is) (add-map (text_eq c.args.text.items) (λ v. v.items) c.self.inside.texts.keys c.args.text)

pub returns-clause-keeps : goal.returns-clause-keeps
returns-clause-keeps c = invariant_of-self-2 c
