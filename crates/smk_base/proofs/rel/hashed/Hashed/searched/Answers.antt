use Rattle.std.proofs.Common.{sym, ◌∙◌}
use Rattle.smk_base.specs.Dicts.{text_eq}
use Rattle.smk_base.proofs.Texts.{position-map}
use Rattle.smk_base.proofs.rel.hashed.Hashed.searched.Goals as goal

pub returns-in-Some : goal.returns-in-Some
returns-in-Some c = rw (← c.self.view_is) (sym c.in-Some.is ∙ c.get_index_of.ensures.index ∙ sym (position-map (text_eq c.args.text.now) (λ v. v.items) c.self.inside.texts.keys))

pub returns-in-None : goal.returns-in-None
returns-in-None c = rw (← c.self.view_is) (sym c.in-None.is ∙ c.get_index_of.ensures.index ∙ sym (position-map (text_eq c.args.text.now) (λ v. v.items) c.self.inside.texts.keys))
