use Rattle.std.proofs.Common.{sym, ◌∙◌}
use Rattle.smk_base.specs.Dicts.{text_eq}
use Rattle.smk_base.proofs.Texts.{position-map}
use Rattle.smk_base.proofs.rel.dict.place_of.Goals as goal

pub returns-in-Some : goal.returns-in-Some
returns-in-Some c = sym c.in-Some.is ∙ c.place_among.ensures.place ∙ sym (position-map (text_eq c.args.text.now) (λ v. v.items) c.args.list.now)

pub returns-in-None : goal.returns-in-None
returns-in-None c = sym c.in-None.is ∙ c.place_among.ensures.place ∙ sym (position-map (text_eq c.args.text.now) (λ v. v.items) c.args.list.now)
