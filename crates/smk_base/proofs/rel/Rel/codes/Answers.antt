use Rattle.smk_base.proofs.Relating.{texts-values, AreCodesOf-texts}
use Rattle.smk_base.proofs.rel.Rel.codes.Goals as goal

pub returns-clause-equal : goal.returns-clause-equal
returns-clause-equal c = rw c.texts.ensures (AreCodesOf-texts _ _ _ c.codes.ensures.codes c.codes.ensures.texts)

pub returns-clause-codes : goal.returns-clause-codes
returns-clause-codes c = rw (texts-values c.args.c c.args.self.now.rows c.texts.result.now.texts c.texts.ensures) c.codes.ensures.codes

pub returns-clause-within : goal.returns-clause-within
returns-clause-within c = rw (texts-values c.args.c c.args.self.now.rows c.texts.result.now.texts c.texts.ensures) c.codes.ensures.within

pub returns-clause-texts : goal.returns-clause-texts
returns-clause-texts c = rw (texts-values c.args.c c.args.self.now.rows c.texts.result.now.texts c.texts.ensures) c.codes.ensures.texts
