use Rattle.smk_base.proofs.Relating.{texts-values, text-values}
use Rattle.smk_base.proofs.rel.Rel.code.Goals as goal

pub returns-clause-code : goal.returns-clause-code
returns-clause-code c =
    let texts = texts-values c.args.c c.args.self.now.rows c.texts.result.now.texts c.texts.ensures in
    let text = text-values c.args.c c.args.self.now.rows c.texts.result.now.texts c.args.i c.texts.ensures c.requires.row in
    rw (texts, text) c.code.ensures.code

pub returns-clause-within : goal.returns-clause-within
returns-clause-within c = rw (texts-values c.args.c c.args.self.now.rows c.texts.result.now.texts c.texts.ensures) c.code.ensures.within

pub returns-clause-text : goal.returns-clause-text
returns-clause-text c =
    let texts = texts-values c.args.c c.args.self.now.rows c.texts.result.now.texts c.texts.ensures in
    let text = text-values c.args.c c.args.self.now.rows c.texts.result.now.texts c.args.i c.texts.ensures c.requires.row in
    rw (texts, text) c.code.ensures.text
