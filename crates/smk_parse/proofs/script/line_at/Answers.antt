use Rattle.smk_parse.proofs.Texts.{cuts_slice}
use Rattle.smk_parse.proofs.script.line_at.Goals as goal

pub returns-clause-some : goal.returns-clause-some
returns-clause-some c = cuts_slice c.args.script.now c.args.from c.line_len-len.result c.kept_len-kept.result c.min-behind.result c.requires c.if-from-script.false c.line_len-len.ensures.is c.line_len-len.ensures.within c.kept_len-kept.ensures.within c.kept_len-kept.ensures.is c.min-behind.ensures
