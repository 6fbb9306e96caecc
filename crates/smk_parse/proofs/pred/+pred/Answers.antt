use Rattle.smk_parse.specs.Vocabulary.{AConj}
use Rattle.smk_parse.proofs.Steps.{smaller}
use Rattle.smk_parse.proofs.pred.+pred.Goals as goal

pub prim-returns-in_default : goal.prim-returns-in_default
prim-returns-in_default t c = c.compare.ensures c.args.depth

pub pred-ors-smaller : goal.pred-ors-smaller
pred-ors-smaller t c = smaller (AConj c.args.depth) _ _ _ _ _ c.advance.ensures c.in_ok-right.ensures
