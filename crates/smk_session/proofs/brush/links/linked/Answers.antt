use Rattle.std.proofs.{Common.arith, lemmas.Grind.common_steps}
use Rattle.smk_session.proofs.brush.links.linked.Goals as goal

pub loop-link-preserved : goal.loop-link-preserved
loop-link-preserved c = grind (arith, common_steps)

pub returns : goal.returns
returns c = grind (arith, common_steps)
