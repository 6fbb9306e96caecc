use Rattle.std.proofs.{Common.arith, lemmas.Grind.common_steps}
use Rattle.smk_session.proofs.brush.in_force.without_brush.Goals as goal

pub loop-old-preserved : goal.loop-old-preserved
loop-old-preserved c = grind (arith, common_steps)
