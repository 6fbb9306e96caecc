use Rattle.std.proofs.{Common.arith, lemmas.Grind.common_steps}
use Rattle.smk_session.proofs.InForce.{none_replaced}
use Rattle.smk_session.proofs.brush.in_force.with_brush.Goals as goal

pub returns : goal.returns
returns c = grind (arith, common_steps, none_replaced)
