use Rattle.std.proofs.{Common.arith, lemmas.Grind.common_steps}
use Rattle.smk_defer.proofs.keys.key_at.Goals as goal

pub loop-c-preserved : goal.loop-c-preserved
loop-c-preserved c = grind (arith, common_steps)

pub returns : goal.returns
returns c = grind (arith, common_steps)
