use Rattle.std.proofs.{Common.arith, lemmas.Grind.common_steps}
use Rattle.smk_top.proofs.summarizing.sizes_of.Goals as goal

pub loop-number-preserved : goal.loop-number-preserved
loop-number-preserved c = grind (arith, common_steps)

pub overflow_cast-number-end : goal.overflow_cast-number-end
overflow_cast-number-end c = grind (arith, common_steps)
