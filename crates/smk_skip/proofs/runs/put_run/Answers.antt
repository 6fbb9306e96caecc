use Rattle.std.proofs.{Common.arith, lemmas.Grind.common_steps}
use Rattle.smk_skip.proofs.runs.put_run.Goals as goal

pub loop-k-preserved : goal.loop-k-preserved
loop-k-preserved c = grind (arith, common_steps)
