use Rattle.std.proofs.{Common.arith, lemmas.Grind.common_steps}
use Rattle.smk_compose.proofs.passing.scan_maps.Goals as goal

pub loop-n-preserved : goal.loop-n-preserved
loop-n-preserved c = grind (arith, common_steps)

pub returns : goal.returns
returns c = grind (arith, common_steps)
