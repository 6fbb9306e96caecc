use Rattle.std.proofs.{Common.arith, lemmas.Grind.common_steps}
use Rattle.smk_profile.proofs.profiling.is_among.Goals as goal

pub loop-other-preserved : goal.loop-other-preserved
loop-other-preserved c = grind (arith, common_steps)

pub returns-then-eq : goal.returns-then-eq
returns-then-eq c = grind (arith, common_steps)
