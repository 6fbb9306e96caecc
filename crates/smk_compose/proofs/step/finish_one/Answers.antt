use Rattle.std.proofs.{Common.arith, lemmas.Grind.common_steps}
use Rattle.smk_compose.proofs.step.finish_one.Goals as goal

pub returns-clause-fault : goal.returns-clause-fault
returns-clause-fault g c = grind (arith, common_steps)

pub returns-clause-made : goal.returns-clause-made
returns-clause-made g c = grind (arith, common_steps)

pub returns-then-is_empty-clause-none : goal.returns-then-is_empty-clause-none
returns-then-is_empty-clause-none g c = grind (arith, common_steps)

pub returns-clause-none : goal.returns-clause-none
returns-clause-none g c = grind (arith, common_steps)

pub returns-then-is_empty-clause-made : goal.returns-then-is_empty-clause-made
returns-then-is_empty-clause-made g c = grind (arith, common_steps)
