use Rattle.std.proofs.{Common.arith, lemmas.Grind.common_steps}
use Rattle.smk_compose.proofs.Lists.{over_rows, over_kinds, over_long}
use Rattle.smk_compose.proofs.fetch.fetch_leaves.Goals as goal

pub returns-clause-count : goal.returns-clause-count
returns-clause-count g c = grind (arith, common_steps, over_rows, over_kinds, over_long)

pub returns-clause-kinds : goal.returns-clause-kinds
returns-clause-kinds g c = grind (arith, common_steps, over_rows, over_kinds, over_long)

pub returns-clause-rows : goal.returns-clause-rows
returns-clause-rows g c = grind (arith, common_steps, over_rows, over_kinds, over_long)
