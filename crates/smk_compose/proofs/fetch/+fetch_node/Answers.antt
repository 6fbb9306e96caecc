use Rattle.std.proofs.{Common.arith, lemmas.Grind.common_steps}
use Rattle.smk_compose.proofs.Lists.{map_two, rows_two}
use Rattle.smk_compose.proofs.fetch.+fetch_node.Goals as goal

pub returns-in_err-fetch_node-in-Two-clause-looks : goal.returns-in_err-fetch_node-in-Two-clause-looks
returns-in_err-fetch_node-in-Two-clause-looks c = grind (arith, common_steps)

pub returns-in_ok-fetch_node-in-Two-clause-looks : goal.returns-in_ok-fetch_node-in-Two-clause-looks
returns-in_ok-fetch_node-in-Two-clause-looks c = grind (arith, common_steps)

pub returns-in_ok-fetch_node-in-Two-clause-added : goal.returns-in_ok-fetch_node-in-Two-clause-added
returns-in_ok-fetch_node-in-Two-clause-added c = grind (arith, common_steps, map_two, rows_two)
