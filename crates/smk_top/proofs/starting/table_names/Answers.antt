use Rattle.std.proofs.{Common.arith, lemmas.Grind.common_steps}
use Rattle.smk_top.proofs.starting.table_names.Goals as goal

pub loop-table-preserved : goal.loop-table-preserved
loop-table-preserved c = grind (arith, common_steps)
