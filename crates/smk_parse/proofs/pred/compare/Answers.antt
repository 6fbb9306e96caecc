use Rattle.std.proofs.{Common.arith, lemmas.Grind.common_steps}
use Rattle.smk_parse.proofs.Steps.{in_order}
use Rattle.smk_parse.proofs.pred.compare.Goals as goal

pub returns-in_err-op : goal.returns-in_err-op
returns-in_err-op c = λ d. grind (arith, in_order)

pub returns-in_err-right : goal.returns-in_err-right
returns-in_err-right c = λ d. grind (arith, common_steps, in_order)
