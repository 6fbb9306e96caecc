use Rattle.std.proofs.{Common.arith, lemmas.Grind.common_steps}
use Rattle.smk_inputs.proofs.FileReads.{spelt, keeps_limits, misspelt}
use Rattle.smk_inputs.proofs.opening.parsed.Goals as goal

pub returns-in-Err : goal.returns-in-Err
returns-in-Err c = grind (arith, common_steps, spelt, keeps_limits, misspelt)
