use Rattle.smk_model.proofs.LimitsKept.{faultless_keep_limits as law}
use Rattle.smk_model.proofs.runs.grammar_laws.faultless_keep_limits.Goals as goal

pub returns : goal.returns
returns c = law
