use Rattle.smk_model.proofs.Pairs.{merged_has_both as law}
use Rattle.smk_model.proofs.plans.composed_laws.merged_has_both.Goals as goal

pub returns : goal.returns
returns c = law
