use Rattle.smk_model.proofs.Parts.{cut as law}
use Rattle.smk_model.proofs.plans.local_laws.cut.Goals as goal

pub returns : goal.returns
returns c = law
