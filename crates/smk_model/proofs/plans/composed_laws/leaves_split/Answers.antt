use Rattle.smk_model.proofs.Leaves.{leaves_split as law}
use Rattle.smk_model.proofs.plans.composed_laws.leaves_split.Goals as goal

pub returns : goal.returns
returns c = law
