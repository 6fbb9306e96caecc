use Rattle.smk_model.proofs.Composed.{backs_compose as law}
use Rattle.smk_model.proofs.plans.composed_laws.backs_compose.Goals as goal

pub returns : goal.returns
returns c = law
