use Rattle.smk_model.proofs.Composed.{forwards_compose as law}
use Rattle.smk_model.proofs.plans.composed_laws.forwards_compose.Goals as goal

pub returns : goal.returns
returns c = law
