use Rattle.smk_model.proofs.Composed.{lists_stand as law}
use Rattle.smk_model.proofs.plans.composed_laws.lists_stand.Goals as goal

pub returns : goal.returns
returns c = law
