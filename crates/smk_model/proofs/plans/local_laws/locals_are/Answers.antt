use Rattle.smk_model.proofs.Locals.{locals_are as law}
use Rattle.smk_model.proofs.plans.local_laws.locals_are.Goals as goal

pub returns : goal.returns
returns c = law
