use Rattle.smk_model.proofs.Annotated.{step_by_step as law}
use Rattle.smk_model.proofs.plans.lineage_laws.step_by_step.Goals as goal

pub returns : goal.returns
returns c = law
