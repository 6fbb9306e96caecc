use Rattle.smk_model.proofs.Annotated.{rows_agree as law}
use Rattle.smk_model.proofs.plans.lineage_laws.rows_agree.Goals as goal

pub returns : goal.returns
returns c = law
