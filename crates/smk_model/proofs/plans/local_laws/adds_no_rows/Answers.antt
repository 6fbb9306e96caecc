use Rattle.smk_model.proofs.Sizes.{adds_no_rows as law}
use Rattle.smk_model.proofs.plans.local_laws.adds_no_rows.Goals as goal

pub returns : goal.returns
returns c = law
