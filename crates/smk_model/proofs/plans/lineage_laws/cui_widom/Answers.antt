use Rattle.smk_model.proofs.CuiWidom.{cui_widom as law}
use Rattle.smk_model.proofs.plans.lineage_laws.cui_widom.Goals as goal

pub returns : goal.returns
returns c = law
