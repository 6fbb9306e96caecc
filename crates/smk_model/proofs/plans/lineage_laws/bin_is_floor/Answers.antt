use Rattle.smk_model.proofs.Floors.{bin_is_floor as law}
use Rattle.smk_model.proofs.plans.lineage_laws.bin_is_floor.Goals as goal

pub returns : goal.returns
returns c = law
