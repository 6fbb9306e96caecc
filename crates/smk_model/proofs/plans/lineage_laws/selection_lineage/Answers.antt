use Rattle.smk_model.proofs.Selections.{selections}
use Rattle.smk_model.proofs.plans.lineage_laws.selection_lineage.Goals as goal

pub returns : goal.returns
returns c = selections
