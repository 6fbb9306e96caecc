use Rattle.smk_model.proofs.QueryAnswers.{answers_are_places as law}
use Rattle.smk_model.proofs.plans.lineage_laws.answers_are_places.Goals as goal

pub returns : goal.returns
returns c = law
