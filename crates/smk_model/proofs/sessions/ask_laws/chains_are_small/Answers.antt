use Rattle.smk_model.proofs.Asks.{chains_are_small as law}
use Rattle.smk_model.proofs.sessions.ask_laws.chains_are_small.Goals as goal

pub returns : goal.returns
returns c = law
