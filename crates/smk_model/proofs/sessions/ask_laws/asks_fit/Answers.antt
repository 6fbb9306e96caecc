use Rattle.smk_model.proofs.AsksFit.{asks_fit as law}
use Rattle.smk_model.proofs.sessions.ask_laws.asks_fit.Goals as goal

pub returns : goal.returns
returns c = law
