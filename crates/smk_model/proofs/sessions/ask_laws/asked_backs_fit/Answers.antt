use Rattle.smk_model.proofs.AsksFit.{asked_backs_fit as law}
use Rattle.smk_model.proofs.sessions.ask_laws.asked_backs_fit.Goals as goal

pub returns : goal.returns
returns c = law
