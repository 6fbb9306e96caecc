use Rattle.smk_model.proofs.Dependencies.{dependencies_shown as law}
use Rattle.smk_model.proofs.sessions.fd_laws.fd_law.Goals as goal

pub returns : goal.returns
returns c = law
