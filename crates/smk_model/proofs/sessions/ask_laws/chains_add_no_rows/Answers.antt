use Rattle.smk_model.proofs.Asks.{chains_add_no_rows as law}
use Rattle.smk_model.proofs.sessions.ask_laws.chains_add_no_rows.Goals as goal

pub returns : goal.returns
returns c = law
