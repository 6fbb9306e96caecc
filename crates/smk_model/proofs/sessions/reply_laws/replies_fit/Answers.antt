use Rattle.smk_model.proofs.RepliesFit.{replies_fit as law}
use Rattle.smk_model.proofs.sessions.reply_laws.replies_fit.Goals as goal

pub returns : goal.returns
returns c = law
