use Rattle.smk_model.proofs.Replies.{first_contents as law}
use Rattle.smk_model.proofs.sessions.reply_laws.first_contents.Goals as goal

pub returns : goal.returns
returns c = law
