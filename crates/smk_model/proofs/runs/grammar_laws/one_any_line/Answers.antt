use Rattle.smk_model.proofs.OneTree.{one_any_line as law}
use Rattle.smk_model.proofs.runs.grammar_laws.one_any_line.Goals as goal

pub returns : goal.returns
returns c = law
