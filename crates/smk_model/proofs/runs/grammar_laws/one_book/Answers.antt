use Rattle.smk_model.proofs.OneTree.{one_book as law}
use Rattle.smk_model.proofs.runs.grammar_laws.one_book.Goals as goal

pub returns : goal.returns
returns c = law
