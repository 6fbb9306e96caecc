use Rattle.std.proofs.{Common.arith, lemmas.Grind.common_steps}
use Rattle.smk_top.proofs.reporting.text_of_view.Goals as goal

pub view_text_in_pieces-requires-clause-names : goal.view_text_in_pieces-requires-clause-names
view_text_in_pieces-requires-clause-names g c = grind (arith, common_steps)
