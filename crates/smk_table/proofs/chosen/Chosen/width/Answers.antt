use Rattle.std.proofs.Common.{subst}
use Rattle.smk_base.specs.Rels.{IsRelation}
use Rattle.smk_table.proofs.Choices.{chosen_keeps}
use Rattle.smk_table.proofs.chosen.Chosen.width.Goals as goal

pub returns-clause-keeps : goal.returns-clause-keeps
returns-clause-keeps c = subst IsRelation c.self.view_is (chosen_keeps c.self.inside.rel c.self.inside.rids c.width.ensures.keeps c.self.invariant)
