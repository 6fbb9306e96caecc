use Rattle.smk_base.proofs.Rows.{IsRelation-columns}
use Rattle.smk_base.proofs.rel.Rel.width.Goals as goal

pub returns-clause-keeps : goal.returns-clause-keeps
returns-clause-keeps c = rw (← c.self.view_is) (IsRelation-columns _ _ c.self.invariant)
