use Rattle.std.proofs.Common.{sym}
use Rattle.smk_base.proofs.Rows.{length-rows_of, IsRelation-columns}
use Rattle.smk_base.proofs.rel.Rel.len.Goals as goal

pub returns-clause-count : goal.returns-clause-count
returns-clause-count c = rw (← c.self.view_is) (sym (length-rows_of _ _))

pub returns-clause-keeps : goal.returns-clause-keeps
returns-clause-keeps c = rw (← c.self.view_is) (IsRelation-columns _ _ c.self.invariant)
