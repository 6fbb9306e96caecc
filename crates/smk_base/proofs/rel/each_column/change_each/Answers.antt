use Rattle.std.proofs.Common.{arith, inr, rules}
use Rattle.smk_base.proofs.Made.{may_leave-more}
use Rattle.smk_base.proofs.rel.each_column.change_each.Goals as goal

pub returns-in_err-change-clause-each : goal.returns-in_err-change-clause-each
returns-in_err-change-clause-each g c = (let may = may_leave-more _ _ _ _ _ _ _ c.index_mut.result _ c.loop-c.invariant (omega (arith, c.loop-c.invariant.wide)) c.index_mut.ensures.value c.in_err-change.ensures in search (rules, may))

pub returns-clause-each : goal.returns-clause-each
returns-clause-each g c = λ k h. inr (_, c.loop-c.invariant.made k (omega arith))
