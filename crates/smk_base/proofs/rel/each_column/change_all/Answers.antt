use Rattle.std.proofs.Common.{arith}
use Rattle.smk_base.proofs.Made.{IsChanged-more}
use Rattle.smk_base.proofs.rel.each_column.change_all.Goals as goal

pub loop-c-preserved : goal.loop-c-preserved
loop-c-preserved g c = IsChanged-more _ _ _ _ _ _ c.index_mut.result _ c.loop-c.invariant (omega (arith, c.loop-c.invariant.wide)) c.index_mut.ensures.value c.change.ensures
