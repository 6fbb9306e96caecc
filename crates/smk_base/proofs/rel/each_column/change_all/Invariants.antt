use Rattle.smk_base.proofs.Made.{IsChanged}
use Rattle.smk_base.proofs.rel.each_column.change_all.Given as goal

abbrev pub invariant-loop-c : goal.invariant-loop-c
invariant-loop-c g l = IsChanged g.F.Fn l.change tt l.c l.fn.columns.items l.columns.items
