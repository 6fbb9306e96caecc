use Rattle.std.proofs.Common.{length}
use Rattle.smk_push.proofs.Read.{IsRead}
use Rattle.smk_push.proofs.input.read_columns.Given as goal

abbrev pub invariant-loop-agg : goal.invariant-loop-agg
invariant-loop-agg l = IsRead (length l.all.kinds) l.aggs l.agg-index l.over l.cols.items
