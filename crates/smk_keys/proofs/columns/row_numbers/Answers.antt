use Rattle.std.proofs.{Common.{◌-◌, get_or, take}, lemmas.List.take_more}
use Rattle.std.specs.List.{slice_range}
use Rattle.smk_keys.proofs.Rowed.{AreNumbers-more, AreNumbers-zeros, length-range}
use Rattle.smk_keys.proofs.columns.row_numbers.Goals as goal

pub loop-k-init : goal.loop-k-init
loop-k-init c = AreNumbers-zeros (slice_range c.args.rel.now.rows c.args.from c.args.to) (c.args.to - c.args.from) _ _ (length-range c.args.rel.now.rows c.args.from c.args.to c.requires.order c.requires.within) c.in_ok-made.ensures.of c.in_ok-made.ensures.count

pub loop-k-preserved : goal.loop-k-preserved
loop-k-preserved c =
    rw (take_more c.args.cols.now c.loop-k.k 0 c.loop-k-test.true)
    (AreNumbers-more (slice_range c.args.rel.now.rows c.args.from c.args.to) (take c.loop-k.k c.args.cols.now) (get_or c.args.cols.now c.loop-k.k 0) _ _ _ _ _ _ c.loop-k.invariant c.in_ok-more.ensures c.in_ok-made-2.ensures)
