use Rattle.std.proofs.{Common.{refl, arith}, lemmas.Iterator.{YieldsList-from_range, items_from_collect}}
use Rattle.smk_base.proofs.Places.{upto_range}
use Rattle.smk_base.proofs.numbers.numbers_below.Goals as goal

pub returns : goal.returns
returns c = rw (upto_range c.args.bound) (items_from_collect c.collect.result c.collect.ensures.ran (YieldsList-from_range 0 c.args.bound c.args.bound refl (omega arith)))
