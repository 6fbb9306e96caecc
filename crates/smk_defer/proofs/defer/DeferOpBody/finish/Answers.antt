use Rattle.smk_defer.proofs.Single.{one_fits, two_fits, two_there}
use Rattle.smk_defer.proofs.defer.DeferOpBody.finish.Goals as goal

pub lineage1-requires-clause-fits : goal.lineage1-requires-clause-fits
lineage1-requires-clause-fits g c = one_fits c.in-One.op c.args.kept.left c.args.kept.right (rw c.in-One.is at c.args.kept.fits)

pub lineage2-requires-clause-fits : goal.lineage2-requires-clause-fits
lineage2-requires-clause-fits g c = two_fits c.in-Two.op c.args.kept.left c.in-Some.right (rw (c.in-Two.is, c.in-Some.is) at c.args.kept.fits)

pub unreachable-requires : goal.unreachable-requires
unreachable-requires g c = two_there c.in-Two.op c.args.kept.left (rw (c.in-Two.is, c.in-None.is) at c.args.kept.fits)
