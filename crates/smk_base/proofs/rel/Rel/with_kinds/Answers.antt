use Rattle.smk_base.proofs.Relating.{kinds-long, made-with_kinds, values-fit}
use Rattle.smk_base.proofs.rel.Rel.with_kinds.Goals as goal

pub each_with_kind-requires-clause-fits : goal.each_with_kind-requires-clause-fits
each_with_kind-requires-clause-fits c =
    let long = rw (← c.self.view_is) at c.requires.long in
    let fits = rw (← c.self.view_is) at c.requires.fits in
    values-fit c.self.inside.count c.self.inside.columns.items c.args.kinds.now c.self.invariant.each (kinds-long c.self.inside.columns.items c.args.kinds.now long) fits

pub returns : goal.returns
returns c =
    let long = rw (← c.self.view_is) at c.requires.long in
    rw (← c.self.view_is) (made-with_kinds c.self.inside.count c.self.inside.columns.items _ c.args.kinds.now (kinds-long c.self.inside.columns.items c.args.kinds.now long) c.in_ok-each_with_kind.ensures)
