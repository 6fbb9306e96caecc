use Rattle.smk_base.proofs.{Rows.length-rows_of, Relating.made-gather}
use Rattle.smk_base.proofs.rel.Rel.gather.Goals as goal

pub gather_each-requires-clause-within : goal.gather_each-requires-clause-within
gather_each-requires-clause-within c = rw (← c.self.view_is, length-rows_of) at c.requires.within

pub returns : goal.returns
returns c =
    let within = rw (← c.self.view_is, length-rows_of) at c.requires.within in
    let so = rw c.as_slice.ensures.value at c.in_ok-gather_each.ensures in
    rw (← c.self.view_is) (made-gather c.self.inside.count c.self.inside.columns.items _ c.args.places.now within so)
