use Rattle.std.proofs.lemmas.List.{length-map}
use Rattle.smk_base.proofs.Relating.{made-pick}
use Rattle.smk_base.proofs.rel.Rel.pick_columns.Goals as goal

pub returns : goal.returns
returns c =
    let within = rw (← c.self.view_is, length-map) at c.requires.within in
    let so = rw c.as_slice.ensures.value at c.in_ok-pick_each.ensures in
    rw (← c.self.view_is) (made-pick c.self.inside.count c.self.inside.columns.items _ c.args.cols.now within so)
