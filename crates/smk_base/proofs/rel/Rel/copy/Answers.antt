use Rattle.std.proofs.Common.{◌∙◌}
use Rattle.smk_base.proofs.Relating.{made-copy}
use Rattle.smk_base.proofs.rel.Rel.copy.Goals as goal

pub returns : goal.returns
returns c =
    let so = rw c.as_slice.ensures.value at c.in_ok-copy_each.ensures in
    made-copy c.self.inside.count c.self.inside.columns.items _ so ∙ c.self.view_is
