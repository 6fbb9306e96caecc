use Rattle.std.proofs.Common.{◌∙◌}
use Rattle.smk_base.proofs.Relating.{made-copy}
use Rattle.smk_base.proofs.rel.Rel.share.Goals as goal

pub returns : goal.returns
returns c = made-copy c.self.inside.count c.self.inside.columns.items _ c.share_each.ensures ∙ c.self.view_is
