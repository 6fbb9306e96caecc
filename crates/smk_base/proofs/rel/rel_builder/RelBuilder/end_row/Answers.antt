use Rattle.smk_base.proofs.Building.{AreBegun-end, whole-at, room-at, ended-from}
use Rattle.smk_base.proofs.rel.rel_builder.RelBuilder.end_row.Goals as goal

pub invariant_of-self : goal.invariant_of-self
invariant_of-self c =
    let whole = whole-at _ _ c.self.inside.columns.items _ c.self.view_is c.requires.whole in
    AreBegun-end _ _ c.self.inside.columns.items c.self.invariant whole (room-at _ _ c.self.inside.columns.items _ c.self.view_is c.requires.room)

pub returns : goal.returns
returns c = ended-from _ _ c.self.inside.columns.items _ c.self.view_is c.requires.whole
