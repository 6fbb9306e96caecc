use Rattle.smk_table.proofs.Shown.{wider_same}
use Rattle.smk_table.proofs.table.Table.append.Goals as goal

pub append-requires-clause-wider : goal.append-requires-clause-wider
append-requires-clause-wider c = rw (c.truncate.ensures.kinds, c.requires.kinds, ← c.self.view_is) (wider_same c.self.inside.rel.kinds)
