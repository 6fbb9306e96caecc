use Rattle.smk_table.proofs.Shown.{rows_at-first}
use Rattle.smk_table.proofs.table.Table.gather.Goals as goal

pub returns-clause-rows : goal.returns-clause-rows
returns-clause-rows g c =
    let inside = rw (← c.self.view_is) at c.requires.inside in
    let rows = rows_at-first c.self.inside.shown c.self.inside.rel.rows c.args.rids.now inside in
    rw (← c.self.view_is, ← rows) c.gather.ensures
