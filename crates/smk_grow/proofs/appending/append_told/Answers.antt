use Rattle.smk_grow.proofs.Told.{told_fits}
use Rattle.smk_grow.proofs.appending.append_told.Goals as goal

pub whole_text-requires-clause-fits : goal.whole_text-requires-clause-fits
whole_text-requires-clause-fits g c =
    let told = rw c.in-Ok.is at c.append_by_name-session.ensures.reply in
    told_fits c.args.session c.append_by_name-session.result.0 c.args.table.now c.args.more.rows c.in-Ok.reply c.append_by_name-session.ensures.book told
