use Rattle.std.proofs.Common.{length}
use Rattle.smk_compose.proofs.Lists.{few_rids}
use Rattle.smk_compose.proofs.rows.fetch_rids.Goals as goal

pub gather-requires-clause-few : goal.gather-requires-clause-few
gather-requires-clause-few g c = few_rids c.args.rids.now (length c.args.table.now.rows) c.requires.ascending c.requires.inside c.len-rows.ensures.keeps.few_rows
