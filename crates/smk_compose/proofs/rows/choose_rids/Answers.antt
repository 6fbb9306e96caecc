use Rattle.std.proofs.Common.{length}
use Rattle.smk_compose.proofs.Lists.{few_rids}
use Rattle.smk_compose.proofs.rows.choose_rids.Goals as goal

pub choose-requires-clause-few : goal.choose-requires-clause-few
choose-requires-clause-few g c = few_rids c.args.rids.now (length c.args.table.now.rows) c.requires.ascending c.requires.inside c.len-rows.ensures.keeps.few_rows
