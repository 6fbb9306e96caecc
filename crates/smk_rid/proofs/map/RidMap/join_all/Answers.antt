use Rattle.std.proofs.Common.{length}
use Rattle.smk_base.specs.Places.{upto}
use Rattle.smk_rid.proofs.Joins.{members_set}
use Rattle.smk_rid.proofs.map.RidMap.join_all.Goals as goal

pub returns-clause-set : goal.returns-clause-set
returns-clause-set c = rw (c.from_vec.ensures, c.in_ok-rids.ensures) (members_set c.args.self.now (upto (length c.args.self.now.lists)))
