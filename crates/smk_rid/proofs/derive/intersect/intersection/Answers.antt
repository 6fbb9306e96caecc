use Rattle.smk_rid.proofs.Intersecting.{common_turned}
use Rattle.smk_rid.proofs.derive.intersect.intersection.Goals as goal

pub returns-else-ones-others : goal.returns-else-ones-others
returns-else-ones-others c = rw (common_turned c.args.ones.now c.args.others.now c.requires.ones c.requires.others) c.kept_of-else-ones-others.ensures
