use Rattle.smk_rid.proofs.Arrays.{start_full}
use Rattle.smk_rid.proofs.hold.array.RidArray.start_of_full.Goals as goal

pub returns : goal.returns
returns c = start_full c.args.self.now c.args.i c.requires.single c.requires.full c.requires.in_range
