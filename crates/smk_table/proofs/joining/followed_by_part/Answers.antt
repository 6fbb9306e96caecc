use Rattle.smk_table.proofs.Shown.{wider_same}
use Rattle.smk_table.proofs.joining.followed_by_part.Goals as goal

pub followed_by-requires-clause-wider : goal.followed_by-requires-clause-wider
followed_by-requires-clause-wider c = rw c.requires.kinds (wider_same c.args.whole.kinds)
