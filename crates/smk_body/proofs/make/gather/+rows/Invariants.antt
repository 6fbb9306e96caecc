use Rattle.std.proofs.Common.{◌+◌, ◌*◌, length}
use Rattle.smk_body.proofs.make.gather.+rows.Given as goal

abbrev pub decreases-rows_in_halves : goal.decreases-rows_in_halves
decreases-rows_in_halves g l = 2 * length l.places.now

abbrev pub decreases-lower : goal.decreases-lower
decreases-lower g l = 2 * length l.low.now + 1

abbrev pub decreases-upper : goal.decreases-upper
decreases-upper g l = 2 * length l.high.now + 1
