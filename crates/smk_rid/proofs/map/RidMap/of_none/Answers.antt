use Rattle.smk_rid.proofs.Arrays.{IsMap-empty_lists}
use Rattle.smk_rid.proofs.map.RidMap.of_none.Goals as goal

pub of_array-requires-clause-map : goal.of_array-requires-clause-map
of_array-requires-clause-map c = rw c.of_none.ensures (IsMap-empty_lists c.args.len c.args.bound c.ranges.len.fits)
