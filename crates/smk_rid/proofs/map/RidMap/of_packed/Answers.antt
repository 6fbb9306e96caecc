use Rattle.std.proofs.Common.{arith, get_or}
use Rattle.smk_rid.proofs.Sets.{is_below}
use Rattle.smk_rid.proofs.map.RidMap.of_packed.Goals as goal

pub into_array-requires-clause-below : goal.into_array-requires-clause-below
into_array-requires-clause-below c = λ k d low j e lowj.
    let b = is_below c.args.bound (get_or c.args.lists k d) (c.requires.sets k d low) j e lowj in
    omega (arith, b, c.ranges.bound.fits)
