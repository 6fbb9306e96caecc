use Rattle.std.proofs.Common.{get_or}
use Rattle.smk_rid.specs.Maps.{IsMap}
use Rattle.smk_rid.proofs.Sets.{is_below}
use Rattle.smk_rid.proofs.map.RidMap.narrowed.Goals as goal

pub narrowed-requires : goal.narrowed-requires
narrowed-requires c = λ k d low.
    let bound = c.self.inside.bound in
    let kept : IsMap (record { lists = c.in-Array.lists; bound = bound }) = rw c.in-Array.is at c.self.invariant.map in
    is_below bound (get_or c.in-Array.lists k d) (kept.sets k d low)
