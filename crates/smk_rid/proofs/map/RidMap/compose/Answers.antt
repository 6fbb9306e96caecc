use Rattle.std.proofs.Common.{length}
use Rattle.smk_rid.proofs.Through.{IsMap-wider}
use Rattle.smk_rid.proofs.map.RidMap.compose.Goals as goal

pub composed_arrays-requires-clause-map : goal.composed_arrays-requires-clause-map
composed_arrays-requires-clause-map c =
    rw (c.in-Some-Some.ensures.lists, c.in-Some-Some.ensures'.lists) (IsMap-wider c.args.self.now (length c.args.next.now.lists) c.pairs-pairs.ensures.keeps c.requires)
