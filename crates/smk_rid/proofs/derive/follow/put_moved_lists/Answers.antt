use Rattle.std.proofs.{Common.{arith, ◌+◌, [], length, map, take, ap}, lemmas.List.Sums.{sum_by_more_le, sum_by-append}}
use Rattle.smk_base.specs.Places.{pairs_of}
use Rattle.smk_rid.proofs.Following.{pairs_moved}
use Rattle.smk_rid.proofs.derive.follow.put_moved_lists.Goals as goal

pub put_moved-requires-clause-few : goal.put_moved-requires-clause-few
put_moved-requires-clause-few c =
    let lists = c.args.of.now.lists in
    let i = c.loop-i.i in
    let moved = map (map (λ i. c.args.by + i)) (take i lists) in
    omega (arith, ap pairs_of c.loop-i.invariant, sum_by-append length c.args.made.now moved, pairs_moved c.args.by (take i lists), sum_by_more_le length lists i [] (omega arith), ap length c.at.ensures.rids, c.requires.few)
