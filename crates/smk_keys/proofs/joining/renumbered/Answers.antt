use Rattle.std.proofs.Common.{◌∙◌, ◌+◌, ◌++◌, length, map, get_or, ap}
use Rattle.smk_keys.proofs.PartNumbers.{entries_more, keys_more, moved_within}
use Rattle.smk_keys.proofs.joining.renumbered.Goals as goal

pub push_entries-requires : goal.push_entries-requires
push_entries-requires c =
    rw c.of.ensures (moved_within c.args.parts.now c.loop-part.part-index c.part-item.result c.loop-part-test.true c.part-item.is c.loop-part.from c.loop-part.invariant.1 (length c.args.table.now) c.requires.within)

pub loop-part-preserved : goal.loop-part-preserved
loop-part-preserved c =
    let parts = c.args.parts.now in
    let i = c.loop-part.part-index in
    let part = c.part-item.result in
    let from = c.loop-part.from in (
      c.in_ok-push_entries.ensures ∙ ap (λ of. c.loop-part.of.items ++ map (λ class. get_or c.args.table.now (from + class) 0) of) c.of.ensures
          ∙ entries_more parts i part c.loop-part-test.true c.part-item.is from c.loop-part.invariant.1 c.args.table.now c.loop-part.of.items c.loop-part.invariant.0,
      rw c.firsts.ensures (keys_more parts i part c.loop-part-test.true c.part-item.is from c.loop-part.invariant.1),
    )
