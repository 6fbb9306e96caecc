use Rattle.std.proofs.Common.{◌<◌, length, arith}
use Rattle.smk_session.specs.Making.{book_in, cubes_wanted, split_wanted}
use Rattle.smk_grow.specs.Renewed.{cubes_again, split_again}
use Rattle.smk_grow.proofs.{Spread.{by_asks, grouped_asks, plain_asks, put_more, put_none}, extras.spread.Goals.{in-Plain, in-By+in_ok-put_next-in-By, in-Grouped+in_ok-put_next-in-Grouped}}
use Rattle.smk_grow.proofs.extras.spread.Goals as goal

pub loop-declared-preserved : goal.loop-declared-preserved
loop-declared-preserved c =
    let opening = c.args.opening.now in
    let book = book_in opening in
    let grown = opening.grown in
    let backs = c.as_slice-declared-items.result.now in
    let i = c.loop-declared.declared-index in
    let declared = c.declared-item.result in
    let at = c.declared-item.is in
    let wanted = c.wants-wanted.result in
    let same = c.wants-wanted.ensures in
    let before = c.loop-declared in
    let low : i < length backs = omega (arith, c.loop-declared-test.true) in
    elim c.match-declared.branch [
      | in-Plain w ↦
          let asks = plain_asks grown book declared wanted w.in-Plain.is same in
          let splits = put_none (split_again grown book) (split_wanted book grown) backs i declared before.extras.splits.items before.splits.items low at asks.0 asks.1 before.invariant.splits before.invariant.splits_left in
          let cubes = put_none (cubes_again grown book) (cubes_wanted book grown) backs i declared before.extras.cubes.items before.cubes.items low at asks.2 asks.3 before.invariant.cubes before.invariant.cubes_left in
          rw (w.extras-is, w.splits-is, w.cubes-is) (record { splits = splits.0; cubes = cubes.0; splits_left = splits.1; cubes_left = cubes.1 })
      | in-By+in_ok-put_next-in-By w ↦
          let asks = by_asks grown book declared _ wanted w.in-By.is same in
          let put = w.in_ok-put_next-in-By.ensures in
          let splits = put_more (split_again grown book) (split_wanted book grown) backs i declared wanted _ before.extras.splits.items w.put_next.new.fresh.items before.splits.items w.put_next.new.rest.items low at asks.0 asks.1 before.invariant.splits before.invariant.splits_left put.put put.rest in
          let cubes = put_none (cubes_again grown book) (cubes_wanted book grown) backs i declared before.extras.cubes.items before.cubes.items low at asks.2 asks.3 before.invariant.cubes before.invariant.cubes_left in
          rw (w.extras-is, w.splits-is, w.cubes-is) (record { splits = splits.0; cubes = cubes.0; splits_left = splits.1; cubes_left = cubes.1 })
      | in-Grouped+in_ok-put_next-in-Grouped w ↦
          let asks = grouped_asks grown book declared _ _ _ _ wanted w.in-Grouped.is same in
          let put = w.in_ok-put_next-in-Grouped.ensures in
          let splits = put_none (split_again grown book) (split_wanted book grown) backs i declared before.extras.splits.items before.splits.items low at asks.0 asks.1 before.invariant.splits before.invariant.splits_left in
          let cubes = put_more (cubes_again grown book) (cubes_wanted book grown) backs i declared wanted _ before.extras.cubes.items w.put_next-in-Grouped.new.fresh.items before.cubes.items w.put_next-in-Grouped.new.rest.items low at asks.2 asks.3 before.invariant.cubes before.invariant.cubes_left put.put put.rest in
          rw (w.extras-is, w.splits-is, w.cubes-is) (record { splits = splits.0; cubes = cubes.0; splits_left = splits.1; cubes_left = cubes.1 })
    ]
