use Rattle.smk_base.specs.Places.{Lists}
use Rattle.smk_rid.proofs.Gathered.{gathered_below, gathered_set}
use Rattle.smk_rid.proofs.derive.compose.gather_numbers.Goals as goal

pub make_set-requires : goal.make_set-requires
make_set-requires c =
    let m : Lists = record { lists = c.args.lists.now; bound = c.args.bound } in
    gathered_below m c.args.places.now c.put_rising-rises.new.rids.items c.requires.sets c.requires.within c.put_rising-rises.ensures.same

pub returns-else-not-rises : goal.returns-else-not-rises
returns-else-not-rises c =
    let m : Lists = record { lists = c.args.lists.now; bound = c.args.bound } in
    let same = c.put_rising-rises.ensures.same in
    let rids = c.put_rising-rises.new.rids.items in
    gathered_set m c.args.places.now rids (gathered_below m c.args.places.now rids c.requires.sets c.requires.within same) same (c.put_rising-rises.ensures.rising c.if-not-rises.false)
