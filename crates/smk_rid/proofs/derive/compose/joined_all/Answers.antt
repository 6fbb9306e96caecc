use Rattle.std.proofs.Common.{arith, ◌∙◌, ap, length, sym}
use Rattle.smk_base.specs.Places.{upto}
use Rattle.smk_rid.proofs.{Joins.{flat_all, members_is}, Packs.length-concat, Through.all_below}
use Rattle.smk_rid.proofs.derive.compose.joined_all.Goals as goal

pub returns-in-Some-default : goal.returns-in-Some-default
returns-in-Some-default c = rw (c.in-Some-default.ensures.lists, c.bound.ensures) at c.set_of_numbers.ensures

pub set_of-requires-clause-few : goal.set_of-requires-clause-few
set_of-requires-clause-few c = omega (arith, ap length c.in-None-Some.ensures'.all, length-concat c.args.map.now.lists, c.pairs-pairs.ensures.few, c.pairs-pairs.ensures.counted)

pub set_of-requires-clause-below : goal.set_of-requires-clause-below
set_of-requires-clause-below c =
    let m = c.args.map.now in
    rw (c.in-None-Some.ensures'.all ∙ flat_all m.lists, c.bound-in-None-Some.ensures) (all_below m c.pairs-pairs.ensures.keeps.sets)

pub returns-in-None-Some : goal.returns-in-None-Some
returns-in-None-Some c =
    let m = c.args.map.now in
    rw (sym (members_is m (upto (length m.lists)))) (rw (c.in-None-Some.ensures'.all ∙ flat_all m.lists, c.bound-in-None-Some.ensures) at c.set_of.ensures)
