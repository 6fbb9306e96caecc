use Rattle.std.proofs.{Common.arith, lemmas.Grind.common_steps}
use Rattle.smk_skip.proofs.Stretches.{cuts_ordered, between_is}
use Rattle.smk_skip.proofs.runs.between.Goals as goal

pub returns-clause-places : goal.returns-clause-places
returns-clause-places c =
    let xs = c.args.places.now in
    let i = c.before-from.result in
    let j = c.before-to.result in
    between_is xs c.args.start c.args.end i j c.before-from.ensures.cut c.before-to.ensures.cut (cuts_ordered xs c.args.start c.args.end i j c.requires.ordered c.before-from.ensures.cut c.before-to.ensures.cut c.before-from.ensures.within) c.before-to.ensures.within

pub returns-clause-high : goal.returns-clause-high
returns-clause-high c = grind (arith, common_steps, cuts_ordered)
