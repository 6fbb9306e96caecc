use Rattle.std.proofs.Common.{◌≡◌, ◌∙◌, length, sym, ap}
use Rattle.smk_base.specs.Places.{upto}
use Rattle.smk_rid.proofs.hold.narrow.Narrow.of.Goals as goal
use Rattle.smk_base.proofs.Places.{length_upto}

pub invariant_of-result : goal.invariant_of-result
invariant_of-result g c =
    let numbers : c.in_ok-numbers.numbers.items ≡ upto c.args.bound = c.in_ok-numbers.ensures in
    let long : length c.in_ok-numbers.numbers.items ≡ c.args.bound = ap length numbers ∙ length_upto c.args.bound in
    (numbers ∙ ap upto (sym long), rw (long, c.in_ok-codes.ensures) c.requires.below)
