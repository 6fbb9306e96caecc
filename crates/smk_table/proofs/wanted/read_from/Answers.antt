use Rattle.std.proofs.{Common.{◌<◌, ◌+◌, List, ℕ, All, Bool, sym, subst, arith}, lemmas.Grind.common_steps}
use Rattle.smk_base.specs.PlanImage.{binary_of}
use Rattle.smk_base.proofs.Places.{few_places, places_below}
use Rattle.smk_table.specs.Wanted as wanted
use Rattle.smk_table.proofs.wanted.read_from.Goals as goal

pub returns-clause-within : goal.returns-clause-within
returns-clause-within c k d p =
    let t : ℕ → Bool = (λ i. wanted.is_met (binary_of c.args.op.now) c.args.width c.args.cols.now (c.args.from + i)) in
    let low = subst (λ (z : List ℕ). All (λ r. r < c.loop-c.c) z) (sym c.loop-c.invariant) (places_below t c.loop-c.c) k d p in
    omega (arith, low, c.loop-c.auto.c-end)

pub returns-clause-few : goal.returns-clause-few
returns-clause-few c = grind (arith, common_steps, few_places)
