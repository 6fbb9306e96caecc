use Rattle.std.proofs.{Common.{arith, ◌≡◌, ◌∙◌, ◌<◌, ◌+◌, length, ap}, lemmas.Result.IfErr-weaker}
use Rattle.smk_base.specs.Places.{members_at, pairs_of}
use Rattle.smk_rid.specs.declared.fault.RidFault.TheVariants.{Pairs}
use Rattle.smk_rid.proofs.Joins.{members_one}
use Rattle.smk_rid.proofs.derive.compose.put_members.Goals as goal

pub returns-then-places-eq1-clause-many : goal.returns-then-places-eq1-clause-many
returns-then-places-eq1-clause-many c =
    let m = c.args.map.now in
    let ps = c.args.places.now in
    let is = c.at.ensures.rids ∙ members_one m ps c.if-places-eq1.true (rw c.at.ensures.rids at c.at.ensures.set) in
    IfErr-weaker c.put_within.result (λ e. e ≡ Pairs → 16777216 < pairs_of c.args.made.now + length c.at.result.now) (λ e. e ≡ Pairs → 16777216 < pairs_of c.args.made.now + length (members_at m ps)) (λ e h q. let big = h q in omega (arith, big, ap length is)) c.put_within.ensures.many
