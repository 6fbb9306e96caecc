use Rattle.std.proofs.{Common.{ap, length, arith}, lemmas.Iterator.Consumers.YieldsList-turn, lemmas.Iterator.Adapters.YieldsList-from_vec}
use Rattle.smk_base.specs.Rels.{Relation}
use Rattle.smk_table.proofs.Parts.{few_more}
use Rattle.smk_table.proofs.joining.parts_joined.Goals as goal

pub followed_by_part-requires-clause-few : goal.followed_by_part-requires-clause-few
followed_by_part-requires-clause-few c =
    let given_items = c.into_iter-part-iterator.ensures.into_iter_gives in
    let turn = YieldsList-turn (YieldsList-from_vec {s = c.into_iter-part-iterator.result} c.args.parts.items given_items.0 (omega (arith, given_items.1, c.args.parts.ok))) c.loop-part.yielded c.loop-part.part-iterator c.loop-part.yielded_by c.next.result c.next.new.self c.in-Some.part c.in-Some.is c.next.ensures.steps in
    omega (arith, ap (λ (whole : Relation). length whole.rows) c.loop-part.invariant, few_more c.args.parts.items (length c.loop-part.yielded) c.in-Some.part c.requires turn.0 turn.1)
