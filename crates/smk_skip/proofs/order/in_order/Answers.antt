use Rattle.std.proofs.{Common.{◌∙◌, ◌<◌, ◌++◌, take, length, sym, ap, arith}, lemmas.List.Elements.All-append, lemmas.Grind.common_steps}
use Rattle.std.specs.List.{concat}
use Rattle.smk_skip.proofs.Orders.{concat_more}
use Rattle.smk_skip.proofs.order.in_order.Goals as goal

pub loop-i-preserved : goal.loop-i-preserved
loop-i-preserved c =
    let L = c.args.lists.now.lists in
    let low : c.loop-i.i < length L = omega (arith, c.len-i-end.ensures) in
    record {
      rids = c.in_ok-extend_from_slice.ensures.items ∙ ap (λ z. z ++ c.at.result.now) c.loop-i.invariant.rids ∙ ap (λ z. concat (take c.loop-i.i L) ++ z) c.at.ensures.rids ∙ sym (concat_more L c.loop-i.i low);
      below = rw c.in_ok-extend_from_slice.ensures.items (All-append (λ rid. rid < c.args.lists.now.bound) c.loop-i.made.items c.at.result.now c.loop-i.invariant.below c.at.ensures.below);
    }

pub returns-clause-rids : goal.returns-clause-rids
returns-clause-rids c = grind (arith, common_steps)
