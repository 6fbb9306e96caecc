use Rattle.std.proofs.{Common.{◌∙◌, ◌∷◌, [], map, ap, sym}, lemmas.List.map-append}
use Rattle.smk_base.specs.{PlanImage.unary_of, Plans.Apply}
use Rattle.smk_model.specs.Asks.{chain}
use Rattle.smk_model.proofs.Asks.{chain_more}
use Rattle.smk_steps.proofs.chained.put_each.Goals as goal

pub loop-op-preserved : goal.loop-op-preserved
loop-op-preserved c =
    let more = chain_more (map unary_of c.loop-op.yielded) (unary_of c.in-Some.op) in
    let joined = map-append unary_of c.loop-op.yielded (c.in-Some.op ∷ []) in
    c.in_ok-put_over.ensures ∙ ap (Apply (unary_of c.in-Some.op)) c.loop-op.invariant ∙ sym more ∙ sym (ap chain joined)
