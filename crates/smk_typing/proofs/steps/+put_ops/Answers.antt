use Rattle.std.proofs.{Common.{◌≡◌, ◌∷◌, [], map, refl}, lemmas.List.map-append}
use Rattle.smk_base.specs.PlanImage.{expr_of, unary_of}
use Rattle.smk_model.specs.Asks.{chain}
use Rattle.smk_model.proofs.Asks.{chain_more}
use Rattle.smk_typing.proofs.Results.{ok_same}
use Rattle.smk_typing.proofs.steps.+put_ops.Goals as goal

pub returns-in_ok-push-in-Ok : goal.returns-in_ok-push-in-Ok
returns-in_ok-push-in-Ok t c =
    let inner : expr_of c.into_inner.result ≡ chain (map unary_of c.put_ops.new.ops) = ok_same _ _ c.in-Ok.ensures in
    let joined = map-append unary_of c.put_ops.new.ops (c.in-One.op ∷ []) in
    let more = chain_more (map unary_of c.put_ops.new.ops) (unary_of c.in-One.op) in
    rw (c.in-One.is, c.in_ok-push-in-Ok.ensures.pushed, joined, more, ← inner, c.into_inner.ensures) refl
