use Rattle.std.proofs.{Common.{rules, ◌∙◌, ℕ, ◌+◌, ap}, lemmas.List.length_push}
use Rattle.smk_base.proofs.Bins.{bins-next}
use Rattle.smk_base.proofs.rel.value_column.bins_from.Goals as goal

pub loop-k-preserved : goal.loop-k-preserved
loop-k-preserved c = rw c.in_ok-push.ensures.items (length_push c.loop-k.bins.items _ ∙ ap (λ (n : ℕ). n + 1) c.loop-k.invariant.0, bins-next _ _ c.loop-k.bins.items c.loop-k.k _ c.loop-k.invariant.0 (search rules) c.loop-k.invariant.1)
