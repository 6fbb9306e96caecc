use Rattle.std.proofs.Common.{◌≡◌, ℕ, map, take, None}
use Rattle.smk_base.specs.Places.{upto}
use Rattle.smk_grow.proofs.replacing.forget.Given as goal

abbrev pub invariant-loop-content : goal.invariant-loop-content
invariant-loop-content l = take l.content-index l.contents ≡ map (λ (w : ℕ). None) (upto l.content-index)
