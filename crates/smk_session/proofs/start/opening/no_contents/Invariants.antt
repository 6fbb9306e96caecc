use Rattle.std.proofs.Common.{◌≡◌, map, None}
use Rattle.smk_base.specs.Places.{upto}
use Rattle.smk_session.proofs.start.opening.no_contents.Given as goal

abbrev pub invariant-loop-view : goal.invariant-loop-view
invariant-loop-view l = l.contents.items ≡ map (λ w. None) (upto l._view)
