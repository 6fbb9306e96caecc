use Rattle.std.proofs.Common.{◌≡◌, cond, map, take}
use Rattle.smk_model.specs.Session.{is_brush}
use Rattle.smk_session.proofs.brush.in_force.replaced.Given as goal

abbrev pub invariant-loop-old : goal.invariant-loop-old
invariant-loop-old l = l.made ≡ map (λ old. cond (is_brush l.brush.view l.brush.table old) l.brush old) (take l.old-index l.brushes)
