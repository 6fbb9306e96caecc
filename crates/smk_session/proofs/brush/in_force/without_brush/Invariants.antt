use Rattle.std.proofs.Common.{◌≡◌, not, take}
use Rattle.std.specs.List.{filter}
use Rattle.smk_model.specs.Session.{is_brush}
use Rattle.smk_session.proofs.brush.in_force.without_brush.Given as goal

abbrev pub invariant-loop-old : goal.invariant-loop-old
invariant-loop-old l = l.made ≡ filter (λ brush. not (is_brush l.v l.t brush)) (take l.old-index l.brushes)
