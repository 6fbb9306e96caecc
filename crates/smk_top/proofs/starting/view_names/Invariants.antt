use Rattle.std.proofs.Common.{◌≡◌, map, take}
use Rattle.smk_top.proofs.starting.view_names.Given as goal

abbrev pub invariant-loop-view : goal.invariant-loop-view
invariant-loop-view l = l.names.items ≡ map (λ view. view.name) (take l.view-index l.views)
