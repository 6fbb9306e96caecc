use Rattle.std.proofs.Common.{◌≡◌, take}
use Rattle.std.specs.List.{flat_map}
use Rattle.smk_base.specs.Places.{list_at}
use Rattle.smk_skip.specs.Parts.{run}
use Rattle.smk_skip.proofs.runs.joined_runs.Given as goal

abbrev pub invariant-loop-mark : goal.invariant-loop-mark
invariant-loop-mark l = l.made.items ≡ flat_map (λ mark. run l.start l.rids (list_at l.lists mark)) (take l.mark-index l.marks)
