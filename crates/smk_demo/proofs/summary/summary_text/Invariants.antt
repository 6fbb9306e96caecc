use Rattle.std.proofs.Common.{◌≡◌, ◌++◌, ◌∷◌, [], take, codes, decimal}
use Rattle.std.specs.List.{flat_map}
use Rattle.smk_model.specs.{Texts.line, Demo.size_line}
use Rattle.smk_demo.proofs.summary.summary_text.Given as goal

abbrev pub invariant-loop-view : goal.invariant-loop-view
invariant-loop-view l = l.text.items ≡ line (codes "demo " ∷ decimal l.n ∷ []) ++ flat_map size_line (take l.view-index l.views)
