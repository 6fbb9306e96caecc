use Rattle.std.proofs.Common.{◌≡◌, ◌+◌, length}
use Rattle.smk_model.specs.TypedSteps.{item_after}
use Rattle.smk_typing.specs.Turns.{Remains}
use Rattle.smk_typing.proofs.plan.lists.add_items.Given as goal

abbrev pub invariant-loop-tree : goal.invariant-loop-tree
invariant-loop-tree l = Remains (item_after l.columns) (l.initial.items, l.initial.made) l.trees (l.items, l.made) l.tree-index × (length l.made ≡ length l.initial.made + l.tree-index)
