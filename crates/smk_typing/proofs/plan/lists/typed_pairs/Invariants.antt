use Rattle.std.proofs.Common.{[]}
use Rattle.smk_model.specs.TypedSteps.{pair_after}
use Rattle.smk_typing.specs.Turns.{Remains}
use Rattle.smk_typing.proofs.plan.lists.typed_pairs.Given as goal

abbrev pub invariant-loop-tree : goal.invariant-loop-tree
invariant-loop-tree l = Remains (pair_after l.lefts l.rights) [] l.trees l.pairs l.tree-index
