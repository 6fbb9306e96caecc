use Rattle.smk_model.specs.TypedSteps.{agg_after}
use Rattle.smk_typing.specs.Turns.{Remains}
use Rattle.smk_typing.proofs.plan.lists.add_aggs.Given as goal

abbrev pub invariant-loop-tree : goal.invariant-loop-tree
invariant-loop-tree l = Remains (agg_after l.columns) (l.initial.aggs, l.initial.made) l.trees (l.aggs, l.made) l.tree-index
