use Rattle.smk_model.specs.TypedSteps.{key_after}
use Rattle.smk_typing.specs.Turns.{Remains}
use Rattle.smk_typing.proofs.plan.lists.add_keys.Given as goal

abbrev pub invariant-loop-word : goal.invariant-loop-word
invariant-loop-word l = Remains (key_after l.columns) (l.initial.keys, l.initial.made) l.words (l.keys, l.made) l.word-index
