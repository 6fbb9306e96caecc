use Rattle.std.proofs.Common.{◌≡◌, ◌++◌}
use Rattle.smk_model.specs.ProfileTexts.{mark_texts_to}
use Rattle.smk_profile.proofs.said.with_marks.Given as goal

abbrev pub invariant-loop-mark : goal.invariant-loop-mark
invariant-loop-mark l = l.text.items ≡ l.initial.text.items ++ mark_texts_to l.groups l.mark
