-- The answer to a line of a script, beside its definition.
use Rattle.std.specs.Prelude.{◌≡◌}
use Rattle.smk_model.specs.Reports as reports
use Rattle.smk_top.specs.declared.answering.Answered.{Answered}

-- the answer has this text, and is refused or isn't
pub record IsAnswered (told : Answered) (line : reports.Answered) : Type 0 where
  pub text : told.text.items ≡ line.text
  pub refused : told.refused ≡ line.refused
