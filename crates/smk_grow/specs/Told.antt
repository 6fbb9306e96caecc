-- The text of an answer to an `append` line, as it is made before anything is changed.
use Rattle.std.specs.Prelude.{ℕ, List, [], Option, Some, None}
use Rattle.smk_base.specs.{declared.reply.AppendReply.AppendReply, declared.reply.AppendReply.TheVariants.{Added, Refused}}
use Rattle.smk_model.specs.{AppendTexts.added_text, Session.Workbook}

-- the text of what is added, if the table's name is given
abbrev pub added_told : Option (List ℕ) → Workbook → ℕ → List ℕ → List ℕ
added_told (Some table) book rows views = added_text book table rows views
added_told None book rows views = []

-- the text of an answer; there is none yet for a refusal
abbrev pub told_text : Option (List ℕ) → Workbook → AppendReply → List ℕ
told_text said book (Added rows views) = added_told said book rows views
told_text said book (Refused refusal) = []
