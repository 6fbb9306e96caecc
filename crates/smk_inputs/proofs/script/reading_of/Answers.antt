use Rattle.std.proofs.Common.{◌≡◌, Option, Some, Ok, subst}
use Rattle.smk_base.specs.declared.book.tree.AnyLine.{AnyLine}
use Rattle.smk_parse.specs.Answers.{IsAnyAnswer}
use Rattle.smk_inputs.proofs.FileReads.{keeps_line}
use Rattle.smk_inputs.proofs.script.reading_of.Goals as goal

pub returns-in-Ok-Some-clause-kept : goal.returns-in-Ok-Some-clause-kept
returns-in-Ok-Some-clause-kept c =
    let found : c.in-Ok-Some.field-0 ≡ Some c.in-Ok-Some.line = cc in
    keeps_line c.args.text.now c.in-Ok-Some.line (subst (λ (r : Option AnyLine). IsAnyAnswer c.args.text.now (Ok r)) found c.in-Ok-Some.ensures)
