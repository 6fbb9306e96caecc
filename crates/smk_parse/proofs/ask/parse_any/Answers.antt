use Rattle.std.proofs.Common.{◌∙◌}
use Rattle.smk_parse.{specs.Vocabulary.tokens, specs.Vocabulary.AWholeAnyLine, specs.Vocabulary.IsWholeAnyLine, specs.Vocabulary.any_image, proofs.Whole.whole_read, proofs.Whole.whole_unread}
use Rattle.smk_parse.proofs.ask.parse_any.Goals as goal

pub returns-in-Ok : goal.returns-in-Ok
returns-in-Ok c = whole_read AWholeAnyLine any_image c.new-reader.result c.args.line.now c.in-Ok.line c.new-reader.ensures (λ e. c.in_default.not-End (c.kind.ensures.is ∙ e)) c.in-Ok.ensures

pub returns-in-Err : goal.returns-in-Err
returns-in-Err c = whole_unread AWholeAnyLine (λ line. IsWholeAnyLine (tokens c.args.line.now) (any_image line)) c.new-reader.result c.args.line.now c.in-Err.fault c.as_line_fault.result c.new-reader.ensures (λ e. c.in_default.not-End (c.kind.ensures.is ∙ e)) c.in-Err.ensures c.as_line_fault.ensures
