use Rattle.std.proofs.Common.{Ok, Err, ap, sym, ◌∙◌, subst}
use Rattle.smk_model.specs.OwnLines.{Misses, or_first_dot, IsOwnReading}
use Rattle.smk_own.specs.Leads.{line_behind}
use Rattle.smk_own.proofs.OwnReads.{rest-le, IsRead, line_read}
use Rattle.smk_own.proofs.reading.before_line.Goals as goal

pub in_place-requires : goal.in_place-requires
in_place-requires c = rest-le _ _ _ c.requires

pub returns-in-Ok-Some : goal.returns-in-Ok-Some
returns-in-Ok-Some c =
    let read = line_read c.args.text.now c.args.rest.now (line_behind c.args.words) c.requires (c.as_slice.ensures.value ∙ c.in_ok-placed.ensures) _ c.parse_any.ensures in
    let own = subst (IsRead c.args.text.now (line_behind c.args.words)) (c.in-Ok-Some.is ∙ ap Ok c.in-Ok-Some.field-0-is) read in
    subst (IsOwnReading c.args.text.now) (sym (c.or_first_dot.ensures ∙ ap (or_first_dot c.args.text.now) c.becomes.ensures)) own

pub returns-in-Ok-None : goal.returns-in-Ok-None
returns-in-Ok-None c =
    let read = line_read c.args.text.now c.args.rest.now (line_behind c.args.words) c.requires (c.as_slice.ensures.value ∙ c.in_ok-placed.ensures) _ c.parse_any.ensures in
    subst (IsRead c.args.text.now (line_behind c.args.words)) (c.in-Ok-None.is ∙ ap Ok c.in-Ok-None.field-0-is) read

pub returns-in-Err-NotALine : goal.returns-in-Err-NotALine
returns-in-Err-NotALine c =
    let read = line_read c.args.text.now c.args.rest.now (line_behind c.args.words) c.requires (c.as_slice.ensures.value ∙ c.in_ok-placed.ensures) _ c.parse_any.ensures in
    let own = subst (IsRead c.args.text.now (line_behind c.args.words)) (c.in-Err-NotALine.is ∙ ap Err c.in-Err-NotALine.field-0-is) read in
    subst (λ n. IsOwnReading c.args.text.now (Misses n)) (sym c.in-Err-NotALine.at-is) own
