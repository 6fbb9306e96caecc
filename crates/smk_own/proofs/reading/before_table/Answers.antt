use Rattle.std.proofs.Common.{Err, ap, sym, ◌∙◌, subst}
use Rattle.smk_model.specs.OwnLines.{Misses, IsOwnReading}
use Rattle.smk_own.specs.Image.{part_image}
use Rattle.smk_own.proofs.OwnReads.{rest-le, IsTableRead, table_read}
use Rattle.smk_own.proofs.reading.before_table.Goals as goal

pub in_place-requires : goal.in_place-requires
in_place-requires c = rest-le _ _ _ c.requires

pub returns-in-Ok : goal.returns-in-Ok
returns-in-Ok c =
    let read = table_read c.args.text.now c.args.rest.now (part_image c.args.part) c.requires (c.as_slice.ensures.value ∙ c.in_ok-line.ensures) _ c.parse_selected.ensures in
    subst (IsTableRead c.args.text.now (part_image c.args.part)) c.in-Ok.is read

pub returns-in-Err-NotALine : goal.returns-in-Err-NotALine
returns-in-Err-NotALine c =
    let read = table_read c.args.text.now c.args.rest.now (part_image c.args.part) c.requires (c.as_slice.ensures.value ∙ c.in_ok-line.ensures) _ c.parse_selected.ensures in
    let own = subst (IsTableRead c.args.text.now (part_image c.args.part)) (c.in-Err-NotALine.is ∙ ap Err c.in-Err-NotALine.field-0-is) read in
    subst (λ n. IsOwnReading c.args.text.now (Misses n)) (sym c.in-Err-NotALine.at-is) own
