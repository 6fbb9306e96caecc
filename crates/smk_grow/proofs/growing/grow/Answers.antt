use Rattle.std.proofs.Common.{◌∙◌}
use Rattle.smk_session.specs.Parts.{parts_image}
use Rattle.smk_grow.proofs.Lengthened.{err_same, first_looks, lengthened_after, lengthened_apart, lengthened_grown, lengthened_kept, lengthened_looks, lengthened_one, lengthened_told, ok_same, told_same}
use Rattle.smk_grow.proofs.growing.grow.Goals as goal

pub returns-in_err-apart-clause-looks : goal.returns-in_err-apart-clause-looks
returns-in_err-apart-clause-looks g c =
    first_looks (parts_image c.args.parts.now) c.args.table c.args.more.rows c.args.steps.now c.open_apart.new.steps c.requires.table c.open_apart.ensures.looks

pub returns-in_err-len-clause-looks : goal.returns-in_err-len-clause-looks
returns-in_err-len-clause-looks g c =
    first_looks (parts_image c.args.parts.now) c.args.table c.args.more.rows c.args.steps.now c.open_apart.new.steps c.requires.table c.open_apart.ensures.looks

pub renew_parts-requires-clause-grown : goal.renew_parts-requires-clause-grown
renew_parts-requires-clause-grown g c κs within =
    lengthened_grown (lengthened_one c.open_apart.ensures.parts c.open_apart.ensures.more c.in_ok-len.ensures.longer) c.requires.few

pub renew_parts-requires-clause-apart : goal.renew_parts-requires-clause-apart
renew_parts-requires-clause-apart g c κs within =
    let l = lengthened_one c.open_apart.ensures.parts c.open_apart.ensures.more c.in_ok-len.ensures.longer in
    c.as_slice.ensures.value ∙ c.in_ok-apart.ensures.views
    ∙ lengthened_apart (parts_image c.args.parts.now) (parts_image c.lengthen_parts.new.parts) c.args.table c.in_ok-len.len c.args.more l c.requires.kinds

pub returns-clause-reply : goal.returns-clause-reply
returns-clause-reply g c =
    let l = lengthened_one c.open_apart.ensures.parts c.open_apart.ensures.more c.in_ok-len.ensures.longer in
    told_same c.renew_parts.result (λ told. told.0) (lengthened_told l c.len-rows.ensures.count) c.renew_parts.ensures.reply

pub returns-clause-after : goal.returns-clause-after
returns-clause-after g c =
    ok_same c.renew_parts.result (parts_image c.renew_parts.new.parts) (lengthened_after (lengthened_one c.open_apart.ensures.parts c.open_apart.ensures.more c.in_ok-len.ensures.longer)) c.renew_parts.ensures.after

pub returns-clause-kept : goal.returns-clause-kept
returns-clause-kept g c =
    err_same c.renew_parts.result (parts_image c.renew_parts.new.parts) (lengthened_kept (lengthened_one c.open_apart.ensures.parts c.open_apart.ensures.more c.in_ok-len.ensures.longer)) c.renew_parts.ensures.kept

pub returns-clause-looks : goal.returns-clause-looks
returns-clause-looks g c =
    lengthened_looks c.args.steps.now c.open_apart.new.steps c.renew_parts.new.steps (lengthened_one c.open_apart.ensures.parts c.open_apart.ensures.more c.in_ok-len.ensures.longer) c.open_apart.ensures.looks c.renew_parts.ensures.looks

pub returns-clause-text : goal.returns-clause-text
returns-clause-text g c = c.renew_parts.ensures.text
