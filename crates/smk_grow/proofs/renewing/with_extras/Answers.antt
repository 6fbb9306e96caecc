use Rattle.std.proofs.Common.{◌∙◌}
use Rattle.smk_grow.specs.Renewals.{first_book}
use Rattle.smk_grow.proofs.Kept.{now_opened}
use Rattle.smk_grow.proofs.renewing.with_extras.Goals as goal

pub fresh_extras-requires-clause-opened : goal.fresh_extras-requires-clause-opened
fresh_extras-requires-clause-opened g c κs within =
    let r = c.args.renewal.now in
    now_opened r.book.now r.tables.now c.args.olds.now c.as_slice.result.now r.table (first_book r) c.requires.renewal.kinds c.requires.olds (c.as_slice.ensures.value ∙ c.requires.views)

pub returns-in_err-extras-clause-looks : goal.returns-in_err-extras-clause-looks
returns-in_err-extras-clause-looks g c = c.fresh_extras.ensures.looks
