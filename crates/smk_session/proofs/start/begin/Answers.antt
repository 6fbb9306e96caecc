use Rattle.std.proofs.Common.{refl}
use Rattle.smk_session.specs.Opened.{workbook_image}
use Rattle.smk_session.proofs.{Declared.just_opened, Starts.{start_whole, start_within}}
use Rattle.smk_session.proofs.start.begin.Goals as goal

pub returns-in_err-views-clause-looks : goal.returns-in_err-views-clause-looks
returns-in_err-views-clause-looks g c = start_within (workbook_image c.args.book.now c.args.tables.now) c.args.steps.now c.open_views.new.steps c.open_views.ensures.looks

pub returns-in_err-beside-clause-looks : goal.returns-in_err-beside-clause-looks
returns-in_err-beside-clause-looks g c =
    start_whole c.args.book.now c.args.book.now c.args.tables.now c.args.tables.now c.args.tables.now c.args.steps.now c.open_views.new.steps c.keep_beside.new.steps refl refl refl c.open_views.ensures.looks c.keep_beside.ensures.looks

pub returns-clause-looks : goal.returns-clause-looks
returns-clause-looks g c =
    start_whole c.args.book.now c.args.book.now c.args.tables.now c.args.tables.now c.args.tables.now c.args.steps.now c.open_views.new.steps c.keep_beside.new.steps refl refl refl c.open_views.ensures.looks c.keep_beside.ensures.looks

pub keep_beside-requires-clause-opened : goal.keep_beside-requires-clause-opened
keep_beside-requires-clause-opened g c κs within = rw c.as_slice.ensures.value (just_opened c.args.book.now c.args.tables.now c.in_ok-views.views.items c.in_ok-views.ensures.opened)
