use Rattle.std.proofs.Common.{◌≡◌, ◌∙◌, get_or, sym, None, Some}
use Rattle.smk_session.proofs.Declared.{now_fresh}
use Rattle.smk_session.proofs.start.making.view_now.Goals as goal

pub returns-in-Some-Some : goal.returns-in-Some-Some
returns-in-Some-Some c =
    let opening = c.args.opening.now in
    let run = c.in-Some-Some.fresh in
    let at : get_or opening.fresh.now c.args.v None ≡ Some run = cc (c.in-Some-Some.ensures.lookup.3.1 None, c.in-Some-Some.is, c.in-Some-Some.field-0-is, c.in-Some-Some.fresh-is) in
    sym (now_fresh opening.fresh.now opening.views.now c.args.v run at) ∙ c.requires.opened.views_are c.args.v run c.requires.view
