use Rattle.std.proofs.{Common.{◌≡◌, ◌≤◌, ◌+◌, List, None, subst}, lemmas.Result.err_from_is_err_and}
use Rattle.smk_base.specs.Rels.{Relation}
use Rattle.smk_model.specs.{Looks.start_looks, Opening.first_view_fault}
use Rattle.smk_session.specs.Opened.{IsStartFault, workbook_image}
use Rattle.smk_session.proofs.Shown.{session_begun}
use Rattle.smk_session.proofs.session.Session.start.Goals as goal

pub returns-in_err-begun-clause-fault : goal.returns-in_err-begun-clause-fault
returns-in_err-begun-clause-fault g c =
    let p = err_from_is_err_and c.from_residual.result c.from_residual.ensures.1 in
    rw (p.1, p.2) (subst (λ (T : List Relation). IsStartFault c.in_err-begun.field-0.0 (first_view_fault (workbook_image c.args.book T))) c.as_slice.ensures.value c.in_err-begun.ensures.fault)

pub returns-in_err-begun-clause-looks : goal.returns-in_err-begun-clause-looks
returns-in_err-begun-clause-looks g c = subst (λ (T : List Relation). c.begin.new.steps ≤ c.args.steps.now + start_looks (workbook_image c.args.book T)) c.as_slice.ensures.value c.begin.ensures.looks

pub returns-clause-looks : goal.returns-clause-looks
returns-clause-looks g c = subst (λ (T : List Relation). c.begin.new.steps ≤ c.args.steps.now + start_looks (workbook_image c.args.book T)) c.as_slice.ensures.value c.begin.ensures.looks

pub returns-clause-none : goal.returns-clause-none
returns-clause-none g c = subst (λ (T : List Relation). first_view_fault (workbook_image c.args.book T) ≡ None) c.as_slice.ensures.value c.in_ok-begun.ensures.none

pub invariant_of-result : goal.invariant_of-result
invariant_of-result g c =
    let begun = c.in_ok-begun.begun in
    session_begun c.args.book _ c.args.tables.items begun.views.items begun.extras.splits.items begun.extras.cubes.items c.new.result begun.contents.items c.args.mode c.args.workers
    c.as_slice.ensures.value c.in_ok-begun.ensures.opened c.in_ok-begun.ensures.extras c.new.ensures c.in_ok-begun.ensures.contents c.requires.some_workers c.requires.few_workers

pub returns-clause-keeps : goal.returns-clause-keeps
returns-clause-keeps g c =
    let begun = c.in_ok-begun.begun in
    session_begun c.args.book _ c.args.tables.items begun.views.items begun.extras.splits.items begun.extras.cubes.items c.new.result begun.contents.items c.args.mode c.args.workers
    c.as_slice.ensures.value c.in_ok-begun.ensures.opened c.in_ok-begun.ensures.extras c.new.ensures c.in_ok-begun.ensures.contents c.requires.some_workers c.requires.few_workers
