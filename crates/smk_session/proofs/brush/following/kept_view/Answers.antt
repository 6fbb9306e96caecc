use Rattle.std.proofs.Common.{◌∙◌, ap, arith, get_or, refl, sym}
use Rattle.smk_session.proofs.{KeptViews.view_kept, OpenedViews.views_long}
use Rattle.smk_session.proofs.brush.following.kept_view.Goals as goal

pub bounds-held-w : goal.bounds-held-w
bounds-held-w c = omega (arith, c.requires.view, views_long c.args.refresh.now.held.now.catalog.now c.args.refresh.now.held.now.tables.now c.args.refresh.now.held.now.views.now c.requires.refresh.held.opened)

pub returns-then-scanned_table-refresh-clause-kept : goal.returns-then-scanned_table-refresh-clause-kept
returns-then-scanned_table-refresh-clause-kept c =
    let refresh = c.args.refresh.now in
    let held = refresh.held.now in
    let run = get_or held.views.now c.args.w c.index-held-w.result in
    view_kept held c.args.w refresh.table run c.view_of.result.now _ c.requires.refresh.held c.requires.view (ap (get_or held.views.now c.args.w) c.index-held-w.is) c.view_of.ensures.view c.in_ok-plan.ensures.ends refl
    (sym c.if-scanned_table-refresh.true ∙ c.scanned_table.ensures) c.declared_map.ensures
