use Rattle.std.proofs.{Common.{◌∙◌, ◌≤◌, ◌+◌, List, ap, subst, arith}, lemmas.Grind.common_steps}
use Rattle.smk_base.specs.CatalogImage.{ViewImage}
use Rattle.smk_model.specs.{Values.Row, Selection.rows_in}
use Rattle.smk_session.proofs.Followers.{leaves_fit, leaves_over, picks_known, view_kinds}
use Rattle.smk_session.proofs.brush.following.fetch_rows.Goals as goal

pub fetch_leaves-requires-clause-picks : goal.fetch_leaves-requires-clause-picks
fetch_leaves-requires-clause-picks g c =
    let r = c.args.refresh.now in
    let held = r.held.now in
    picks_known held.catalog.now held.tables.now r.brushes.now c.args.w c.in_ok-picks.picks c.in_ok-picks.ensures

pub returns-in_err-leaves-clause-looks : goal.returns-in_err-leaves-clause-looks
returns-in_err-leaves-clause-looks g c =
    let r = c.args.refresh.now in
    let held = r.held.now in
    subst (λ (E : List (List Row)). c.fetch_leaves.new.steps ≤ c.args.steps.now + rows_in E)
    (leaves_over held.catalog.now held.tables.now r.brushes.now c.args.w c.in_ok-picks.picks c.view_of.result.now c.view_of.ensures.view c.in_ok-picks.ensures) c.fetch_leaves.ensures.looks

pub returns-clause-looks : goal.returns-clause-looks
returns-clause-looks g c =
    let r = c.args.refresh.now in
    let held = r.held.now in
    subst (λ (E : List (List Row)). c.fetch_leaves.new.steps ≤ c.args.steps.now + rows_in E)
    (leaves_over held.catalog.now held.tables.now r.brushes.now c.args.w c.in_ok-picks.picks c.view_of.result.now c.view_of.ensures.view c.in_ok-picks.ensures) c.fetch_leaves.ensures.looks

pub returns-clause-source : goal.returns-clause-source
returns-clause-source g c =
    let r = c.args.refresh.now in
    let held = r.held.now in
    record {
      plan_is = ap (λ (v : ViewImage). v.plan) c.view_of.ensures.view;
      rows = c.in_ok-leaves.ensures.rows ∙ leaves_over held.catalog.now held.tables.now r.brushes.now c.args.w c.in_ok-picks.picks c.view_of.result.now c.view_of.ensures.view c.in_ok-picks.ensures;
      kinds = view_kinds held.catalog.now held.tables.now c.in_ok-leaves.leaves c.args.w c.view_of.result.now c.requires.refresh.held.opened.kinds c.view_of.ensures.view c.view_of.ensures.fits c.in_ok-leaves.ensures.kinds;
    }

pub returns-clause-ready : goal.returns-clause-ready
returns-clause-ready g c =
    let held = c.args.refresh.now.held.now in
    record {
      wide = c.in_ok-leaves.ensures.count;
      few = omega (arith, c.view_of.ensures.fits.few);
      fits = leaves_fit held.catalog.now held.tables.now c.in_ok-leaves.leaves c.view_of.result.now c.requires.refresh.held.opened.kinds c.view_of.ensures.fits c.in_ok-leaves.ensures.kinds;
    }

pub fetch_leaves-requires-clause-scans : goal.fetch_leaves-requires-clause-scans
fetch_leaves-requires-clause-scans g c = grind (arith, common_steps)
