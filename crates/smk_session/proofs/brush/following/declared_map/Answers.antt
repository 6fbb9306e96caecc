use Rattle.std.proofs.Common.{ap, arith, get_or}
use Rattle.smk_compose.specs.declared.kept_maps.Run.{Run}
use Rattle.smk_session.proofs.{Declared.{told_none, told_some}, Followers.declared_fwd, OpenedViews.views_long}
use Rattle.smk_session.proofs.brush.following.declared_map.Goals as goal

pub bounds-held-w : goal.bounds-held-w
bounds-held-w c = omega (arith, c.requires.view, views_long c.args.refresh.now.held.now.catalog.now c.args.refresh.now.held.now.tables.now c.args.refresh.now.held.now.views.now c.requires.refresh.held.opened)

pub unreachable-requires : goal.unreachable-requires
unreachable-requires c =
    let held = c.args.refresh.now.held.now in
    let run : Run = get_or held.views.now c.args.w c.index-held-w.result in
    told_none (λ map. map.now) c.fwd_kept.result _ _ c.fwd_kept.ensures c.in-None.is
    (declared_fwd held.catalog.now held.tables.now held.views.now c.args.w c.args.refresh.now.table run c.requires.refresh.held.opened c.requires.view c.requires.refresh.table (ap (get_or held.views.now c.args.w) c.index-held-w.is) c.requires.declared)

pub returns : goal.returns
returns c =
    let held = c.args.refresh.now.held.now in
    let run : Run = get_or held.views.now c.args.w c.index-held-w.result in
    told_some (λ map. map.now) c.fwd_kept.result c.in-Some.map _ _ c.fwd_kept.ensures c.in-Some.is
    (declared_fwd held.catalog.now held.tables.now held.views.now c.args.w c.args.refresh.now.table run c.requires.refresh.held.opened c.requires.view c.requires.refresh.table (ap (get_or held.views.now c.args.w) c.index-held-w.is) c.requires.declared)
