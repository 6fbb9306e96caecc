use Rattle.std.proofs.Common.{ap, arith, get_or}
use Rattle.smk_compose.specs.declared.kept_maps.Run.{Run}
use Rattle.smk_session.proofs.{Brushed.linked_told, OpenedViews.views_long}
use Rattle.smk_session.proofs.brush.linked_map.Goals as goal

pub bounds-held-v : goal.bounds-held-v
bounds-held-v c = omega (arith, c.requires.view, views_long c.args.held.now.catalog.now c.args.held.now.tables.now c.args.held.now.views.now c.requires.held.opened)

pub returns : goal.returns
returns c =
    linked_told (λ map. map.now) c.back_map.result c.args.held.now.catalog.now c.args.held.now.tables.now c.args.held.now.views.now c.args.v c.args.t (get_or c.args.held.now.views.now c.args.v c.index-held-v.result) c.requires.held.opened c.requires.view c.requires.table
    (ap (λ (r : Run). get_or c.args.held.now.views.now c.args.v r) c.index-held-v.is) c.requires.linked c.back_map.ensures
