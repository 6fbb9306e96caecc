use Rattle.std.proofs.{Common.{ap, arith, get_or, Option}, lemmas.Grind.common_steps}
use Rattle.smk_base.specs.Rels.{Relation}
use Rattle.smk_compose.specs.declared.kept_maps.Run.{Run}
use Rattle.smk_session.proofs.{OpenedViews.views_long, Shown.{contents_long, shown_first, shown_kept}}
use Rattle.smk_session.proofs.answer.content.Goals as goal

pub bounds-held-v : goal.bounds-held-v
bounds-held-v c = omega (arith, c.requires.view, contents_long c.args.held.now.catalog.now c.args.held.now.tables.now c.args.held.now.brushes.now c.args.held.now.contents.now c.requires.held.in_force)

pub bounds-held-v-in-None : goal.bounds-held-v-in-None
bounds-held-v-in-None c = omega (arith, c.requires.view, views_long c.args.held.now.catalog.now c.args.held.now.tables.now c.args.held.now.views.now c.requires.held.opened)

pub returns-in-Some : goal.returns-in-Some
returns-in-Some c =
    shown_kept c.args.held.now.catalog.now c.args.held.now.tables.now c.args.held.now.brushes.now c.args.held.now.contents.now c.args.v (get_or c.args.held.now.contents.now c.args.v c.index-held-v.result) _ c.requires.held.in_force c.requires.view
    (ap (λ (k : Option Relation). get_or c.args.held.now.contents.now c.args.v k) c.index-held-v.is) c.in-Some.is

pub returns-in-None : goal.returns-in-None
returns-in-None c =
    shown_first c.args.held.now.catalog.now c.args.held.now.tables.now c.args.held.now.views.now c.args.held.now.brushes.now c.args.held.now.contents.now c.args.v (get_or c.args.held.now.contents.now c.args.v c.index-held-v.result) (get_or c.args.held.now.views.now c.args.v c.index-held-v-in-None.result) c.requires.held.opened c.requires.held.in_force
    c.requires.view (ap (λ (k : Option Relation). get_or c.args.held.now.contents.now c.args.v k) c.index-held-v.is) c.in-None.is (ap (λ (r : Run). get_or c.args.held.now.views.now c.args.v r) c.index-held-v-in-None.is)

pub offset_bounds-held-v-in-None : goal.offset_bounds-held-v-in-None
offset_bounds-held-v-in-None c = grind (arith, common_steps)
