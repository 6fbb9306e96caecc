use Rattle.std.proofs.{Common.{◌≡◌, ℕ, arith, length, map, refl, [], subst}, lemmas.List.length-map}
use Rattle.smk_base.specs.{CatalogImage.view_image, Places.upto}
use Rattle.smk_session.specs.Answers.{book_of, content_at, state_at}
use Rattle.smk_session.proofs.{Brushed.none_change, Shown.contents_long, Starts.views_more}
use Rattle.smk_session.proofs.brush.clear.Goals as goal

pub overflow_cast-view-end : goal.overflow_cast-view-end
overflow_cast-view-end c =
    omega (arith, contents_long c.args.held.now.catalog.now c.args.held.now.tables.now c.args.held.now.brushes.now c.args.held.now.contents.now c.requires.in_force, c.requires.opened.checked.limits.few_views, length-map c.args.held.now.catalog.now.views view_image)

pub returns-clause-changes : goal.returns-clause-changes
returns-clause-changes c =
    let same : c.loop-view.view ≡ length c.args.held.now.contents.now = omega arith in
    none_change c.args.held.now c.new-brushes.result c.loop-view.contents c.requires c.new-brushes.ensures
    (subst (λ (n : ℕ). c.loop-view.contents ≡ map (content_at (book_of c.args.held.now) (state_at c.args.held.now [])) (upto n)) same c.loop-view.invariant)

pub loop-view-preserved : goal.loop-view-preserved
loop-view-preserved c =
    views_more (content_at (book_of c.args.held.now) (state_at c.args.held.now [])) c.loop-view.view c.loop-view.contents c.push.new.self _ c.in_ok-push.ensures.pushed c.loop-view.invariant refl
