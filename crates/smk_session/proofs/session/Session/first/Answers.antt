use Rattle.std.proofs.Common.{◌≡◌, ◌<◌, ap, subst, arith, length}
use Rattle.smk_compose.specs.declared.kept_maps.Run.{Run}
use Rattle.smk_session.specs.{Opened.{opened, workbook_image}, Sessions.{SessionImage, workbook_of}}
use Rattle.smk_session.proofs.OpenedViews.{views_long, run_is}
use Rattle.smk_session.proofs.session.Session.first.Goals as goal

pub index-requires : goal.index-requires
index-requires c =
    let s = c.self.inside in
    omega (arith, c.requires, ap (λ (i : SessionImage). length i.catalog.views) c.self.view_is, views_long s.book s.tables.items s.views.items c.self.invariant.opened, s.views.ok.0)

pub returns : goal.returns
returns c =
    let s = c.self.inside in
    let run = c.index.result.now in
    let low : c.args.view < length s.book.views = omega (arith, c.requires, ap (λ (i : SessionImage). length i.catalog.views) c.self.view_is) in
    let here : run.rel ≡ (opened (workbook_image s.book s.tables.items) c.args.view).rel =
    ap (λ (r : Run). r.rel) (run_is s.book s.tables.items s.views.items c.args.view run c.self.invariant.opened low c.index.ensures) in
    record { rows = subst (λ (i : SessionImage). run.rel ≡ (opened (workbook_of i) c.args.view).rel) c.self.view_is here }
