use Rattle.std.proofs.{Common.arith, lemmas.List.length-map}
use Rattle.smk_base.specs.CatalogImage.{view_image}
use Rattle.smk_session.proofs.Declared.{declared_kept, told_none, told_some}
use Rattle.smk_session.proofs.start.making.declared_map.Goals as goal

pub view_now-requires-clause-view : goal.view_now-requires-clause-view
view_now-requires-clause-view c = omega (arith, c.requires.declared.fits.view, length-map c.args.opened.now.book.now.views view_image)

pub unreachable-requires : goal.unreachable-requires
unreachable-requires c =
    let opened = c.args.opened.now in
    told_none (λ map. map.now) c.back_kept.result _ _ c.back_kept.ensures c.in-None.is
    (declared_kept opened.book.now opened.tables.now c.args.declared.now c.view_now.result.now c.requires.declared c.view_now.ensures)

pub returns : goal.returns
returns c =
    let opened = c.args.opened.now in
    told_some (λ map. map.now) c.back_kept.result c.in-Some.map _ _ c.back_kept.ensures c.in-Some.is
    (declared_kept opened.book.now opened.tables.now c.args.declared.now c.view_now.result.now c.requires.declared c.view_now.ensures)
