use Rattle.std.proofs.{Common.{◌∙◌, ◌<◌, ap, length, refl, arith}, lemmas.List.length-map, lemmas.Result.err_from_is_err_and, lemmas.Grind.common_steps}
use Rattle.smk_base.specs.{CatalogImage.{catalog_image, view_image}, declared.book.catalog.Catalog.Catalog, declared.book.catalog.ViewInfo.ViewInfo}
use Rattle.smk_outside.specs.Outside.{Rose}
use Rattle.smk_model.specs.{ViewTexts.text_of_view, Session.no_view}
use Rattle.smk_session.specs.Sessions.{workbook_of}
use Rattle.smk_top.specs.declared.counts.Counts.{Counts}
use Rattle.smk_inputs.proofs.Stops.{rose_within}
use Rattle.smk_top.proofs.Appending.{want_here, fails_here, wants_stop}
use Rattle.smk_top.proofs.reporting.write_views.Goals as goal

pub returns-in_err-text-clause-written : goal.returns-in_err-text-clause-written
returns-in_err-text-clause-written g c =
    let p = err_from_is_err_and c.from_residual.result c.from_residual.ensures.1 in
    rw (p.1, p.2) (want_here (text_of_view (workbook_of c.args.session.now)) (catalog_image c.args.session.now.catalog).views c.loop-number.number _ _ c.loop-number.invariant.written)

pub returns-in_err-put-clause-written : goal.returns-in_err-put-clause-written
returns-in_err-put-clause-written g c =
    let p = err_from_is_err_and c.from_residual-in_err-put.result c.from_residual-in_err-put.ensures.1 in
    let session = c.args.session.now in
    let low : c.loop-number.number < length (catalog_image session.catalog).views =
    omega (arith, c.loop-number-test.true, ap (length {A = ViewInfo}) (c.as_slice.ensures ∙ ap (λ (b : Catalog). b.views) c.catalog.ensures.book), length-map session.catalog.views view_image) in
    let wide : Rose (g.O.Sink.faults c.loop-number.out) (g.O.Sink.faults c.put.new.out) → Rose (g.O.Sink.faults c.args.out.now) (g.O.Sink.faults c.put.new.out) =
    λ up. rose_within _ _ _ _ c.loop-number.invariant.later c.in_err-put.ensures.later (omega arith) up in
    rw (p.1, p.2) (fails_here Counts (text_of_view (workbook_of session)) (catalog_image session.catalog).views c.loop-number.number _ no_view _ _ _ _ _ c.as_slice-in-loop-number.result.now _
    low refl (c.as_slice-in-loop-number.ensures.value ∙ c.in_ok-text.ensures) wide c.loop-number.invariant.written c.in_err-put.ensures.text)

pub returns-in_err-more-clause-written : goal.returns-in_err-more-clause-written
returns-in_err-more-clause-written g c =
    let p = err_from_is_err_and c.from_residual-in_err-more.result c.from_residual-in_err-more.ensures.1 in
    rw (p.1, p.2) (wants_stop Counts _ _ _ _ _ c.in_err-more.ensures.wants (want_here (text_of_view (workbook_of c.args.session.now)) (catalog_image c.args.session.now.catalog).views c.loop-number.number _ _ c.loop-number.invariant.written))

pub loop-number-preserved : goal.loop-number-preserved
loop-number-preserved g c = grind (arith, common_steps)

pub returns-clause-counts : goal.returns-clause-counts
returns-clause-counts g c = grind (arith, common_steps)

pub overflow_cast-number-end : goal.overflow_cast-number-end
overflow_cast-number-end g c = grind (arith, common_steps)
