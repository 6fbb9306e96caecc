use Rattle.std.proofs.{Common.{◌≤◌, ◌∙◌, ◌<◌, ◌+◌, All, ap, sym, subst, length, arith}, lemmas.List.length-map, lemmas.List.Elements.All-push, lemmas.Result.err_from_is_err_and, lemmas.Grind.common_steps}
use Rattle.smk_base.specs.{CatalogImage.view_image, declared.book.catalog.Catalog.Catalog, declared.book.catalog.ViewInfo.ViewInfo}
use Rattle.smk_model.specs.Looks.{looks_of_view}
use Rattle.smk_jobs.proofs.InOrder.{all_back, all_front}
use Rattle.smk_session.specs.{Openings.CanOpen, Opened.workbook_image}
use Rattle.smk_session.proofs.{AtOnce.{fault_due, none_due, none_more, opened_due, opened_more}, Starts.{looks_more, looks_within}}
use Rattle.smk_session.proofs.start.opening.open_by.Goals as goal

pub open_each-requires-clause-stocked : goal.open_each-requires-clause-stocked
open_each-requires-clause-stocked g c κs within =
    all_front (CanOpen c.args.book.now c.args.tables.now) c.due-all.result.items c.due-all.new.waiting.items c.loop-v.waiting.items c.due-all.ensures.jobs c.loop-v.invariant.stocked

pub returns-in_err-some-clause-fault : goal.returns-in_err-some-clause-fault
returns-in_err-some-clause-fault g c =
    let book = workbook_image c.args.book.now c.args.tables.now in
    let count = c.as_slice-count.ensures ∙ ap (λ (k : Catalog). k.views) c.catalog.ensures.value in
    let within : c.loop-v.v ≤ length book.catalog.views = omega (arith, c.loop-v-test.true, ap (length {A = ViewInfo}) count, length-map c.args.book.now.views view_image) in
    let p = err_from_is_err_and c.from_residual-in_err-some.result c.from_residual-in_err-some.ensures.1 in
    rw (p.1, p.2) (fault_due book c.loop-v.v (length book.catalog.views) c.in_err-some.field-0.0 c.due-all.result.items c.due-all.new.waiting.items c.loop-v.waiting.items within c.due-all.ensures.jobs c.loop-v.invariant.none c.in_err-some.ensures.fault)

pub returns-in_err-some-clause-looks : goal.returns-in_err-some-clause-looks
returns-in_err-some-clause-looks g c =
    let book = workbook_image c.args.book.now c.args.tables.now in
    looks_within (looks_of_view book) book.catalog.views c.loop-v.v c.args.steps.now c.loop-v.steps c.loop-v.invariant.looks

pub returns-in_err-append-clause-looks : goal.returns-in_err-append-clause-looks
returns-in_err-append-clause-looks g c =
    let book = workbook_image c.args.book.now c.args.tables.now in
    looks_within (looks_of_view book) book.catalog.views c.loop-v.v c.args.steps.now c.loop-v.steps c.loop-v.invariant.looks

pub returns-in_err-stock-clause-looks : goal.returns-in_err-stock-clause-looks
returns-in_err-stock-clause-looks g c =
    let book = workbook_image c.args.book.now c.args.tables.now in
    let count = c.as_slice-count.ensures ∙ ap (λ (k : Catalog). k.views) c.catalog.ensures.value in
    let low : c.loop-v.v < length book.catalog.views = omega (arith, c.loop-v-test.true, ap (length {A = ViewInfo}) count, length-map c.args.book.now.views view_image) in
    looks_within (looks_of_view book) book.catalog.views (c.loop-v.v + 1) c.args.steps.now c.stock.new.steps
    (looks_more (looks_of_view book) book.catalog.views c.loop-v.v c.args.steps.now c.loop-v.steps c.stock.new.steps low c.loop-v.invariant.looks c.stock.ensures.looks)

pub returns-in_err-push-clause-looks : goal.returns-in_err-push-clause-looks
returns-in_err-push-clause-looks g c =
    let book = workbook_image c.args.book.now c.args.tables.now in
    let count = c.as_slice-count.ensures ∙ ap (λ (k : Catalog). k.views) c.catalog.ensures.value in
    let low : c.loop-v.v < length book.catalog.views = omega (arith, c.loop-v-test.true, ap (length {A = ViewInfo}) count, length-map c.args.book.now.views view_image) in
    looks_within (looks_of_view book) book.catalog.views (c.loop-v.v + 1) c.args.steps.now c.stock.new.steps
    (looks_more (looks_of_view book) book.catalog.views c.loop-v.v c.args.steps.now c.loop-v.steps c.stock.new.steps low c.loop-v.invariant.looks c.stock.ensures.looks)

pub loop-v-preserved : goal.loop-v-preserved
loop-v-preserved g c =
    let catalog = c.args.book.now in
    let tables = c.args.tables.now in
    let book = workbook_image catalog tables in
    let fits = CanOpen catalog tables in
    let count = c.as_slice-count.ensures ∙ ap (λ (k : Catalog). k.views) c.catalog.ensures.value in
    let low : c.loop-v.v < length book.catalog.views = omega (arith, c.loop-v-test.true, ap (length {A = ViewInfo}) count, length-map catalog.views view_image) in
    let due = c.due-all.result.items in
    let rest = c.due-all.new.waiting.items in
    let waiting = c.loop-v.waiting.items in
    let cut = c.due-all.ensures.jobs in
    let one = c.in_ok-stock.field-0 in
    let after = c.push.new.self.items in
    let pushed = c.in_ok-push.ensures.items in
    let view = c.in_ok-stock.ensures.view in
    let opened = opened_due book c.loop-v.v c.loop-v.views.items c.in_ok-some.some.items c.append.new.self.items due rest waiting cut c.in_ok-some.ensures.opened c.in_ok-append.ensures.items c.loop-v.invariant.views in
    let none = none_due book c.loop-v.v due rest waiting cut c.in_ok-some.ensures.none c.loop-v.invariant.none in
    record {
      views = opened_more book c.loop-v.v c.append.new.self.items rest after one pushed view opened;
      none = none_more book c.loop-v.v rest after one pushed view none;
      stocked = subst (All fits) (sym pushed) (All-push fits rest one (all_back fits due rest waiting cut c.loop-v.invariant.stocked) c.in_ok-stock.ensures.stocked);
      looks = looks_more (looks_of_view book) book.catalog.views c.loop-v.v c.args.steps.now c.loop-v.steps c.stock.new.steps low c.loop-v.invariant.looks c.stock.ensures.looks;
    }

pub overflow_cast-v-end : goal.overflow_cast-v-end
overflow_cast-v-end g c = grind (arith, common_steps)
