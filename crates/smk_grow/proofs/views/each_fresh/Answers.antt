use Rattle.std.proofs.{Common.{◌∙◌, ◌<◌, ◌≤◌, ◌+◌, ap, length, arith}, lemmas.Result.err_from_is_err_and}
use Rattle.smk_base.specs.{declared.book.catalog.Catalog.Catalog, declared.book.catalog.ViewInfo.ViewInfo}
use Rattle.smk_session.proofs.Starts.{fault_first, none_more, views_more}
use Rattle.smk_grow.specs.{Renewals.{book_of, first_book, last_book}, Renewed.{apart_view, fresh_view, kept_view, scan_fault, looks_again}}
use Rattle.smk_grow.proofs.{Folds.{looks_below, looks_upto}, Kept.{at_view, long_views, views_count}}
use Rattle.smk_grow.proofs.views.each_fresh.Goals as goal

pub one_fresh-requires-clause-old : goal.one_fresh-requires-clause-old
one_fresh-requires-clause-old g c κs within =
    let r = c.args.renewal.now in
    let count = c.as_slice-count.ensures ∙ ap (λ (k : Catalog). k.views) c.catalog.ensures.value in
    let low : c.loop-v.v < length r.book.now.views = omega (arith, c.loop-v-test.true, ap (length {A = ViewInfo}) count) in
    let here = at_view r.book.now (kept_view r.table (first_book r) (book_of r)) c.args.olds.now c.loop-v.v c.index-olds-v.result c.requires.olds low c.index-olds-v.is in
    cc (here, c.index-olds-v.is)

pub one_fresh-requires-clause-apart : goal.one_fresh-requires-clause-apart
one_fresh-requires-clause-apart g c κs within =
    let r = c.args.renewal.now in
    let count = c.as_slice-count.ensures ∙ ap (λ (k : Catalog). k.views) c.catalog.ensures.value in
    let low : c.loop-v.v < length r.book.now.views = omega (arith, c.loop-v-test.true, ap (length {A = ViewInfo}) count) in
    let here = at_view r.book.now (apart_view r.table (last_book r)) c.args.apart.now c.loop-v.v c.index-apart-v.result c.requires.apart low c.index-apart-v.is in
    cc (here, c.index-apart-v.is)

pub bounds-olds-v : goal.bounds-olds-v
bounds-olds-v g c =
    let r = c.args.renewal.now in
    let count = c.as_slice-count.ensures ∙ ap (λ (k : Catalog). k.views) c.catalog.ensures.value in
    omega (arith, c.loop-v-test.true, ap (length {A = ViewInfo}) count, long_views r.book.now (kept_view r.table (first_book r) (book_of r)) c.args.olds.now c.requires.olds)

pub bounds-apart-v : goal.bounds-apart-v
bounds-apart-v g c =
    let r = c.args.renewal.now in
    let count = c.as_slice-count.ensures ∙ ap (λ (k : Catalog). k.views) c.catalog.ensures.value in
    omega (arith, c.loop-v-test.true, ap (length {A = ViewInfo}) count, long_views r.book.now (apart_view r.table (last_book r)) c.args.apart.now c.requires.apart)

pub returns-in_err-one_fresh-clause-fault : goal.returns-in_err-one_fresh-clause-fault
returns-in_err-one_fresh-clause-fault g c =
    let r = c.args.renewal.now in
    let book = book_of r in
    let count = c.as_slice-count.ensures ∙ ap (λ (k : Catalog). k.views) c.catalog.ensures.value in
    let low : c.loop-v.v < length book.catalog.views = omega (arith, c.loop-v-test.true, views_count r.book.now, ap (length {A = ViewInfo}) count) in
    let p = err_from_is_err_and c.from_residual-in_err-one_fresh.result c.from_residual-in_err-one_fresh.ensures.1 in
    rw (p.1, p.2) (fault_first c.in_err-one_fresh.field-0.0 (scan_fault r.table book) (length book.catalog.views) c.loop-v.v low c.loop-v.invariant.none c.in_err-one_fresh.ensures.fault)

pub returns-in_err-one_fresh-clause-looks : goal.returns-in_err-one_fresh-clause-looks
returns-in_err-one_fresh-clause-looks g c =
    let r = c.args.renewal.now in
    let book = book_of r in
    let count = c.as_slice-count.ensures ∙ ap (λ (k : Catalog). k.views) c.catalog.ensures.value in
    let low : c.loop-v.v + 1 ≤ length book.catalog.views = omega (arith, c.loop-v-test.true, views_count r.book.now, ap (length {A = ViewInfo}) count) in
    looks_below (looks_again r.table book) (c.loop-v.v + 1) (length book.catalog.views) c.args.steps.now c.one_fresh.new.steps low
    (looks_upto (looks_again r.table book) c.loop-v.v c.args.steps.now c.loop-v.steps c.one_fresh.new.steps c.loop-v.invariant.looks c.one_fresh.ensures.looks)

pub returns-in_err-push-clause-looks : goal.returns-in_err-push-clause-looks
returns-in_err-push-clause-looks g c =
    let r = c.args.renewal.now in
    let book = book_of r in
    let count = c.as_slice-count.ensures ∙ ap (λ (k : Catalog). k.views) c.catalog.ensures.value in
    let low : c.loop-v.v + 1 ≤ length book.catalog.views = omega (arith, c.loop-v-test.true, views_count r.book.now, ap (length {A = ViewInfo}) count) in
    looks_below (looks_again r.table book) (c.loop-v.v + 1) (length book.catalog.views) c.args.steps.now c.one_fresh.new.steps low
    (looks_upto (looks_again r.table book) c.loop-v.v c.args.steps.now c.loop-v.steps c.one_fresh.new.steps c.loop-v.invariant.looks c.one_fresh.ensures.looks)

pub loop-v-preserved : goal.loop-v-preserved
loop-v-preserved g c =
    let r = c.args.renewal.now in
    let book = book_of r in
    record {
      views = views_more (fresh_view r.table book) c.loop-v.v c.loop-v.views.items c.push.new.self.items c.in_ok-one_fresh.field-0 c.in_ok-push.ensures.items c.loop-v.invariant.views c.in_ok-one_fresh.ensures.fresh;
      none = none_more (scan_fault r.table book) c.loop-v.v c.loop-v.invariant.none c.in_ok-one_fresh.ensures.none;
      looks = looks_upto (looks_again r.table book) c.loop-v.v c.args.steps.now c.loop-v.steps c.one_fresh.new.steps c.loop-v.invariant.looks c.one_fresh.ensures.looks;
    }
