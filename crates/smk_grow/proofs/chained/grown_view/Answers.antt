use Rattle.std.proofs.Common.{◌<◌, ◌≤◌, ℕ, All, subst, sym}
use Rattle.smk_base.specs.{PlanImage.expr_of, declared.book.need.Needed.Needed}
use Rattle.smk_model.specs.Selection.{ScansFit, each_rows}
use Rattle.smk_session.proofs.OpenedViews.{tables_long}
use Rattle.smk_grow.proofs.{ChainRuns.{before_is, behind_is, chain_fits, chain_grows, chain_of, chain_long, opened_is}, Lengthened.told_same}
use Rattle.smk_grow.proofs.chained.grown_view.Goals as goal

pub grown-requires-clause-growing : goal.grown-requires-clause-growing
grown-requires-clause-growing c =
    let r = c.args.renewal.now in
    let view = c.view_of-view.result.now in
    chain_grows r.book.now r.tables.now r.table c.args.v view c.in_ok-need.need
    (chain_of r.book.now c.catalog.result.now r.tables.now r.table c.args.v view c.in_ok-need.need c.catalog.ensures.value c.view_of-view.ensures.view c.view_of-view.ensures.fits c.requires.renewal.kinds c.in_ok-need.ensures.needs c.requires.renewal.table c.requires.chains)

pub grown-requires-clause-scans : goal.grown-requires-clause-scans
grown-requires-clause-scans c =
    let r = c.args.renewal.now in
    let view = c.view_of-view.result.now in
    let of = chain_of r.book.now c.catalog.result.now r.tables.now r.table c.args.v view c.in_ok-need.need c.catalog.ensures.value c.view_of-view.ensures.view c.view_of-view.ensures.fits c.requires.renewal.kinds c.in_ok-need.ensures.needs c.requires.renewal.table c.requires.chains in
    subst (λ (n : ℕ). ScansFit n (expr_of view.plan)) (sym (tables_long r.book.now r.tables.now c.requires.renewal.kinds)) of.fits.scans

pub grown-requires-clause-fits : goal.grown-requires-clause-fits
grown-requires-clause-fits c =
    let r = c.args.renewal.now in
    let view = c.view_of-view.result.now in
    chain_fits r.book.now r.tables.now r.table c.args.v view c.in_ok-need.need
    (chain_of r.book.now c.catalog.result.now r.tables.now r.table c.args.v view c.in_ok-need.need c.catalog.ensures.value c.view_of-view.ensures.view c.view_of-view.ensures.fits c.requires.renewal.kinds c.in_ok-need.ensures.needs c.requires.renewal.table c.requires.chains)

pub grown-requires-clause-need : goal.grown-requires-clause-need
grown-requires-clause-need c =
    let r = c.args.renewal.now in
    subst (λ (n : ℕ). All (λ (needed : Needed). needed.table < n) c.in_ok-need.need) (sym (tables_long r.book.now r.tables.now c.requires.renewal.kinds)) c.in_ok-need.ensures.tables

pub grown-requires-clause-len : goal.grown-requires-clause-len
grown-requires-clause-len c =
    let r = c.args.renewal.now in
    let view = c.view_of-view.result.now in
    let of = chain_of r.book.now c.catalog.result.now r.tables.now r.table c.args.v view c.in_ok-need.need c.catalog.ensures.value c.view_of-view.ensures.view c.view_of-view.ensures.fits c.requires.renewal.kinds c.in_ok-need.ensures.needs c.requires.renewal.table c.requires.chains in
    subst (λ (n : ℕ). r.len ≤ n) (sym (chain_long r.book.now r.tables.now r.table c.args.v view c.in_ok-need.need of)) c.requires.renewal.within

pub grown-requires-clause-old : goal.grown-requires-clause-old
grown-requires-clause-old c =
    let r = c.args.renewal.now in
    let view = c.view_of-view.result.now in
    before_is r.book.now r.tables.now r.table c.args.v r.len view c.in_ok-need.need c.args.old.now
    (chain_of r.book.now c.catalog.result.now r.tables.now r.table c.args.v view c.in_ok-need.need c.catalog.ensures.value c.view_of-view.ensures.view c.view_of-view.ensures.fits c.requires.renewal.kinds c.in_ok-need.ensures.needs c.requires.renewal.table c.requires.chains)
    c.requires.old

pub grown-requires-clause-new : goal.grown-requires-clause-new
grown-requires-clause-new c =
    let r = c.args.renewal.now in
    let view = c.view_of-view.result.now in
    behind_is r.book.now r.tables.now r.table c.args.v r.len view c.in_ok-need.need c.args.new.now
    (chain_of r.book.now c.catalog.result.now r.tables.now r.table c.args.v view c.in_ok-need.need c.catalog.ensures.value c.view_of-view.ensures.view c.view_of-view.ensures.fits c.requires.renewal.kinds c.in_ok-need.ensures.needs c.requires.renewal.table c.requires.chains)
    c.requires.new

pub returns : goal.returns
returns c =
    let r = c.args.renewal.now in
    let view = c.view_of-view.result.now in
    let of = chain_of r.book.now c.catalog.result.now r.tables.now r.table c.args.v view c.in_ok-need.need c.catalog.ensures.value c.view_of-view.ensures.view c.view_of-view.ensures.fits c.requires.renewal.kinds c.in_ok-need.ensures.needs c.requires.renewal.table c.requires.chains in
    told_same c.grown.result (λ run. run) (sym (opened_is r.book.now r.tables.now r.table c.args.v view c.in_ok-need.need (each_rows r.tables.now) of)) c.grown.ensures
