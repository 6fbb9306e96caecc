use Rattle.std.proofs.Common.{◌≡◌, ◌∙◌, ◌≤◌, ◌+◌, ℕ, true, subst, sym}
use Rattle.smk_base.specs.CatalogImage.{catalog_image}
use Rattle.smk_model.specs.Opening.{view_fault}
use Rattle.smk_session.specs.Opened.{workbook_image}
use Rattle.smk_grow.specs.Renewed.{chains}
use Rattle.smk_grow.proofs.Fresh.{chain_apart_looks, chain_view_fault, no_fault}
use Rattle.smk_grow.proofs.apart.view_apart.Goals as goal

pub returns-in-Ok-clause-looks : goal.returns-in-Ok-clause-looks
returns-in-Ok-clause-looks g c =
    let r = c.args.renewal.now in
    let chained : chains (catalog_image r.book.now) r.table c.args.v ≡ true = sym c.view_chains.ensures ∙ c.if-view_chains.true in
    subst (λ (n : ℕ). c.open_view.new.steps ≤ c.args.steps.now + n) (chain_apart_looks r.book.now r.tables.now r.table c.args.v c.requires.renewal.table chained) c.open_view.ensures.looks

pub returns-in-Err-clause-looks : goal.returns-in-Err-clause-looks
returns-in-Err-clause-looks g c =
    let r = c.args.renewal.now in
    let chained : chains (catalog_image r.book.now) r.table c.args.v ≡ true = sym c.view_chains.ensures ∙ c.if-view_chains.true in
    subst (λ (n : ℕ). c.open_view.new.steps ≤ c.args.steps.now + n) (chain_apart_looks r.book.now r.tables.now r.table c.args.v c.requires.renewal.table chained) c.open_view.ensures.looks

pub wanting-requires : goal.wanting-requires
wanting-requires g c =
    let r = c.args.renewal.now in
    let chained : chains (catalog_image r.book.now) r.table c.args.v ≡ true = sym c.view_chains.ensures ∙ c.if-view_chains.true in
    no_fault c.in-Err.fault (view_fault (workbook_image r.book.now r.tables.now) c.args.v) (chain_view_fault r.book.now r.tables.now r.table c.args.v c.requires.renewal.table c.requires.renewal.few chained) c.in-Err.ensures.fault
