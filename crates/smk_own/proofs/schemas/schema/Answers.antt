use Rattle.std.specs.Prelude.{length}
use Rattle.std.proofs.{Common.{sym, ◌∙◌, ap}, lemmas.List.length-map}
use Rattle.smk_base.specs.{CatalogImage.{catalog_image, view_image}, declared.book.catalog.Catalog.Catalog}
use Rattle.smk_model.specs.Session.{first_content, rows_of_table}
use Rattle.smk_report.specs.Schemas.{schema_over}
use Rattle.smk_session.specs.Sessions.{state_of}
use Rattle.smk_own.proofs.{Parts.if_ok, Tallies.{counted_long, counted_schema}}
use Rattle.smk_own.proofs.schemas.schema.Goals as goal

pub schema_text-requires-clause-tables : goal.schema_text-requires-clause-tables
schema_text-requires-clause-tables c =
    let rows = c.as_slice.ensures.value ∙ c.in_ok-tables.ensures in
    counted_long (λ t. length (rows_of_table (state_of c.args.session.now) t)) (length c.args.session.now.catalog.tables) c.as_slice.result.now rows ∙ ap (λ (book : Catalog). length book.tables) (sym c.catalog.ensures.book)

pub schema_text-requires-clause-views : goal.schema_text-requires-clause-views
schema_text-requires-clause-views c =
    let rows = c.as_slice-2.ensures.value ∙ c.in_ok-views.ensures in
    counted_long (λ v. length (first_content (catalog_image c.args.session.now.catalog) (state_of c.args.session.now) v)) (length c.args.session.now.catalog.views) c.as_slice-2.result.now rows ∙ ap (λ (book : Catalog). length book.views) (sym c.catalog.ensures.book)

pub returns : goal.returns
returns c =
    let tables = c.as_slice.ensures.value ∙ c.in_ok-tables.ensures in
    let views = c.as_slice-2.ensures.value ∙ c.in_ok-views.ensures in
    let book = c.args.session.now.catalog in
    if_ok c.schema_text.result c.schema_text.ensures (λ text says. says
    ∙ ap (λ (read : Catalog). schema_over (catalog_image read) c.args.fds.now c.as_slice.result.now c.as_slice-2.result.now) c.catalog.ensures.book
    ∙ counted_schema (catalog_image book) c.args.fds.now (state_of c.args.session.now) (length book.views) c.as_slice.result.now c.as_slice-2.result.now (length-map book.views view_image) tables views)
