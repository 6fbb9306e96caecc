use Rattle.std.specs.Prelude.{◌<◌, length, slice_index_or}
use Rattle.std.proofs.{Common.{ap, sym, ◌∙◌, subst}, lemmas.List.get_or_read}
use Rattle.smk_base.specs.{CatalogImage.catalog_image, TreeImage.ask_image, declared.book.catalog.Catalog.Catalog}
use Rattle.smk_model.specs.{AskTexts.IsAskReplyTo, Replies.rows_at_rids, Typing.{info_at, no_table}}
use Rattle.smk_session.specs.Sessions.{state_of}
use Rattle.smk_own.proofs.Parts.{if_ok, over_is, over_stands}
use Rattle.smk_own.proofs.narrowing.asked_over.Goals as goal

pub returns-clause-told : goal.returns-clause-told
returns-clause-told g c =
    let catalog = catalog_image c.args.session.now.catalog in
    let state = state_of c.args.session.now in
    let tables = c.as_slice-2.ensures ∙ ap (λ (book : Catalog). book.tables) c.catalog.ensures.book in
    let low = subst (λ ts. c.args.found.table < length ts) (sym tables) c.requires.fits.table in
    let info = sym c.index-as_slice-table.is ∙ get_or_read c.as_slice-2.result.now c.args.found.table c.index-as_slice-table.result low c.index-as_slice-table.is no_table ∙ ap (λ ts. info_at ts c.args.found.table) tables in
    let rows = c.in_ok-rows.ensures.rows ∙ ap (rows_at_rids catalog state c.args.found.table) (c.as_slice.ensures ∙ c.in_ok-rids.ensures.rids) in
    if_ok c.stepped.result c.stepped.ensures (λ told says.
    says ∙ over_is catalog state c.args.now (ask_image c.args.line.now) c.args.found (slice_index_or c.as_slice-2.result.now c.args.found.table c.index-as_slice-table.result) c.in_ok-rows.rows c.requires.behind info rows)

pub returns-clause-fits : goal.returns-clause-fits
returns-clause-fits g c =
    let catalog = catalog_image c.args.session.now.catalog in
    let state = state_of c.args.session.now in
    let asked = ask_image c.args.line.now in
    if_ok c.stepped.result (returns-clause-told g c) (λ told says. subst (IsAskReplyTo asked) (sym says) (over_stands catalog state c.args.now asked c.args.found c.catalog.ensures.checked c.requires.behind))
