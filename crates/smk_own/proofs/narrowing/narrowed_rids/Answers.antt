use Rattle.std.specs.Prelude.{length}
use Rattle.std.proofs.Common.{ap, sym, ◌∙◌, subst}
use Rattle.smk_base.specs.{CatalogImage.catalog_image, Places.has}
use Rattle.smk_model.specs.Session.{rows_of_table, selected_for}
use Rattle.smk_session.specs.{Answers.rids_or_all, Behind.RidsFit, Sessions.state_of}
use Rattle.smk_own.proofs.Parts.{if_ok, filtered_fit, none_chosen}
use Rattle.smk_own.proofs.narrowing.narrowed_rids.Goals as goal

pub returns-in-Some-clause-fit : goal.returns-in-Some-clause-fit
returns-in-Some-clause-fit c =
    let n = length (rows_of_table (state_of c.args.session.now) c.args.found.table) in
    if_ok c.intersection.result c.intersection.ensures (λ made is.
    subst (RidsFit n) (sym is) (filtered_fit (has c.as_slice-in-Some.result.now) n c.as_slice.result.now (subst (RidsFit n) (sym c.as_slice.ensures) c.requires.rids)))

pub returns-in-None-clause-rids : goal.returns-in-None-clause-rids
returns-in-None-clause-rids c =
    let n = length (rows_of_table (state_of c.args.session.now) c.args.found.table) in
    let all = ap (λ chosen. rids_or_all chosen n) (sym c.in-None.is) ∙ c.in_ok-selected.ensures.selected in
    none_chosen c.args.now n (selected_for (catalog_image c.args.session.now.catalog) (state_of c.args.session.now) c.args.found.view c.args.found.table) c.args.found.rids all c.requires.rids
