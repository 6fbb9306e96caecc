use Rattle.std.proofs.{Common.{◌∙◌, ap, map, sym, subst, arith}, lemmas.Grind.common_steps}
use Rattle.smk_base.specs.{CatalogImage.catalog_image, Marks.after_marks, declared.book.catalog.Catalog.Catalog, declared.book.catalog.TableInfo.TableInfo, declared.book.catalog.ViewInfo.ViewInfo}
use Rattle.smk_model.specs.{Lines.lines, Profiles.AreDependencies}
use Rattle.smk_inputs.specs.Added.{BringTables}
use Rattle.smk_top.proofs.starting.start.Goals as goal

pub returns-in-Err-clause-starts : goal.returns-in-Err-clause-starts
returns-in-Err-clause-starts g c =
    c.stop_of.ensures.starts c.args.inputs.book c.args.inputs.tables.items c.in-Err.ensures.fault
    (c.in_ok-names.ensures.views ∙ ap (λ (b : Catalog). map (λ (view : ViewInfo). view.name) b.views) c.catalog.ensures.value)
    (c.in_ok-names.ensures.tables ∙ ap (λ (b : Catalog). map (λ (table : TableInfo). table.name) b.tables) c.catalog.ensures.value)

pub returns-in-Ok-clause-book : goal.returns-in-Ok-clause-book
returns-in-Ok-clause-book g c = grind (arith, common_steps)

pub returns-in-Ok-clause-shown : goal.returns-in-Ok-clause-shown
returns-in-Ok-clause-shown g c = subst (λ (b : Catalog). AreDependencies (catalog_image b) c.args.inputs.fds) (sym c.in-Ok.ensures.book) c.requires.shown

pub returns-in-Ok-clause-fits : goal.returns-in-Ok-clause-fits
returns-in-Ok-clause-fits g c = subst (λ (b : Catalog). BringTables (catalog_image b) (lines (after_marks c.args.inputs.script.items)) c.args.inputs.added.items) (sym c.in-Ok.ensures.book) c.requires.fits
