use Rattle.std.proofs.{Common.{◌∙◌, Option, None, Err, Ok, Some, [], ◌∷◌, ap, sym, subst, refl}, lemmas.Result.err_from_is_err_and}
use Rattle.std.specs.{Prelude.is_some, Option.option_to_list}
use Rattle.smk_base.specs.{CatalogImage.catalog_image, declared.book.catalog.TableInfo.TableInfo}
use Rattle.smk_model.specs.{Catalogs.each_table_kinds, Outcome.filed}
use Rattle.smk_outside.specs.Outside.{Rose}
use Rattle.smk_inputs.specs.Collecting.{Loads}
use Rattle.smk_inputs.proofs.{AddedReads.{rows_brought, one_loaded, one_stops, none_loaded}, NamedTables.{appended_found, appended_nowhere}}
use Rattle.smk_inputs.proofs.adding.bring_rows.Goals as goal

pub returns-in_err-rows-in-Some-clause-read : goal.returns-in_err-rows-in-Some-clause-read
returns-in_err-rows-in-Some-clause-read g c =
    let p = err_from_is_err_and c.from_residual.result c.from_residual.ensures.1 in
    let asked = appended_found (catalog_image c.args.catalog.now) c.as_slice.result.now c.args.table.now c.args.file.now c.in-Some.t c.index-as_slice-t.result c.in-Some.ensures.place c.as_slice.ensures c.index-as_slice-t.is in
    rw (p.1, p.2)
    (subst (λ (o : Option TableInfo). Loads (g.F.Files.held c.args.files.now) (Rose (g.F.Files.faults c.args.files.now) (g.F.Files.faults c.load.new.files)) (option_to_list o) rows_brought (Err c.in_err-rows-in-Some.field-0.0)) (sym asked)
    (one_stops _ _ (filed c.args.file.now c.index-as_slice-t.result) c.in_err-rows-in-Some.field-0.0 c.in_err-rows-in-Some.ensures.read))

pub returns-in_ok-rows-in-Some-clause-read : goal.returns-in_ok-rows-in-Some-clause-read
returns-in_ok-rows-in-Some-clause-read g c =
    let asked = appended_found (catalog_image c.args.catalog.now) c.as_slice.result.now c.args.table.now c.args.file.now c.in-Some.t c.index-as_slice-t.result c.in-Some.ensures.place c.as_slice.ensures c.index-as_slice-t.is in
    subst (λ (o : Option TableInfo). Loads (g.F.Files.held c.args.files.now) (Rose (g.F.Files.faults c.args.files.now) (g.F.Files.faults c.load.new.files)) (option_to_list o) rows_brought (Ok (Some c.in_ok-rows-in-Some.rows))) (sym asked)
    (one_loaded _ _ (filed c.args.file.now c.index-as_slice-t.result) c.in_ok-rows-in-Some.rows c.in_ok-rows-in-Some.ensures.read)

pub returns-in_ok-rows-in-Some-clause-kinds : goal.returns-in_ok-rows-in-Some-clause-kinds
returns-in_ok-rows-in-Some-clause-kinds g c =
    let asked = appended_found (catalog_image c.args.catalog.now) c.as_slice.result.now c.args.table.now c.args.file.now c.in-Some.t c.index-as_slice-t.result c.in-Some.ensures.place c.as_slice.ensures c.index-as_slice-t.is in
    ap (λ k. k ∷ []) c.in_ok-rows-in-Some.ensures.kinds ∙ ap (λ (o : Option TableInfo). each_table_kinds (option_to_list o)) (sym asked)

pub returns-in-None-clause-read : goal.returns-in-None-clause-read
returns-in-None-clause-read g c =
    let asked = appended_nowhere (catalog_image c.args.catalog.now) c.args.table.now c.args.file.now (sym c.in-None.ensures.place) in
    subst (λ (o : Option TableInfo). Loads (g.F.Files.held c.args.files.now) (Rose (g.F.Files.faults c.args.files.now) (g.F.Files.faults c.args.files.now)) (option_to_list o) rows_brought (Ok None)) (sym asked)
    (none_loaded rows_brought _ _ None refl)

pub returns-in-None-clause-kinds : goal.returns-in-None-clause-kinds
returns-in-None-clause-kinds g c =
    let asked = appended_nowhere (catalog_image c.args.catalog.now) c.args.table.now c.args.file.now (sym c.in-None.ensures.place) in
    ap (λ (o : Option TableInfo). each_table_kinds (option_to_list o)) (sym asked)

pub returns-in_err-rows-in-Some-clause-asked : goal.returns-in_err-rows-in-Some-clause-asked
returns-in_err-rows-in-Some-clause-asked g c =
    let p = err_from_is_err_and c.from_residual.result c.from_residual.ensures.1 in
    let asked = appended_found (catalog_image c.args.catalog.now) c.as_slice.result.now c.args.table.now c.args.file.now c.in-Some.t c.index-as_slice-t.result c.in-Some.ensures.place c.as_slice.ensures c.index-as_slice-t.is in
    rw p.1 (ap is_some asked)
