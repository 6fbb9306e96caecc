use Rattle.std.proofs.{Common.{◌∙◌, List, refl, ap, sym, subst, arith, deque_items, Vec, Global, ℕ, Ok, Err}, lemmas.Result.err_from_is_err_and}
use Rattle.std.specs.Option.{option_copied}
use Rattle.smk_base.specs.{CatalogImage.{CatalogImage, catalog_image}, Marks.after_marks, Rels.Relation}
use Rattle.smk_outside.specs.Outside.{Rose}
use Rattle.smk_model.specs.{Lines.lines, Readings.AreReadings, Reports.BookSaid, Selection.each_rows}
use Rattle.smk_model.proofs.SomeOutcome.{some_reading}
use Rattle.smk_inputs.specs.{Added.BringTables, Loaded.with_rest, declared.collecting.Rest.Rest}
use Rattle.smk_inputs.proofs.Stops.{rose_within, tables_stop, script_stops, added_stop, added_of, all_read}
use Rattle.smk_inputs.proofs.collecting.read_rest.Goals as goal

pub returns-in_err-tables-clause-read : goal.returns-in_err-tables-clause-read
returns-in_err-tables-clause-read g c book said same opened =
    let p = err_from_is_err_and c.from_residual.result c.from_residual.ensures.1 in
    let infos = ap (λ (k : CatalogImage). k.tables) same ∙ sym c.as_slice-infos.ensures in
    rw (p.1, p.2) (tables_stop {Y = Rest} (λ (opened : BookSaid). opened) (λ (tables : Vec Relation Global). each_rows tables.items) (with_rest said) (λ (rest : Rest). rest.script.items) said (g.F.Files.held c.args.files.now)
    (Unit {0}) (Rose (g.F.Files.faults c.args.files.now) (g.F.Files.faults c.load_all.new.files)) (Rose (g.F.Files.faults c.args.files.now) (g.F.Files.faults c.load_all.new.files))
    book (option_copied c.args.script) c.in_err-tables.field-0.0
    (λ up. up) opened (rw infos c.in_err-tables.ensures.read))

pub returns-in_err-script-clause-read : goal.returns-in_err-script-clause-read
returns-in_err-script-clause-read g c book said same opened =
    let p = err_from_is_err_and c.from_residual-in_err-script.result c.from_residual-in_err-script.ensures.1 in
    let infos = ap (λ (k : CatalogImage). k.tables) same ∙ sym c.as_slice-infos.ensures in
    let wide : Rose (g.F.Files.faults c.load_all.new.files) (g.F.Files.faults c.open_script.new.files) → Rose (g.F.Files.faults c.args.files.now) (g.F.Files.faults c.open_script.new.files) =
    λ up. rose_within _ _ _ _ c.in_ok-tables.ensures.later c.in_err-script.ensures.later (omega arith) up in
    rw (p.1, p.2) (script_stops {Y = Rest} (λ (opened : BookSaid). opened) (λ (tables : Vec Relation Global). each_rows tables.items) (λ (bytes : Vec ℕ Global). bytes.items) (with_rest said) (λ (rest : Rest). rest.script.items) said c.in_ok-tables.tables (g.F.Files.held c.args.files.now)
    (Unit {0}) (Rose (g.F.Files.faults c.args.files.now) (g.F.Files.faults c.load_all.new.files)) (Rose (g.F.Files.faults c.load_all.new.files) (g.F.Files.faults c.open_script.new.files)) (Rose (g.F.Files.faults c.args.files.now) (g.F.Files.faults c.open_script.new.files))
    book (option_copied c.args.script) c.in_err-script.field-0.0
    wide opened (rw infos c.in_ok-tables.ensures.read)
    (rw c.in_ok-tables.ensures.held at c.in_err-script.ensures.read))

pub returns-in_err-added-clause-read : goal.returns-in_err-added-clause-read
returns-in_err-added-clause-read g c book said same opened =
    let p = err_from_is_err_and c.from_residual-in_err-added.result c.from_residual-in_err-added.ensures.1 in
    let infos = ap (λ (k : CatalogImage). k.tables) same ∙ sym c.as_slice-infos.ensures in
    let readings = some_reading c.in_ok-script.script.items in
    let text = c.without_mark-text.ensures.rest ∙ ap after_marks c.as_slice.ensures.value in
    let here : AreReadings (lines c.without_mark-text.result.now) readings.0 = subst (λ (l : List ℕ). AreReadings (lines l) readings.0) (sym text) readings.1 in
    let wide : Rose (g.F.Files.faults c.open_script.new.files) (g.F.Files.faults c.read_added.new.files) → Rose (g.F.Files.faults c.args.files.now) (g.F.Files.faults c.read_added.new.files) =
    λ up. rose_within _ _ _ _ (omega (arith, c.in_ok-tables.ensures.later, c.in_ok-script.ensures.later)) c.in_err-added.ensures.later (omega arith) up in
    rw (p.1, p.2) (added_stop {Y = Rest} (λ (opened : BookSaid). opened) (λ (tables : Vec Relation Global). each_rows tables.items) (λ (bytes : Vec ℕ Global). bytes.items) (λ (added : _). each_rows (deque_items added)) (with_rest said) (λ (rest : Rest). rest.script.items)
    said c.in_ok-tables.tables c.in_ok-script.script readings.0 (g.F.Files.held c.args.files.now)
    (Unit {0}) (Rose (g.F.Files.faults c.args.files.now) (g.F.Files.faults c.load_all.new.files)) (Rose (g.F.Files.faults c.load_all.new.files) (g.F.Files.faults c.open_script.new.files))
    (Rose (g.F.Files.faults c.open_script.new.files) (g.F.Files.faults c.read_added.new.files)) (Rose (g.F.Files.faults c.args.files.now) (g.F.Files.faults c.read_added.new.files))
    book (option_copied c.args.script) c.in_err-added.field-0.0
    wide opened (rw infos c.in_ok-tables.ensures.read)
    (rw c.in_ok-tables.ensures.held at c.in_ok-script.ensures.read) readings.1
    (added_of (λ (added : _). each_rows (deque_items added)) _ readings.0 (Err c.in_err-added.field-0.0) _ _ (catalog_image c.args.catalog.now) said.catalog (c.in_ok-script.ensures.held ∙ c.in_ok-tables.ensures.held) same (c.in_err-added.ensures.read readings.0 here)))

pub returns-clause-read : goal.returns-clause-read
returns-clause-read g c book said same opened =
    let infos = ap (λ (k : CatalogImage). k.tables) same ∙ sym c.as_slice-infos.ensures in
    let text = c.without_mark-text.ensures.rest ∙ ap after_marks c.as_slice.ensures.value in
    all_read {Y = Rest} (λ (opened : BookSaid). opened) (λ (tables : Vec Relation Global). each_rows tables.items) (λ (bytes : Vec ℕ Global). bytes.items) (λ (added : _). each_rows (deque_items added)) (with_rest said) (λ (rest : Rest). rest.script.items)
    said c.in_ok-tables.tables c.in_ok-script.script c.in_ok-added.added _ (g.F.Files.held c.args.files.now)
    (Unit {0}) (Rose (g.F.Files.faults c.args.files.now) (g.F.Files.faults c.load_all.new.files)) (Rose (g.F.Files.faults c.load_all.new.files) (g.F.Files.faults c.open_script.new.files))
    (Rose (g.F.Files.faults c.open_script.new.files) (g.F.Files.faults c.read_added.new.files)) (Rose (g.F.Files.faults c.args.files.now) (g.F.Files.faults c.read_added.new.files))
    book (option_copied c.args.script)
    (λ readings. refl) refl opened (rw infos c.in_ok-tables.ensures.read)
    (rw c.in_ok-tables.ensures.held at c.in_ok-script.ensures.read)
    (λ readings are.
    added_of (λ (added : _). each_rows (deque_items added)) _ readings (Ok c.in_ok-added.added) _ _ (catalog_image c.args.catalog.now) said.catalog (c.in_ok-script.ensures.held ∙ c.in_ok-tables.ensures.held) same
    (c.in_ok-added.ensures.read readings (subst (λ (l : List ℕ). AreReadings (lines l) readings) (sym text) are)))

pub returns-clause-fits : goal.returns-clause-fits
returns-clause-fits g c =
    subst (λ (l : List ℕ). BringTables (catalog_image c.args.catalog.now) (lines l) c.in_ok-added.added.items) (c.without_mark-text.ensures.rest ∙ ap after_marks c.as_slice.ensures.value) c.in_ok-added.ensures.fits
