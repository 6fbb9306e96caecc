use Rattle.std.proofs.{Common.{refl, arith, ap, sym, subst}, lemmas.Result.err_from_is_err_and}
use Rattle.std.specs.Option.{option_copied}
use Rattle.smk_base.specs.{CatalogImage.catalog_image, Marks.after_marks, declared.book.catalog.Catalog.Catalog}
use Rattle.smk_model.specs.Lines.{lines}
use Rattle.smk_inputs.specs.{Added.BringTables, Loaded.{book_said, script_bytes, inputs_with, with_rest}, declared.collecting.Rest.Rest}
use Rattle.smk_outside.specs.Outside.{Rose}
use Rattle.smk_inputs.proofs.Stops.{rose_within, book_stops, opened_as, rest_stops, then_all}
use Rattle.smk_inputs.proofs.collecting.read_all.Goals as goal

pub returns-in_err-book-clause-read : goal.returns-in_err-book-clause-read
returns-in_err-book-clause-read g c =
    let p = err_from_is_err_and c.from_residual.result c.from_residual.ensures.1 in
    rw (p.1, p.2) (book_stops book_said inputs_with script_bytes (g.F.Files.held c.args.files.now) (Rose (g.F.Files.faults c.args.files.now) (g.F.Files.faults c.open_book.new.files))
    c.args.book.now (option_copied c.args.script) c.in_err-book.field-0.0 c.in_err-book.ensures.read)

pub returns-in_err-rest-clause-read : goal.returns-in_err-rest-clause-read
returns-in_err-rest-clause-read g c =
    let p = err_from_is_err_and c.from_residual-in_err-rest.result c.from_residual-in_err-rest.ensures.1 in
    let wide : Rose (g.F.Files.faults c.open_book.new.files) (g.F.Files.faults c.read_rest.new.files) → Rose (g.F.Files.faults c.args.files.now) (g.F.Files.faults c.read_rest.new.files) =
    λ up. rose_within _ _ _ _ c.in_ok-book.ensures.later c.in_err-rest.ensures.later (omega arith) up in
    let opened = opened_as book_said (g.F.Files.held c.args.files.now) (Rose (g.F.Files.faults c.args.files.now) (g.F.Files.faults c.open_book.new.files)) (Unit {0}) c.args.book.now c.in_ok-book.field-0 c.in_ok-book.ensures.read in
    rw (p.1, p.2) (rest_stops (with_rest (book_said c.in_ok-book.field-0)) (λ (rest : Rest). rest.script.items) inputs_with script_bytes (g.F.Files.held c.args.files.now)
    (Rose (g.F.Files.faults c.open_book.new.files) (g.F.Files.faults c.read_rest.new.files)) (Rose (g.F.Files.faults c.args.files.now) (g.F.Files.faults c.read_rest.new.files)) c.args.book.now (option_copied c.args.script) c.in_err-rest.field-0.0 wide
    (rw c.in_ok-book.ensures.held at (c.in_err-rest.ensures.read c.args.book.now (book_said c.in_ok-book.field-0) (sym (ap catalog_image c.catalog.ensures.value)) (rw c.in_ok-book.ensures.held opened))))

pub returns-clause-read : goal.returns-clause-read
returns-clause-read g c =
    let opened = opened_as book_said (g.F.Files.held c.args.files.now) (Rose (g.F.Files.faults c.args.files.now) (g.F.Files.faults c.open_book.new.files)) (Unit {0}) c.args.book.now c.in_ok-book.field-0 c.in_ok-book.ensures.read in
    then_all (with_rest (book_said c.in_ok-book.field-0)) (λ (rest : Rest). rest.script.items) inputs_with script_bytes (g.F.Files.held c.args.files.now)
    (Rose (g.F.Files.faults c.open_book.new.files) (g.F.Files.faults c.read_rest.new.files)) (Rose (g.F.Files.faults c.args.files.now) (g.F.Files.faults c.read_rest.new.files)) c.args.book.now (option_copied c.args.script) _ _ (λ readings. refl) refl
    (rw c.in_ok-book.ensures.held at (c.in_ok-rest.ensures.read c.args.book.now (book_said c.in_ok-book.field-0) (sym (ap catalog_image c.catalog.ensures.value)) (rw c.in_ok-book.ensures.held opened)))

pub returns-clause-fits : goal.returns-clause-fits
returns-clause-fits g c =
    subst (λ (b : Catalog). BringTables (catalog_image b) (lines (after_marks c.in_ok-rest.rest.script.items)) c.in_ok-rest.rest.added.items) c.catalog.ensures.value c.in_ok-rest.ensures.fits
