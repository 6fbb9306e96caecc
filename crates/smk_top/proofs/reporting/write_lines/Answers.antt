use Rattle.std.proofs.{Common.{◌∙◌, ℕ, List, drop, ap, refl, arith, subst, sym}, lemmas.Result.err_from_is_err_and}
use Rattle.smk_base.specs.{CatalogImage.catalog_image, Marks.after_marks, declared.book.catalog.Catalog.Catalog}
use Rattle.smk_model.specs.{Profiles.AreDependencies, Lines.lines, Selection.each_rows}
use Rattle.smk_outside.specs.Outside.{Rose}
use Rattle.smk_session.specs.Sessions.{SessionImage}
use Rattle.smk_inputs.specs.{Added.BringTables, Loaded.said_of}
use Rattle.smk_top.specs.declared.counts.Counts.{Counts}
use Rattle.smk_inputs.proofs.{Stops.rose_within, LinesBring.{rows_behind, line_begins, lines_go_on}}
use Rattle.smk_top.proofs.{Appending.wants_stop, Walks.{readings_of_text, walk_begins, walk_on, walk_wants, walk_stops, walk_ends}}
use Rattle.smk_top.proofs.reporting.write_lines.Goals as goal

pub loop-span-init : goal.loop-span-init
loop-span-init g c = record {
  walked = walk_begins _ _ _ _ _ _ _ _ refl refl;
  book = refl;
  fits = subst (λ (l : List ℕ). BringTables (catalog_image c.args.started.session.catalog) (lines l) c.args.started.added.items) (sym (c.without_mark-text.ensures.rest ∙ ap after_marks c.as_slice.ensures.value)) c.requires.fits;
  inside = omega arith;
  few = omega arith;
  later = omega arith;
}

pub loop-span-preserved : goal.loop-span-preserved
loop-span-preserved g c =
    let inv = c.loop-span.invariant in
    let line = c.in_ok-next.ensures in
    let left = ap each_rows line.left ∙ rows_behind _ _ in
    let on = walk_on _ _ _ _ _ _ _ _ _ _ _ _ _ _ _ _ _ _ _ _ inv.walked.0 (ap (λ (book : Catalog). said_of book c.args.started.fds) inv.book) c.in-Some.ensures.some.cut c.in_ok-reading.ensures.says line.written line.after left line.looks in
    record {
      walked = (on.0, on.1 _ _ _ inv.walked.1 line.counts c.in_ok-counts.ensures.is);
      book = line.book ∙ inv.book;
      fits =
          subst (λ (book : Catalog). BringTables (catalog_image book) (lines (drop c.in-Some.span.next c.without_mark-text.result.now)) c.write_line.new.added.items) (sym line.book)
          (lines_go_on _ _ _ _ _ _ (subst (λ (texts : List (List ℕ)). BringTables (catalog_image c.loop-span.session.catalog) texts c.loop-span.added.items) c.in-Some.ensures.some.cut inv.fits) c.in_ok-reading.ensures.says line.left);
      inside = c.in-Some.ensures.some.within;
      few = omega (arith, inv.few, c.in-Some.ensures.some.forward, c.in-Some.ensures.some.starts);
      later = omega (arith, inv.later, line.later);
    }

pub returns-in_err-reading-clause-written : goal.returns-in_err-reading-clause-written
returns-in_err-reading-clause-written g c said all =
    let p = err_from_is_err_and c.from_residual.result c.from_residual.ensures.1 in
    rw (p.1, p.2) (walk_wants _ _ _ _ _ _ _ _ _ _ _ _ c.loop-span.invariant.walked.0 said (readings_of_text _ _ _ said c.without_mark-text.ensures.rest c.as_slice.ensures.value all)).0

pub returns-in_err-reading-clause-looks : goal.returns-in_err-reading-clause-looks
returns-in_err-reading-clause-looks g c said all = (walk_wants _ _ _ _ _ _ _ _ _ _ _ _ c.loop-span.invariant.walked.0 said (readings_of_text _ _ _ said c.without_mark-text.ensures.rest c.as_slice.ensures.value all)).1

pub returns-in_err-next-clause-written : goal.returns-in_err-next-clause-written
returns-in_err-next-clause-written g c said all =
    let p = err_from_is_err_and c.from_residual-in_err-next.result c.from_residual-in_err-next.ensures.1 in
    let inv = c.loop-span.invariant in
    let wide : Rose (g.O.Sink.faults c.loop-span.out) (g.O.Sink.faults c.write_line.new.out) → Rose (g.O.Sink.faults c.args.out.now) (g.O.Sink.faults c.write_line.new.out) =
    λ up. rose_within _ _ _ _ inv.later c.in_err-next.ensures.later (omega arith) up in
    rw (p.1, p.2) (walk_stops (SessionImage × Counts) Counts _ _ _ _ _ _ _ _ _ _ _ _ _ _ _ _ _ _ _ _ _ inv.walked.0 (ap (λ (book : Catalog). said_of book c.args.started.fds) inv.book) c.in-Some.ensures.some.cut c.in_ok-reading.ensures.says wide c.in_err-next.ensures.written c.in_err-next.ensures.looks said (readings_of_text _ _ _ said c.without_mark-text.ensures.rest c.as_slice.ensures.value all)).0

pub returns-in_err-next-clause-looks : goal.returns-in_err-next-clause-looks
returns-in_err-next-clause-looks g c said all =
    let inv = c.loop-span.invariant in
    let wide : Rose (g.O.Sink.faults c.loop-span.out) (g.O.Sink.faults c.write_line.new.out) → Rose (g.O.Sink.faults c.args.out.now) (g.O.Sink.faults c.write_line.new.out) =
    λ up. rose_within _ _ _ _ inv.later c.in_err-next.ensures.later (omega arith) up in
    (walk_stops (SessionImage × Counts) Counts _ _ _ _ _ _ _ _ _ _ _ _ _ _ _ _ _ _ _ _ _ inv.walked.0 (ap (λ (book : Catalog). said_of book c.args.started.fds) inv.book) c.in-Some.ensures.some.cut c.in_ok-reading.ensures.says wide c.in_err-next.ensures.written c.in_err-next.ensures.looks said (readings_of_text _ _ _ said c.without_mark-text.ensures.rest c.as_slice.ensures.value all)).1

pub returns-in_err-counts-clause-written : goal.returns-in_err-counts-clause-written
returns-in_err-counts-clause-written g c said all =
    let p = err_from_is_err_and c.from_residual-in_err-counts.result c.from_residual-in_err-counts.ensures.1 in
    let inv = c.loop-span.invariant in
    let line = c.in_ok-next.ensures in
    let left = ap each_rows line.left ∙ rows_behind _ _ in
    let on = walk_on _ _ _ _ _ _ _ _ _ _ _ _ _ _ _ _ _ _ _ _ inv.walked.0 (ap (λ (book : Catalog). said_of book c.args.started.fds) inv.book) c.in-Some.ensures.some.cut c.in_ok-reading.ensures.says line.written line.after left line.looks in
    rw (p.1, p.2) (wants_stop Counts _ _ _ _ _ c.in_err-counts.ensures.wants (walk_wants _ _ _ _ _ _ _ _ _ _ _ _ on.0 said (readings_of_text _ _ _ said c.without_mark-text.ensures.rest c.as_slice.ensures.value all)).0)

pub returns-in_err-counts-clause-looks : goal.returns-in_err-counts-clause-looks
returns-in_err-counts-clause-looks g c said all =
    let inv = c.loop-span.invariant in
    let line = c.in_ok-next.ensures in
    let left = ap each_rows line.left ∙ rows_behind _ _ in
    let on = walk_on _ _ _ _ _ _ _ _ _ _ _ _ _ _ _ _ _ _ _ _ inv.walked.0 (ap (λ (book : Catalog). said_of book c.args.started.fds) inv.book) c.in-Some.ensures.some.cut c.in_ok-reading.ensures.says line.written line.after left line.looks in
    (walk_wants _ _ _ _ _ _ _ _ _ _ _ _ on.0 said (readings_of_text _ _ _ said c.without_mark-text.ensures.rest c.as_slice.ensures.value all)).1

pub returns-clause-written : goal.returns-clause-written
returns-clause-written g c said all = (walk_ends _ _ _ _ _ _ _ _ _ _ _ _ _ c.loop-span.invariant.walked c.in_default.ensures.none said (readings_of_text _ _ _ said c.without_mark-text.ensures.rest c.as_slice.ensures.value all)).0

pub returns-clause-counts : goal.returns-clause-counts
returns-clause-counts g c said all = (walk_ends _ _ _ _ _ _ _ _ _ _ _ _ _ c.loop-span.invariant.walked c.in_default.ensures.none said (readings_of_text _ _ _ said c.without_mark-text.ensures.rest c.as_slice.ensures.value all)).1

pub returns-clause-looks : goal.returns-clause-looks
returns-clause-looks g c said all = (walk_ends _ _ _ _ _ _ _ _ _ _ _ _ _ c.loop-span.invariant.walked c.in_default.ensures.none said (readings_of_text _ _ _ said c.without_mark-text.ensures.rest c.as_slice.ensures.value all)).2

pub write_line-requires-clause-shown : goal.write_line-requires-clause-shown
write_line-requires-clause-shown g c κs lives = subst (λ (b : Catalog). AreDependencies (catalog_image b) c.args.started.fds) (sym c.loop-span.invariant.book) c.requires.shown

pub write_line-requires-clause-fits : goal.write_line-requires-clause-fits
write_line-requires-clause-fits g c κs lives =
    line_begins _ _ _ _ _ (subst (λ (texts : List (List ℕ)). BringTables (catalog_image c.loop-span.session.catalog) texts c.loop-span.added.items) c.in-Some.ensures.some.cut c.loop-span.invariant.fits) c.in_ok-reading.ensures.says
