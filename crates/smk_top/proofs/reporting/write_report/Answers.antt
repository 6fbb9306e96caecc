use Rattle.std.proofs.{Common.{Err, refl, arith}, lemmas.Result.err_from_is_err_and}
use Rattle.smk_outside.specs.Outside.{Rose}
use Rattle.smk_model.specs.{Reports.script_told, Selection.each_rows, ViewTexts.views_text}
use Rattle.smk_session.specs.Sessions.{workbook_of}
use Rattle.smk_top.specs.declared.counts.Counts.{Counts}
use Rattle.smk_inputs.proofs.Stops.{rose_within}
use Rattle.smk_top.proofs.Appending.{first_stops, then_lines, whole_part, report_counts}
use Rattle.smk_top.proofs.reporting.write_report.Goals as goal

pub returns-in_err-views-clause-written : goal.returns-in_err-views-clause-written
returns-in_err-views-clause-written g c said all =
    let p = err_from_is_err_and c.from_residual.result c.from_residual.ensures.1 in
    let book = workbook_of c.args.started.session in
    rw (p.1, p.2) (first_stops Counts Counts _ _ _ (views_text book) (script_told book c.args.started.fds (each_rows c.args.started.added.items) said).text _ _ refl c.in_err-views.ensures.written)

pub returns-in_err-lines-clause-written : goal.returns-in_err-lines-clause-written
returns-in_err-lines-clause-written g c said all =
    let p = err_from_is_err_and c.from_residual-in_err-lines.result c.from_residual-in_err-lines.ensures.1 in
    let wide : Rose (g.O.Sink.faults c.write_views.new.out) (g.O.Sink.faults c.write_lines.new.out) → Rose (g.O.Sink.faults c.args.out.now) (g.O.Sink.faults c.write_lines.new.out) =
    λ up. rose_within _ _ _ _ c.in_ok-views.ensures.later c.in_err-lines.ensures.later (omega arith) up in
    rw (p.1, p.2) (then_lines Counts c.args.started.session c.args.started.fds (each_rows c.args.started.added.items) said (g.O.Sink.written c.args.out.now) (g.O.Sink.written c.write_views.new.out) (g.O.Sink.written c.write_lines.new.out) (Rose (g.O.Sink.faults c.write_views.new.out) (g.O.Sink.faults c.write_lines.new.out)) (Rose (g.O.Sink.faults c.args.out.now) (g.O.Sink.faults c.write_lines.new.out)) (Err c.in_err-lines.field-0.0) c.requires.begun wide c.in_ok-views.ensures.written (c.in_err-lines.ensures.written said all))

pub returns-clause-written : goal.returns-clause-written
returns-clause-written g c said all =
    let book = workbook_of c.args.started.session in
    let told = rw c.requires.begun at (c.in_ok-lines.ensures.written said all) in
    whole_part Counts _ _ _ _ (views_text book) (script_told book c.args.started.fds (each_rows c.args.started.added.items) said).text c.together.result c.together.ensures.wants c.in_ok-views.ensures.written told

pub returns-clause-counts : goal.returns-clause-counts
returns-clause-counts g c said all =
    let book = workbook_of c.args.started.session in
    let told = rw c.requires.begun at (c.in_ok-lines.ensures.counts said all) in
    report_counts book (script_told book c.args.started.fds (each_rows c.args.started.added.items) said) _ _ c.together.result c.in_ok-views.ensures.counts told c.together.ensures.is

pub returns-clause-looks : goal.returns-clause-looks
returns-clause-looks g c said all =
    rw c.requires.begun at (c.in_ok-lines.ensures.looks said all)

pub returns-in_err-lines-clause-looks : goal.returns-in_err-lines-clause-looks
returns-in_err-lines-clause-looks g c said all =
    rw c.requires.begun at (c.in_err-lines.ensures.looks said all)
