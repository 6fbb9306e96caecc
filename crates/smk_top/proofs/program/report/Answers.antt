use Rattle.std.proofs.Common.{ℕ, List, ap, sym, subst}
use Rattle.smk_model.specs.{Readings.AreReadingsOf, Selection.each_rows}
use Rattle.smk_model.proofs.SomeOutcome.{some_reading}
use Rattle.smk_inputs.specs.Loaded.{inputs_with}
use Rattle.smk_top.proofs.Endings.{report_written, sayable_pieces}
use Rattle.smk_top.proofs.program.report.Goals as goal

pub returns-clause-works : goal.returns-clause-works
returns-clause-works g c said are =
    let here : AreReadingsOf c.in_ok-started.started.script.items said = subst (λ (l : List ℕ). AreReadingsOf l said) (sym c.in_ok-started.ensures.script) are in
    report_written (inputs_with c.args.inputs said) _ _ _ _ _ _ c.write_report.result c.in_ok-started.ensures.starts c.in_ok-started.ensures.book c.in_ok-started.ensures.fds (ap each_rows c.in_ok-started.ensures.added) (c.write_report.ensures.written said here) (c.write_report.ensures.counts said here)

pub returns-clause-said : goal.returns-clause-said
returns-clause-said g c =
    let said = some_reading c.in_ok-started.started.script.items in
    sayable_pieces _ _ _ _ c.write_report.result (c.write_report.ensures.written said.0 said.1)
