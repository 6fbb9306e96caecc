use Rattle.std.proofs.{Common.{◌≡◌, ◌∙◌, ℕ, List, Option, Some, ap, sym, inr}, lemmas.Result.err_from_is_err_and}
use Rattle.std.specs.Option.{option_copied}
use Rattle.smk_outside.specs.Outside.{Rose}
use Rattle.smk_model.specs.{Demo.summary_of, Reports.Report, Words.{Files, Demo, words_of}}
use Rattle.smk_model.proofs.SomeOutcome.{some_reading}
use Rattle.smk_inputs.specs.{declared.called.RunTexts.RunTexts, Image.texts_image, Loaded.{script_bytes, inputs_with}}
use Rattle.smk_top.specs.declared.counts.Counts.{Counts}
use Rattle.smk_top.proofs.Endings.{files_stop, files_read, demo_stops, demo_read, files_write, demo_writes, reports, reports_later, looks_at_nothing}
use Rattle.smk_top.proofs.program.work_on.Goals as goal

pub returns-in_err-inputs-in-Files-clause-works : goal.returns-in_err-inputs-in-Files-clause-works
returns-in_err-inputs-in-Files-clause-works g c words is =
    let p = err_from_is_err_and c.from_residual.result c.from_residual.ensures.1 in
    let asked : words_of words ≡ Some (Files c.in-Files.book (option_copied c.as_ref.result)) =
    is ∙ ap (λ (t : RunTexts). Some (texts_image t)) c.in-Files.is
    ∙ ap (λ (s : Option (List ℕ)). Some (Files c.in-Files.book s)) (sym c.as_ref.ensures.value) in
    rw (p.1, p.2) (files_stop words c.in-Files.book (option_copied c.as_ref.result) (g.F.Files.held c.args.files.now) (Rose (g.F.Files.faults c.args.files.now) (g.F.Files.faults c.read_all.new.files)) (Rose (g.O.Sink.faults c.args.out.now) (g.O.Sink.faults c.args.out.now))
    inputs_with script_bytes (g.O.Sink.written c.args.out.now) c.in_err-inputs-in-Files.field-0.0 asked c.in_err-inputs-in-Files.ensures.read)

pub returns-in_ok-inputs-in-Files-clause-works : goal.returns-in_ok-inputs-in-Files-clause-works
returns-in_ok-inputs-in-Files-clause-works g c words is =
    let asked : words_of words ≡ Some (Files c.in-Files.book (option_copied c.as_ref.result)) =
    is ∙ ap (λ (t : RunTexts). Some (texts_image t)) c.in-Files.is
    ∙ ap (λ (s : Option (List ℕ)). Some (Files c.in-Files.book s)) (sym c.as_ref.ensures.value) in
    let said = some_reading (script_bytes c.in_ok-inputs-in-Files.inputs) in
    reports (λ (report : Report). report.text) words (g.F.Files.held c.args.files.now) (Rose (g.F.Files.faults c.args.files.now) (g.F.Files.faults c.read_all.new.files)) _ (inputs_with c.in_ok-inputs-in-Files.inputs said.0) _ _ c.report.result
    (files_write words c.in-Files.book (option_copied c.as_ref.result) asked)
    (files_read words c.in-Files.book (option_copied c.as_ref.result) (g.F.Files.held c.args.files.now) (Rose (g.F.Files.faults c.args.files.now) (g.F.Files.faults c.read_all.new.files)) inputs_with script_bytes c.in_ok-inputs-in-Files.inputs said.0 asked c.in_ok-inputs-in-Files.ensures.read said.1)
    (c.report.ensures.works said.0 said.1)

pub returns-in_ok-inputs-in-Files-clause-looks : goal.returns-in_ok-inputs-in-Files-clause-looks
returns-in_ok-inputs-in-Files-clause-looks g c words is =
    let asked : words_of words ≡ Some (Files c.in-Files.book (option_copied c.as_ref.result)) =
    is ∙ ap (λ (t : RunTexts). Some (texts_image t)) c.in-Files.is
    ∙ ap (λ (s : Option (List ℕ)). Some (Files c.in-Files.book s)) (sym c.as_ref.ensures.value) in
    let said = some_reading (script_bytes c.in_ok-inputs-in-Files.inputs) in
    inr (
      inputs_with c.in_ok-inputs-in-Files.inputs said.0,
      files_read words c.in-Files.book (option_copied c.as_ref.result) (g.F.Files.held c.args.files.now) (Rose (g.F.Files.faults c.args.files.now) (g.F.Files.faults c.read_all.new.files)) inputs_with script_bytes c.in_ok-inputs-in-Files.inputs said.0 asked c.in_ok-inputs-in-Files.ensures.read said.1,
      c.report.ensures.looks said.0 said.1,
    )

pub returns-in_err-inputs-in-Demo-clause-works : goal.returns-in_err-inputs-in-Demo-clause-works
returns-in_err-inputs-in-Demo-clause-works g c words is =
    let p = err_from_is_err_and c.from_residual-in_err-inputs-in-Demo.result c.from_residual-in_err-inputs-in-Demo.ensures.1 in
    let asked : words_of words ≡ Some (Demo c.in-Demo.flights.count) =
    is ∙ ap (λ (t : RunTexts). Some (texts_image t)) c.in-Demo.is in
    rw (p.1, p.2) (demo_stops words c.in-Demo.flights.count (g.F.Files.held c.args.files.now) (Rose (g.F.Files.faults c.args.files.now) (g.F.Files.faults c.args.files.now)) (Rose (g.O.Sink.faults c.args.out.now) (g.O.Sink.faults c.args.out.now))
    inputs_with script_bytes (g.O.Sink.written c.args.out.now) c.in_err-inputs-in-Demo.field-0.0 asked c.in_err-inputs-in-Demo.ensures.read)

pub returns-in_ok-inputs-in-Demo-clause-works : goal.returns-in_ok-inputs-in-Demo-clause-works
returns-in_ok-inputs-in-Demo-clause-works g c words is =
    let asked : words_of words ≡ Some (Demo c.in-Demo.flights.count) =
    is ∙ ap (λ (t : RunTexts). Some (texts_image t)) c.in-Demo.is in
    let said = some_reading (script_bytes c.in_ok-inputs-in-Demo.inputs) in
    reports (summary_of c.in-Demo.flights.count) words (g.F.Files.held c.args.files.now) (Rose (g.F.Files.faults c.args.files.now) (g.F.Files.faults c.args.files.now)) _ (inputs_with c.in_ok-inputs-in-Demo.inputs said.0) _ _ c.summarize.result
    (demo_writes words c.in-Demo.flights.count asked)
    (demo_read words c.in-Demo.flights.count (g.F.Files.held c.args.files.now) inputs_with script_bytes c.in_ok-inputs-in-Demo.inputs said.0 asked c.in_ok-inputs-in-Demo.ensures.read said.1)
    (c.summarize.ensures.works said.0 said.1)

pub returns-in_ok-inputs-in-Demo-clause-looks : goal.returns-in_ok-inputs-in-Demo-clause-looks
returns-in_ok-inputs-in-Demo-clause-looks g c words is =
    let asked : words_of words ≡ Some (Demo c.in-Demo.flights.count) =
    is ∙ ap (λ (t : RunTexts). Some (texts_image t)) c.in-Demo.is in
    let said = some_reading (script_bytes c.in_ok-inputs-in-Demo.inputs) in
    inr (
      inputs_with c.in_ok-inputs-in-Demo.inputs said.0,
      demo_read words c.in-Demo.flights.count (g.F.Files.held c.args.files.now) inputs_with script_bytes c.in_ok-inputs-in-Demo.inputs said.0 asked c.in_ok-inputs-in-Demo.ensures.read said.1,
      c.summarize.ensures.looks said.0 said.1,
    )

pub returns-in_err-inputs-in-Files-clause-no_look : goal.returns-in_err-inputs-in-Files-clause-no_look
returns-in_err-inputs-in-Files-clause-no_look g c =
    let p = err_from_is_err_and c.from_residual.result c.from_residual.ensures.1 in
    rw (p.1, p.2) (looks_at_nothing Counts c.in_err-inputs-in-Files.field-0.0 _)

pub returns-in_ok-inputs-in-Files-clause-no_look : goal.returns-in_ok-inputs-in-Files-clause-no_look
returns-in_ok-inputs-in-Files-clause-no_look g c =
    let said = some_reading (script_bytes c.in_ok-inputs-in-Files.inputs) in
    reports_later (λ (report : Report). report.text) (inputs_with c.in_ok-inputs-in-Files.inputs said.0) _ _ _ _ _ c.report.result (c.report.ensures.works said.0 said.1)

pub returns-in_err-inputs-in-Demo-clause-no_look : goal.returns-in_err-inputs-in-Demo-clause-no_look
returns-in_err-inputs-in-Demo-clause-no_look g c =
    let p = err_from_is_err_and c.from_residual-in_err-inputs-in-Demo.result c.from_residual-in_err-inputs-in-Demo.ensures.1 in
    rw (p.1, p.2) (looks_at_nothing Counts c.in_err-inputs-in-Demo.field-0.0 _)

pub returns-in_ok-inputs-in-Demo-clause-no_look : goal.returns-in_ok-inputs-in-Demo-clause-no_look
returns-in_ok-inputs-in-Demo-clause-no_look g c =
    let said = some_reading (script_bytes c.in_ok-inputs-in-Demo.inputs) in
    reports_later (summary_of c.in-Demo.flights.count) (inputs_with c.in_ok-inputs-in-Demo.inputs said.0) _ _ _ _ _ c.summarize.result (c.summarize.ensures.works said.0 said.1)
