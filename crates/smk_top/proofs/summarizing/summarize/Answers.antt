use Rattle.std.proofs.Common.{ℕ, List, ap, sym, subst}
use Rattle.smk_model.specs.{Readings.AreReadingsOf, Selection.each_rows}
use Rattle.smk_inputs.specs.Loaded.{inputs_with}
use Rattle.smk_top.proofs.summarizing.summarize.Goals as goal

pub returns-clause-works : goal.returns-clause-works
returns-clause-works g c said are =
    let here : AreReadingsOf c.in_ok-started.started.script.items said = subst (λ (l : List ℕ). AreReadingsOf l said) (sym c.in_ok-started.ensures.script) are in
    c.write_summary.ensures.works (inputs_with c.args.inputs said) here c.in_ok-started.ensures.starts c.in_ok-started.ensures.book c.in_ok-started.ensures.fds (ap each_rows c.in_ok-started.ensures.added)
