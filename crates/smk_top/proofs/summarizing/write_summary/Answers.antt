use Rattle.std.proofs.{Common.{None, Err, inl}, lemmas.Result.err_from_is_err_and}
use Rattle.smk_outside.specs.Outside.{Rose}
use Rattle.smk_model.specs.Demo.{summary_of}
use Rattle.smk_model.proofs.SomeOutcome.{some_reading}
use Rattle.smk_top.specs.declared.counts.Counts.{Counts}
use Rattle.smk_top.proofs.{Appending.appends_none, Endings.{sayable_pieces, measured_stops, summary_written}}
use Rattle.smk_top.proofs.summarizing.write_summary.Goals as goal

pub returns-in_err-sizes-clause-works : goal.returns-in_err-sizes-clause-works
returns-in_err-sizes-clause-works g c given are none same alike brought =
    let p = err_from_is_err_and c.from_residual.result c.from_residual.ensures.1 in
    rw (p.1, p.2) (inl (appends_none _))

pub returns-in_err-counts-clause-said : goal.returns-in_err-counts-clause-said
returns-in_err-counts-clause-said g c =
    let p = err_from_is_err_and c.from_residual-in_err-counts.result c.from_residual-in_err-counts.ensures.1 in
    let said = some_reading c.args.started.script.items in
    rw (p.1, p.2) (sayable_pieces {X = Counts} _ (Rose 0 0) None None (Err c.in_err-counts.field-0.0) (c.in_err-counts.ensures.written said.0 said.1))

pub returns-in_err-counts-clause-works : goal.returns-in_err-counts-clause-works
returns-in_err-counts-clause-works g c given are none same alike brought =
    let p = err_from_is_err_and c.from_residual-in_err-counts.result c.from_residual-in_err-counts.ensures.1 in
    rw (p.1, p.2) (measured_stops Counts (summary_of c.args.flights.count) given _ _ _ _ (c.in_err-counts.ensures.written given.readings are))

pub returns-clause-works : goal.returns-clause-works
returns-clause-works g c given are none same alike brought =
    summary_written c.args.flights.count given _ _ _ c.in_ok-sizes.sizes c.in_ok-counts.counts _ _ _ c.put_summary.result none same alike brought c.in_ok-sizes.ensures (c.in_ok-counts.ensures.counts given.readings are) c.put_summary.ensures.written c.put_summary.ensures.counts

pub returns-clause-said : goal.returns-clause-said
returns-clause-said g c = sayable_pieces _ _ _ _ c.put_summary.result c.put_summary.ensures.written
