use Rattle.std.proofs.{Common.◌∙◌, lemmas.Result.err_from_is_err_and}
use Rattle.smk_top.specs.declared.counts.Counts.{Counts}
use Rattle.smk_top.proofs.Appending.{none_written, put_stops}
use Rattle.smk_top.proofs.summarizing.put_summary.Goals as goal

pub returns-in_err-put-clause-written : goal.returns-in_err-put-clause-written
returns-in_err-put-clause-written g c =
    let p = err_from_is_err_and c.from_residual-in_err-put.result c.from_residual-in_err-put.ensures.1 in
    rw (p.1, p.2) (put_stops (Unit {0}) Counts _ _ _ _ _ _ (c.as_slice.ensures.value ∙ c.in_ok-text.ensures) c.in_err-put.ensures.text)

pub returns-in_err-text-clause-written : goal.returns-in_err-text-clause-written
returns-in_err-text-clause-written g c =
    let p = err_from_is_err_and c.from_residual.result c.from_residual.ensures.1 in
    rw (p.1, p.2) (none_written _ _)
