use Rattle.std.proofs.{Common.{◌<◌, Ok, ℕ, length, ap, arith, subst}, lemmas.Result.IfOk-weaker}
use Rattle.std.specs.List.{AllZip}
use Rattle.smk_base.proofs.Places.{length_upto, get_or_upto}
use Rattle.smk_jobs.specs.Cuts.{AreParts}
use Rattle.smk_jobs.specs.contracts.parts.in_parts.F-Fn.{words}
use Rattle.smk_jobs.proofs.Gathering.{are_parts}
use Rattle.smk_jobs.proofs.parts.in_parts.Goals as goal

pub each_or_first-requires-clause-jobs : goal.each_or_first-requires-clause-jobs
each_or_first-requires-clause-jobs g c κs within =
    let n = c.args.workers in
    let are = c.in_ok-parts.ensures in
    λ k d below.
    let low : k < n = omega (arith, below, ap length are, length_upto n) in
    rw (are, get_or_upto n k d low) (c.requires k low)

pub returns : goal.returns
returns g c =
    let n = c.args.workers in
    let Made = λ (p : ℕ) (one : g.row.X.Denot). (words g.row.R g.row.C g.row.X g.row.F g.F.Fn).post c.args.part.now p (Ok one) in
    IfOk-weaker c.each_or_first.result (λ made. AllZip Made c.in_ok-parts.parts.items made.items) (λ made. AreParts Made n made.items)
    (λ made all. are_parts Made n made.items (subst (λ numbers. AllZip Made numbers made.items) c.in_ok-parts.ensures all)) c.each_or_first.ensures.all
