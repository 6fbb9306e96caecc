use Rattle.std.proofs.Common.{subst, sym, get_or, arith}
use Rattle.smk_jobs.specs.contracts.jobs.add_group.F-Fn.{words}
use Rattle.smk_jobs.proofs.InOrder.{zip_of, all_given, first_given}
use Rattle.smk_jobs.proofs.jobs.add_group.Goals as goal

pub returns-clause-all : goal.returns-clause-all
returns-clause-all g c =
    let Gives = (words g.row.R g.row.J g.row.T g.row.E g.row.F g.F.Fn).post c.args.f.now in
    let group = c.args.group.items in
    let results = c.in_ok-results.results.items in
    let given = zip_of Gives group results (omega (arith, c.in_ok-results.ensures.len, c.in_ok-results.results.ok.0, c.args.group.ok.0))
    (λ i d e low.
    let job = (c.in_ok-results.ensures.each i e low).1 in
    subst (λ j. Gives j (get_or results i e)) (sym (job.job_is d)) job.call.met) in
    all_given Gives group results _ _ c.put_all.result given c.put_all.ensures.all

pub returns-clause-first : goal.returns-clause-first
returns-clause-first g c =
    let Gives = (words g.row.R g.row.J g.row.T g.row.E g.row.F g.F.Fn).post c.args.f.now in
    let group = c.args.group.items in
    let results = c.in_ok-results.results.items in
    let given = zip_of Gives group results (omega (arith, c.in_ok-results.ensures.len, c.in_ok-results.results.ok.0, c.args.group.ok.0))
    (λ i d e low.
    let job = (c.in_ok-results.ensures.each i e low).1 in
    subst (λ j. Gives j (get_or results i e)) (sym (job.job_is d)) job.call.met) in
    first_given Gives _ group results c.put_all.result given c.put_all.ensures.first
