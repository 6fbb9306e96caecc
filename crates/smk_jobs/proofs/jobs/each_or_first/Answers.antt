use Rattle.std.proofs.{Common.alloc_error, lemmas.Result.err_from_is_err_and}
use Rattle.smk_jobs.proofs.InOrder.{all_back, group_more, group_told}
use Rattle.smk_jobs.specs.contracts.jobs.each_or_first.F-Fn.{words}
use Rattle.smk_jobs.proofs.jobs.each_or_first.Goals as goal

pub loop-rest-preserved : goal.loop-rest-preserved
loop-rest-preserved g c =
    let group = c.in_ok-group.group.items in
    let rest = c.loop-rest.rest.items in
    let later = c.next_group.new.rest.items in
    let cut = c.in_ok-group.ensures.jobs in
    let put = c.in_ok-add_group.ensures.all in
    record {
      jobs = all_back ((words g.row.R g.row.J g.row.T g.row.E g.row.F g.F.Fn).pre c.args.f.now) group later rest cut c.loop-rest.invariant.jobs;
      done = group_more _ c.args.jobs.items rest later group c.loop-rest.all.items c.add_group.new.all.items put.0 c.loop-rest.invariant.done cut put.1 put.2;
    }

pub returns-in_err-add_group-clause-first : goal.returns-in_err-add_group-clause-first
returns-in_err-add_group-clause-first g c =
    let Gives = (words g.row.R g.row.J g.row.T g.row.E g.row.F g.F.Fn).post c.args.f.now in
    let p = err_from_is_err_and c.from_residual-in_err-add_group.result c.from_residual-in_err-add_group.ensures.1 in
    rw (p.1, p.2)
    (group_told Gives (g.E.From.from_gives alloc_error) c.args.jobs.items c.loop-rest.rest.items c.next_group.new.rest.items c.in_ok-group.group.items c.loop-rest.all.items c.in_err-add_group.field-0.0 c.loop-rest.invariant.done c.in_ok-group.ensures.jobs c.in_err-add_group.ensures.first)
