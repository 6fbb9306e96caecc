use Rattle.std.proofs.{Common.{[], append-nil}, lemmas.Result.err_from_is_err_and}
use Rattle.smk_jobs.proofs.InOrder.{all_back, all_front}
use Rattle.smk_session.specs.Refreshed.{IsFetched, looks_now}
use Rattle.smk_session.proofs.{Linked.{looks_next, looks_so_far}, Refreshing.{next_waits, refused_due}}
use Rattle.smk_session.proofs.brush.following.follow_by.Goals as goal

pub put_each-requires-clause-fetched : goal.put_each-requires-clause-fetched
put_each-requires-clause-fetched g c κs within = all_front (IsFetched c.args.refresh.now) c.due-all.result.items c.due-all.new.waiting.items c.loop-w.waiting.items c.due-all.ensures.jobs c.loop-w.invariant.fetched

pub fetch-requires-clause-view : goal.fetch-requires-clause-view
fetch-requires-clause-view g c = (c.requires.named c.loop-w.w-index 0 c.loop-w-test.true).view

pub fetch-requires-clause-declared : goal.fetch-requires-clause-declared
fetch-requires-clause-declared g c = (c.requires.named c.loop-w.w-index 0 c.loop-w-test.true).declared

pub returns-in_err-put_each-clause-linked : goal.returns-in_err-put_each-clause-linked
returns-in_err-put_each-clause-linked g c =
    let p = err_from_is_err_and c.from_residual.result c.from_residual.ensures.1 in
    rw (p.1, p.2) (refused_due c.args.refresh.now c.args.views.now c.loop-w.w-index c.loop-w.followed c.due-all.result.items c.due-all.new.waiting.items c.loop-w.waiting.items c.in_err-put_each.field-0.0 c.due-all.ensures.jobs c.loop-w.invariant.followed c.in_err-put_each.ensures.turned)

pub returns-in_err-put_each-2-clause-linked : goal.returns-in_err-put_each-2-clause-linked
returns-in_err-put_each-2-clause-linked g c =
    let p = err_from_is_err_and c.from_residual-in_err-put_each-2.result c.from_residual-in_err-put_each-2.ensures.1 in
    let waiting = c.loop-w.waiting.items in
    rw (p.1, p.2) (refused_due c.args.refresh.now c.args.views.now c.loop-w.w-index c.loop-w.followed waiting [] waiting c.in_err-put_each-2.field-0.0 (append-nil waiting) c.loop-w.invariant.followed c.in_err-put_each-2.ensures.turned)

pub returns-in_err-fetch-clause-looks : goal.returns-in_err-fetch-clause-looks
returns-in_err-fetch-clause-looks g c =
    looks_so_far (looks_now c.args.refresh.now) c.args.views.now c.loop-w.w-index c.args.steps.now c.loop-w.steps c.fetch.new.steps 0 c.loop-w-test.true c.loop-w.invariant.looks c.fetch.ensures.looks

pub loop-w-preserved : goal.loop-w-preserved
loop-w-preserved g c =
    let r = c.args.refresh.now in
    let ws = c.args.views.now in
    let i = c.loop-w.w-index in
    let low = c.loop-w-test.true in
    let due = c.due-all.result.items in
    let rest = c.due-all.new.waiting.items in
    let cut = c.due-all.ensures.jobs in
    record {
      followed = next_waits r ws i 0 c.loop-w.followed c.put_each.new.followed due rest c.loop-w.waiting.items c.fetch.new.waiting.items low cut c.loop-w.invariant.followed c.in_ok-put_each.ensures.followed c.in_ok-fetch.ensures.views;
      choices = c.in_ok-fetch.ensures.choices;
      fetched = c.in_ok-fetch.ensures.fetched (all_back (IsFetched r) due rest c.loop-w.waiting.items cut c.loop-w.invariant.fetched);
      looks = looks_next (looks_now r) ws i c.args.steps.now c.loop-w.steps c.fetch.new.steps 0 low c.loop-w.invariant.looks c.fetch.ensures.looks;
    }
