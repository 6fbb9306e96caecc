use Rattle.std.proofs.{Common.{arith, rules, length, inl, ◌++◌, ◌∷◌, []}, lemmas.List.{length_push, append_assoc}, lemmas.Iterator.Consumers.YieldsList-turn, lemmas.Iterator.Adapters.YieldsList-from_vec}
use Rattle.smk_jobs.proofs.InOrder.{value_more, fault_here}
use Rattle.smk_jobs.proofs.jobs.put_all.Goals as goal

pub loop-result-preserved : goal.loop-result-preserved
loop-result-preserved g c =
    let given_items = c.into_iter-result-iterator.ensures.into_iter_gives in
    let turn = YieldsList-turn (YieldsList-from_vec {s = c.into_iter-result-iterator.result} c.args.results.items given_items.0 (omega (arith, given_items.1, c.args.results.ok))) c.loop-result.yielded c.loop-result.result-iterator c.loop-result.yielded_by c.next.result c.next.new.self c.in-Some.result c.in-Some.is c.next.ensures.steps in
    rw (length_push c.loop-result.yielded c.in-Some.result) (
      c.loop-result.invariant.0 ++ c.in-Ok.one ∷ [],
      value_more _ c.args.results.items (length c.loop-result.yielded) c.in-Some.result c.loop-result.invariant.0 c.in-Ok.one turn.0 turn.1 c.loop-result.invariant.1 c.in-Ok.is,
      search (rules, append_assoc),
    )

pub returns-in-Err-clause-first : goal.returns-in-Err-clause-first
returns-in-Err-clause-first g c =
    let given_items = c.into_iter-result-iterator.ensures.into_iter_gives in
    let turn = YieldsList-turn (YieldsList-from_vec {s = c.into_iter-result-iterator.result} c.args.results.items given_items.0 (omega (arith, given_items.1, c.args.results.ok))) c.loop-result.yielded c.loop-result.result-iterator c.loop-result.yielded_by c.next.result c.next.new.self c.in-Some.result c.in-Some.is c.next.ensures.steps in
    inl (fault_here _ c.args.results.items (length c.loop-result.yielded) c.in-Some.result c.loop-result.invariant.0 c.in-Err.fault turn.0 turn.1 c.loop-result.invariant.1 c.in-Err.is)
