use Rattle.std.proofs.{Common.{length, arith}, lemmas.List.length_push, lemmas.Iterator.Consumers.{YieldsList-turn, YieldsList-end}, lemmas.Iterator.Adapters.YieldsList-from_vec}
use Rattle.smk_session.specs.{Extras.{split_in, cubes_in}, Making.book_in}
use Rattle.smk_session.proofs.Declared.{made_at, kept_put, kept_all}
use Rattle.smk_session.proofs.start.making.put_each.Goals as goal

pub loop-one-preserved : goal.loop-one-preserved
loop-one-preserved g c =
    let book = book_in c.args.opened.now in
    let all = c.args.all.items in
    let made = c.in_ok-made.made in
    let one = c.in-Some.one in
    let n = length c.loop-one.yielded in
    let given_items = c.into_iter-one-iterator.ensures.into_iter_gives in
    let turn = YieldsList-turn (YieldsList-from_vec {s = c.into_iter-one-iterator.result} made.items given_items.0 (omega (arith, given_items.1, made.ok))) c.loop-one.yielded c.loop-one.one-iterator c.loop-one.yielded_by c.next.result c.next.new.self one c.in-Some.is c.next.ensures.steps in
    let at = made_at book all made.items n one c.in_ok-made.ensures.all turn.0 turn.1 in
    rw (length_push c.loop-one.yielded one)
    (record {
      splits = kept_put (split_in book) all n at.0 one.split c.args.extras.now.splits.items c.loop-one.extras.splits.items c.put_made.new.extras.splits.items at.1 at.2 c.loop-one.invariant.splits at.3.split c.in_ok-put_made.ensures.splits;
      cubes = kept_put (cubes_in book) all n at.0 one.cubes c.args.extras.now.cubes.items c.loop-one.extras.cubes.items c.put_made.new.extras.cubes.items at.1 at.2 c.loop-one.invariant.cubes at.3.cubes c.in_ok-put_made.ensures.cubes;
    })

pub returns-clause-splits : goal.returns-clause-splits
returns-clause-splits g c =
    let book = book_in c.args.opened.now in
    let made = c.in_ok-made.made in
    let given_items = c.into_iter-one-iterator.ensures.into_iter_gives in
    let end = YieldsList-end (YieldsList-from_vec {s = c.into_iter-one-iterator.result} made.items given_items.0 (omega (arith, given_items.1, made.ok))) c.loop-one.yielded c.loop-one.one-iterator c.loop-one.yielded_by c.next.result c.next.new.self c.in-None.is c.next.ensures.steps in
    kept_all book (split_in book) c.args.all.items made.items (length c.loop-one.yielded) c.args.extras.now.splits.items c.loop-one.extras.splits.items c.in_ok-made.ensures.all end.1 c.loop-one.invariant.splits

pub returns-clause-cubes : goal.returns-clause-cubes
returns-clause-cubes g c =
    let book = book_in c.args.opened.now in
    let made = c.in_ok-made.made in
    let given_items = c.into_iter-one-iterator.ensures.into_iter_gives in
    let end = YieldsList-end (YieldsList-from_vec {s = c.into_iter-one-iterator.result} made.items given_items.0 (omega (arith, given_items.1, made.ok))) c.loop-one.yielded c.loop-one.one-iterator c.loop-one.yielded_by c.next.result c.next.new.self c.in-None.is c.next.ensures.steps in
    kept_all book (cubes_in book) c.args.all.items made.items (length c.loop-one.yielded) c.args.extras.now.cubes.items c.loop-one.extras.cubes.items c.in_ok-made.ensures.all end.1 c.loop-one.invariant.cubes
