use Rattle.std.proofs.{Common.{◌∙◌, ◌<◌, ◌++◌, All, length, take, ap, arith}, lemmas.List.Elements.All-push}
use Rattle.std.specs.List.{filter_map}
use Rattle.smk_base.specs.declared.book.catalog.Catalog.{Catalog}
use Rattle.smk_jobs.proofs.InOrder.{all_back, all_front}
use Rattle.smk_session.specs.{Extras.{split_in, cubes_in}, Making.{IsAsked, book_in, cubes_wanted, declared_in, is_wanted, looks_wanted, split_wanted}}
use Rattle.smk_session.proofs.{Declared.{kept_due, kept_none, kept_waiting, looks_next, looks_within, want_kept}, start.making.make_extras.Goals.{in-Some+in_ok-push, in_default}}
use Rattle.smk_session.proofs.start.making.make_extras.Goals as goal

pub returns-in_err-asked-clause-looks : goal.returns-in_err-asked-clause-looks
returns-in_err-asked-clause-looks g c =
    let opened = c.args.opened.now in
    looks_within (looks_wanted (book_in opened) opened.grown) c.as_slice-declared-items.result.now opened.book.now.backs c.loop-declared.declared-index c.args.steps.now c.loop-declared.steps c.fetch_asked.new.steps c.declared-item.result
    (c.as_slice-declared-items.ensures ∙ ap (λ (k : Catalog). k.backs) c.catalog.ensures.value) (omega (arith, c.loop-declared-test.true)) c.declared-item.is c.loop-declared.invariant.looks c.fetch_asked.ensures.looks

pub returns-in_err-push-clause-looks : goal.returns-in_err-push-clause-looks
returns-in_err-push-clause-looks g c =
    let opened = c.args.opened.now in
    looks_within (looks_wanted (book_in opened) opened.grown) c.as_slice-declared-items.result.now opened.book.now.backs c.loop-declared.declared-index c.args.steps.now c.loop-declared.steps c.fetch_asked.new.steps c.declared-item.result
    (c.as_slice-declared-items.ensures ∙ ap (λ (k : Catalog). k.backs) c.catalog.ensures.value) (omega (arith, c.loop-declared-test.true)) c.declared-item.is c.loop-declared.invariant.looks c.fetch_asked.ensures.looks

pub put_each-requires-clause-asked : goal.put_each-requires-clause-asked
put_each-requires-clause-asked g c κs within =
    let opened = c.args.opened.now in
    all_front (IsAsked opened.book.now opened.tables.now) c.due-all.result.items c.due-all.new.waiting.items c.loop-declared.waiting.items c.due-all.ensures.jobs c.loop-declared.invariant.asked

pub loop-declared-preserved : goal.loop-declared-preserved
loop-declared-preserved g c =
    let opened = c.args.opened.now in
    let book = book_in opened in
    let fits = IsAsked opened.book.now opened.tables.now in
    let declarations = c.as_slice-declared-items.result.now in
    let i = c.loop-declared.declared-index in
    let declared = c.declared-item.result in
    let put = c.put_each.new.extras in
    let waiting = c.due-all.new.waiting.items in
    let low : i < length declarations = omega (arith, c.loop-declared-test.true) in
    let splits = kept_due (split_in book) c.loop-declared.extras.splits.items put.splits.items (filter_map (split_wanted book opened.grown) (take i declarations)) c.due-all.result.items waiting c.loop-declared.waiting.items c.due-all.ensures.jobs c.in_ok-put_each.ensures.splits c.loop-declared.invariant.splits in
    let cubes = kept_due (cubes_in book) c.loop-declared.extras.cubes.items put.cubes.items (filter_map (cubes_wanted book opened.grown) (take i declarations)) c.due-all.result.items waiting c.loop-declared.waiting.items c.due-all.ensures.jobs c.in_ok-put_each.ensures.cubes c.loop-declared.invariant.cubes in
    let asked : All fits waiting = all_back fits c.due-all.result.items waiting c.loop-declared.waiting.items c.due-all.ensures.jobs c.loop-declared.invariant.asked in
    let looks = looks_next (looks_wanted book opened.grown) declarations i c.args.steps.now c.loop-declared.steps c.fetch_asked.new.steps declared low c.declared-item.is c.loop-declared.invariant.looks c.fetch_asked.ensures.looks in
    elim c.match-branch-3.branch [
      | in-Some+in_ok-push w ↦
          let one = w.in-Some.asked in
          let own = rw w.in-Some.is at c.in_ok-asked.ensures.asked in
          let same = rw w.in-Some.is at c.in_ok-asked.ensures.declared in
          let wanted = rw w.in-Some.is at c.in_ok-asked.ensures.wanted in
          record {
            splits = rw w.waiting-is (kept_waiting (split_in book) (split_wanted book opened.grown) declarations i declared put.splits.items waiting w.push.new.self.items one low c.declared-item.is splits w.in_ok-push.ensures.items same (want_kept (is_wanted book.catalog opened.grown declared) (split_in book declared) wanted));
            cubes = rw w.waiting-is (kept_waiting (cubes_in book) (cubes_wanted book opened.grown) declarations i declared put.cubes.items waiting w.push.new.self.items one low c.declared-item.is cubes w.in_ok-push.ensures.items same (want_kept (is_wanted book.catalog opened.grown declared) (cubes_in book declared) wanted));
            asked = rw (w.waiting-is, w.in_ok-push.ensures.items) (All-push fits waiting one asked own);
            looks = looks;
          }
      | in_default w ↦
          let no_split = rw w.in_default.is at c.in_ok-asked.ensures.no_split in
          let no_cubes = rw w.in_default.is at c.in_ok-asked.ensures.no_cubes in
          record {
            splits = rw w.waiting-is (kept_none (split_wanted book opened.grown) declarations i declared (put.splits.items ++ filter_map (split_in book) (declared_in waiting)) low c.declared-item.is splits no_split);
            cubes = rw w.waiting-is (kept_none (cubes_wanted book opened.grown) declarations i declared (put.cubes.items ++ filter_map (cubes_in book) (declared_in waiting)) low c.declared-item.is cubes no_cubes);
            asked = rw w.waiting-is asked;
            looks = looks;
          }
    ]
