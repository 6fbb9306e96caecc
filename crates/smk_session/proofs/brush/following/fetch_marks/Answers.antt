use Rattle.std.proofs.Common.{◌∙◌, ap, arith, length}
use Rattle.smk_marks.specs.{Marks.marks_at, Views.rows_reached}
use Rattle.smk_marks.proofs.Looks.{looks_few}
use Rattle.smk_session.proofs.{KeptViews.{full_shown, fwd_long, reached_by_chosen, rids_few, rids_inside, rids_looks, rids_ready, rids_shown, table_there, whole_shown}, brush.following.fetch_marks.Goals.{in_default-via-in-Some+else-as_slice-rows, in_default-via-in_default}}
use Rattle.smk_session.proofs.brush.following.fetch_marks.Goals as goal

pub bounds-refresh-refresh : goal.bounds-refresh-refresh
bounds-refresh-refresh g c = table_there c.requires.refresh c.requires.view c.requires.kept c.requires.table

pub reach-requires-clause-inside : goal.reach-requires-clause-inside
reach-requires-clause-inside g c =
    let h = reached_by_chosen c.requires.refresh c.requires.view c.requires.kept c.requires.table c.requires.chosen c.index-refresh-refresh.is c.len-rows.ensures.keeps.few_rows in
    rw c.as_slice-in-Some.ensures (rids_inside h c.in-Some.rids c.in-Some.is)

pub reach-requires-clause-long : goal.reach-requires-clause-long
reach-requires-clause-long g c =
    let h = reached_by_chosen c.requires.refresh c.requires.view c.requires.kept c.requires.table c.requires.chosen c.index-refresh-refresh.is c.len-rows.ensures.keeps.few_rows in
    fwd_long h

pub reach-requires-clause-few : goal.reach-requires-clause-few
reach-requires-clause-few g c =
    let h = reached_by_chosen c.requires.refresh c.requires.view c.requires.kept c.requires.table c.requires.chosen c.index-refresh-refresh.is c.len-rows.ensures.keeps.few_rows in
    rw c.as_slice-in-Some.ensures (rids_few h c.in-Some.rids c.in-Some.is)

pub returns-in_ok-reached-in-Some-clause-source : goal.returns-in_ok-reached-in-Some-clause-source
returns-in_ok-reached-in-Some-clause-source g c =
    let h = reached_by_chosen c.requires.refresh c.requires.view c.requires.kept c.requires.table c.requires.chosen c.index-refresh-refresh.is c.len-rows.ensures.keeps.few_rows in
    let found = c.in_ok-reached-in-Some.ensures in
    rids_shown h c.in-Some.rids c.in_ok-reached-in-Some.reached c.in-Some.is (found.marks ∙ ap (marks_at c.args.view.forward.now) c.as_slice-in-Some.ensures) (found.rows ∙ ap (rows_reached c.args.view _) c.as_slice-in-Some.ensures)

pub returns-in_ok-reached-in-Some-clause-ready : goal.returns-in_ok-reached-in-Some-clause-ready
returns-in_ok-reached-in-Some-clause-ready g c =
    let h = reached_by_chosen c.requires.refresh c.requires.view c.requires.kept c.requires.table c.requires.chosen c.index-refresh-refresh.is c.len-rows.ensures.keeps.few_rows in
    let found = c.in_ok-reached-in-Some.ensures in
    rids_ready h c.in-Some.rids c.in_ok-reached-in-Some.reached c.in-Some.is (found.marks ∙ ap (marks_at c.args.view.forward.now) c.as_slice-in-Some.ensures) (found.rows ∙ ap (rows_reached c.args.view _) c.as_slice-in-Some.ensures)

pub returns-in_ok-reached-in-Some-clause-looks : goal.returns-in_ok-reached-in-Some-clause-looks
returns-in_ok-reached-in-Some-clause-looks g c =
    let h = reached_by_chosen c.requires.refresh c.requires.view c.requires.kept c.requires.table c.requires.chosen c.index-refresh-refresh.is c.len-rows.ensures.keeps.few_rows in
    omega (arith, c.reach.ensures.looks, looks_few c.args.view c.as_slice-in-Some.result.now, rids_looks h c.in-Some.rids c.in-Some.is, ap length c.as_slice-in-Some.ensures)

pub returns-in_err-reached-in-Some-clause-looks : goal.returns-in_err-reached-in-Some-clause-looks
returns-in_err-reached-in-Some-clause-looks g c =
    let h = reached_by_chosen c.requires.refresh c.requires.view c.requires.kept c.requires.table c.requires.chosen c.index-refresh-refresh.is c.len-rows.ensures.keeps.few_rows in
    omega (arith, c.reach.ensures.looks, looks_few c.args.view c.as_slice-in-Some.result.now, rids_looks h c.in-Some.rids c.in-Some.is, ap length c.as_slice-in-Some.ensures)

pub returns-in_default-clause-source : goal.returns-in_default-clause-source
returns-in_default-clause-source g c =
    let h = reached_by_chosen c.requires.refresh c.requires.view c.requires.kept c.requires.table c.requires.chosen c.index-refresh-refresh.is c.len-rows.ensures.keeps.few_rows in
    elim c.in_default.branch [
      | in_default-via-in-Some+else-as_slice-rows b ↦ full_shown h b.in-Some.rids b.in-Some.is (omega (arith, b.if-as_slice-rows.false, c.len-rows.ensures.count, ap length b.as_slice.ensures))
      | in_default-via-in_default b ↦ whole_shown h b.in_default.is
    ]
