use Rattle.std.proofs.Common.{◌∙◌, length, ap, refl, arith}
use Rattle.smk_base.specs.{CatalogImage.catalog_image, Rels.Relation}
use Rattle.smk_session.specs.Sessions.{state_of}
use Rattle.smk_profile.proofs.Marked.{Meets, answered_in, begins, ends, has_marks, marked_with, on_in, stops_in, wanted_number, within}
use Rattle.smk_profile.proofs.marks.mark_groups.Goals as goal

pub loop-mark-init : goal.loop-mark-init
loop-mark-init g c = record { same = refl; asks = c.requires.asks; made = rw c.new-groups.ensures (begins _ _) }

pub put_mark-requires : goal.put_mark-requires
put_mark-requires g c = has_marks _ _ _ c.loop-mark.invariant.asks

pub returns-in_err-put_mark-clause-same : goal.returns-in_err-put_mark-clause-same
returns-in_err-put_mark-clause-same g c = c.loop-mark.invariant.same

pub returns-in_err-put_mark-clause-looks : goal.returns-in_err-put_mark-clause-looks
returns-in_err-put_mark-clause-looks g c = within _ _ _ _ _ c.loop-mark.invariant.made

pub mark_group-requires-clause-answered : goal.mark_group-requires-clause-answered
mark_group-requires-clause-answered g c κs lives =
    let number = c.len-count.ensures.count ∙ ap (λ (r : Relation). length r.rows) c.first.ensures.rows in
    let asked = marked_with _ _ _ _ _ c.loop-mark.invariant.asks c.in_ok-put_mark.ensures in
    let meets : Meets c.args.session.now c.args.view.now c.args.v c.loop-mark.mark c.len-count.result _ = record { placed = c.requires.placed; shows = c.requires.shows; asked = asked; number = number; low = c.loop-mark-test.true } in
    answered_in _ _ _ _ _ _ _ c.loop-mark.invariant.same meets

pub returns-in_err-group-clause-same : goal.returns-in_err-group-clause-same
returns-in_err-group-clause-same g c = c.in_err-group.ensures.same ∙ c.loop-mark.invariant.same

pub returns-in_err-group-clause-looks : goal.returns-in_err-group-clause-looks
returns-in_err-group-clause-looks g c =
    let number = c.len-count.ensures.count ∙ ap (λ (r : Relation). length r.rows) c.first.ensures.rows in
    let asked = marked_with _ _ _ _ _ c.loop-mark.invariant.asks c.in_ok-put_mark.ensures in
    let meets : Meets c.args.session.now c.args.view.now c.args.v c.loop-mark.mark c.len-count.result _ = record { placed = c.requires.placed; shows = c.requires.shows; asked = asked; number = number; low = c.loop-mark-test.true } in
    stops_in _ _ _ _ _ _ _ _ _ _ _ c.loop-mark.invariant.same meets c.loop-mark.invariant.made c.in_err-group.ensures.looks

pub returns-in_err-push-clause-same : goal.returns-in_err-push-clause-same
returns-in_err-push-clause-same g c = c.in_ok-group.ensures.same ∙ c.loop-mark.invariant.same

pub returns-in_err-push-clause-looks : goal.returns-in_err-push-clause-looks
returns-in_err-push-clause-looks g c =
    let number = c.len-count.ensures.count ∙ ap (λ (r : Relation). length r.rows) c.first.ensures.rows in
    let asked = marked_with _ _ _ _ _ c.loop-mark.invariant.asks c.in_ok-put_mark.ensures in
    let meets : Meets c.args.session.now c.args.view.now c.args.v c.loop-mark.mark c.len-count.result _ = record { placed = c.requires.placed; shows = c.requires.shows; asked = asked; number = number; low = c.loop-mark-test.true } in
    stops_in _ _ _ _ _ _ _ _ _ _ _ c.loop-mark.invariant.same meets c.loop-mark.invariant.made c.in_ok-group.ensures.looks

pub loop-mark-preserved : goal.loop-mark-preserved
loop-mark-preserved g c =
    let number = c.len-count.ensures.count ∙ ap (λ (r : Relation). length r.rows) c.first.ensures.rows in
    let asked = marked_with _ _ _ _ _ c.loop-mark.invariant.asks c.in_ok-put_mark.ensures in
    let meets : Meets c.args.session.now c.args.view.now c.args.v c.loop-mark.mark c.len-count.result _ = record { placed = c.requires.placed; shows = c.requires.shows; asked = asked; number = number; low = c.loop-mark-test.true } in
    let on = on_in _ _ _ _ _ _ _ _ _ _ _ c.in_ok-group.group c.loop-mark.invariant.same meets c.loop-mark.invariant.made c.in_ok-group.ensures.group c.in_ok-group.ensures.looks in
    record { same = c.in_ok-group.ensures.same ∙ c.loop-mark.invariant.same; asks = (c.loop-mark.mark, asked); made = rw c.in_ok-push.ensures.pushed on }

pub returns-clause-groups : goal.returns-clause-groups
returns-clause-groups g c =
    let number = c.len-count.ensures.count ∙ ap (λ (r : Relation). length r.rows) c.first.ensures.rows in
    let all = wanted_number (catalog_image c.args.session.now.catalog) (state_of c.args.session.now) c.args.view.now c.args.v c.requires.placed c.requires.shows in
    ends _ _ _ _ _ c.loop-mark.invariant.made (omega (arith, all, number, c.loop-mark-test.false))

pub returns-clause-same : goal.returns-clause-same
returns-clause-same g c = c.loop-mark.invariant.same

pub returns-clause-looks : goal.returns-clause-looks
returns-clause-looks g c = within _ _ _ _ _ c.loop-mark.invariant.made
