use Rattle.std.proofs.{Common.{◌≡◌, length}, lemmas.Result.IfOk-weaker}
use Rattle.smk_base.specs.Places.{members_at}
use Rattle.smk_session.specs.{Answers.rids_or_all, Refreshed.marks_next}
use Rattle.smk_session.proofs.Followers.{chosen_inside, chosen_there, marks_reached}
use Rattle.smk_session.proofs.brush.following.marks_now.Goals as goal

pub reached-requires : goal.reached-requires
reached-requires c =
    let refresh = c.args.refresh.now in
    let held = refresh.held.now in
    chosen_inside held.catalog.now held.tables.now refresh.brushes.now c.args.w refresh.table c.declared_map-map.result.now c.args.chosen.now c.declared_map-map.ensures
    (chosen_there held.catalog.now held.tables.now refresh.brushes.now c.args.w refresh.table c.args.chosen.now c.requires.refresh.fit c.requires.chosen)

pub returns : goal.returns
returns c =
    let refresh = c.args.refresh.now in
    let held = refresh.held.now in
    let map = c.declared_map-map.result.now in
    IfOk-weaker c.reached.result
    (λ marks. marks ≡ members_at map (rids_or_all c.args.chosen.now (length map.lists))) (λ marks. marks ≡ marks_next refresh c.args.w)
    (λ marks. marks_reached held.catalog.now held.tables.now refresh.brushes.now c.args.w refresh.table map c.args.chosen.now marks c.declared_map-map.ensures
    (chosen_there held.catalog.now held.tables.now refresh.brushes.now c.args.w refresh.table c.args.chosen.now c.requires.refresh.fit c.requires.chosen))
    c.reached.ensures
