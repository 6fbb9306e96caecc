use Rattle.std.proofs.{Common.{◌≡◌, ◌∙◌, ◌++◌, ◌∷◌, ◌+◌, [], subst, sym, List, arith}, lemmas.Grind.common_steps}
use Rattle.smk_base.specs.{Picks.ArePicks, declared.list.table_rids.Pick.Pick}
use Rattle.smk_session.specs.Answers.{picks_brushed, state_at, book_of}
use Rattle.smk_session.proofs.{Followers.{pick_more, pick_none, rids_rise}, Selected.are_picks, brush.choices.picks.Goals.{in-Some+in_ok-push, in_default}}
use Rattle.smk_session.proofs.brush.choices.picks.Goals as goal

pub brushed-requires : goal.brushed-requires
brushed-requires c = rids_rise c.args.held.now.catalog.now c.args.held.now.tables.now c.args.brushes.now c.requires.fit

pub push-requires : goal.push-requires
push-requires c =
    let held = c.args.held.now in
    let next : c.loop-t.picks ++ record { table = c.loop-t.t; rids = c.in-Some.rids } ∷ [] ≡ picks_brushed (book_of held) (state_at held c.args.brushes.now) c.args.w (c.loop-t.t + 1) =
    pick_more held.catalog.now held.tables.now c.args.brushes.now c.args.w c.loop-t.t c.in_ok-rids.field-0 c.in-Some.rids c.loop-t.picks c.requires.fit c.in_ok-rids.ensures c.in-Some.is c.loop-t.invariant in
    subst (λ (picks : List Pick). ArePicks picks) (sym next) (are_picks (book_of held) (state_at held c.args.brushes.now) c.args.w (c.loop-t.t + 1))

pub loop-t-preserved : goal.loop-t-preserved
loop-t-preserved c =
    let held = c.args.held.now in
    elim c.match-branch-2.branch [
      | in-Some+in_ok-push w ↦
          rw w.picks-is (w.in_ok-push.ensures.pushed ∙ pick_more held.catalog.now held.tables.now c.args.brushes.now c.args.w c.loop-t.t c.in_ok-rids.field-0 w.in-Some.rids c.loop-t.picks c.requires.fit c.in_ok-rids.ensures w.in-Some.is c.loop-t.invariant)
      | in_default w ↦
          rw w.picks-is (pick_none held.catalog.now held.tables.now c.args.brushes.now c.args.w c.loop-t.t c.in_ok-rids.field-0 c.loop-t.picks c.requires.fit c.in_ok-rids.ensures w.in_default.is c.loop-t.invariant)
    ]

pub overflow_cast-t-end : goal.overflow_cast-t-end
overflow_cast-t-end c = grind (arith, common_steps)
