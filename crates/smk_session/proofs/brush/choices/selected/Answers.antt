use Rattle.std.proofs.{Common.{◌≡◌, ℕ, IfSome, length}, lemmas.Result.IfOk-weaker}
use Rattle.smk_model.specs.Session.{rows_of_table}
use Rattle.smk_session.specs.{Answers.{AreOn, book_of, chosen_by, counts, rids_or_all, selected_by, state_lent}, Behind.RidsFit}
use Rattle.smk_session.proofs.Followers.{rids_rise, selected_is}
use Rattle.smk_session.proofs.brush.choices.selected.Goals as goal

pub brushed-requires : goal.brushed-requires
brushed-requires c = rids_rise c.args.held.now.catalog.now c.args.held.now.tables.now c.args.held.now.brushes.now c.requires.in_force.brushes_fit

pub returns-clause-selected : goal.returns-clause-selected
returns-clause-selected c =
    let held = c.args.held.now in
    IfOk-weaker c.brushed.result (λ rids. (n : ℕ) → AreOn c.args.t n held.brushes.now → rids ≡ chosen_by (counts (book_of held) c.args.view c.args.t) held.brushes.now n)
    (λ rids. rids_or_all rids (length (rows_of_table (state_lent held) c.args.t)) ≡ selected_by (book_of held) (state_lent held) c.args.view c.args.t)
    (λ rids made. (selected_is held.catalog.now held.tables.now held.brushes.now c.args.view c.args.t rids c.requires.in_force.brushes_fit made).0) c.brushed.ensures

pub returns-clause-fit : goal.returns-clause-fit
returns-clause-fit c =
    let held = c.args.held.now in
    IfOk-weaker c.brushed.result (λ rids. (n : ℕ) → AreOn c.args.t n held.brushes.now → rids ≡ chosen_by (counts (book_of held) c.args.view c.args.t) held.brushes.now n)
    (λ rids. IfSome rids (RidsFit (length (rows_of_table (state_lent held) c.args.t))))
    (λ rids made. (selected_is held.catalog.now held.tables.now held.brushes.now c.args.view c.args.t rids c.requires.in_force.brushes_fit made).1) c.brushed.ensures
