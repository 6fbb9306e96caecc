use Rattle.std.proofs.Common.{◌≡◌}
use Rattle.smk_session.specs.Answers.{book_of, picks_brushed, state_at}
use Rattle.smk_session.proofs.brush.choices.picks.Given as goal

abbrev pub invariant-loop-t : goal.invariant-loop-t
invariant-loop-t l = l.picks ≡ picks_brushed (book_of l.held) (state_at l.held l.brushes) l.w l.t
