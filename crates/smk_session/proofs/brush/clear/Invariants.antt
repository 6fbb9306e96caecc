use Rattle.std.proofs.Common.{◌≡◌, [], map}
use Rattle.smk_base.specs.Places.{upto}
use Rattle.smk_session.specs.Answers.{book_of, content_at, state_at}
use Rattle.smk_session.proofs.brush.clear.Given as goal

abbrev pub invariant-loop-view : goal.invariant-loop-view
invariant-loop-view l = l.contents ≡ map (content_at (book_of l.held) (state_at l.held [])) (upto l.view)
