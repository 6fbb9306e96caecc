use Rattle.std.proofs.Common.{◌≡◌, ◌<◌, length, vec_len, All}
use Rattle.smk_session.specs.{Answers.placed, declared.turn.Content.Content}
use Rattle.smk_session.proofs.turn.place.Given as goal

-- with those that are left the contents come to the same
abbrev pub invariant-loop-content : goal.invariant-loop-content
invariant-loop-content l = record {
  left : placed l.rest.items l.contents ≡ placed l.initial.rest.items l.initial.contents;
  known : All (λ (content : Content). content.view < length l.contents) l.rest.items;
}

abbrev pub decreases-loop-content : goal.decreases-loop-content
decreases-loop-content l = vec_len l.rest
