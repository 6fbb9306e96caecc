use Rattle.std.proofs.Common.{◌∙◌}
use Rattle.smk_session.proofs.Followers.{all_named}
use Rattle.smk_session.proofs.brush.following.follow.Goals as goal

pub follow_by-requires-clause-named : goal.follow_by-requires-clause-named
follow_by-requires-clause-named g c κs within = all_named c.args.refresh.now c.args.v c.as_slice.result.now c.requires.refresh.held.opened.checked (c.as_slice.ensures.value ∙ c.in_ok-views.ensures)
