use Rattle.std.proofs.Common.{◌≡◌, ◌++◌, map}
use Rattle.smk_base.specs.declared.reply.Linked.{Linked}
use Rattle.smk_session.specs.declared.turn.Content.{Content}
use Rattle.smk_session.proofs.brush.following.put_each.Given as goal

abbrev pub invariant-loop-shown : goal.invariant-loop-shown
invariant-loop-shown g l = record {
  linked : l.followed.linked ≡ l.initial.followed.linked ++ map (λ (one : Linked × Content). one.0) l.yielded;
  contents : l.followed.contents ≡ l.initial.followed.contents ++ map (λ (one : Linked × Content). one.1) l.yielded;
}
