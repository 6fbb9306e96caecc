use Rattle.std.proofs.Common.{◌≡◌, ◌≤◌, ◌+◌, ◌++◌, All, List, ℕ, take}
use Rattle.std.specs.List.{sum_by}
use Rattle.smk_session.specs.Refreshed.{AreChoices, AreFollowed, IsFetched, looks_now, views_of}
use Rattle.smk_session.proofs.brush.following.follow_by.Given as goal

abbrev pub invariant-loop-w : goal.invariant-loop-w
invariant-loop-w g l = record {
  followed : (done : List ℕ) × (done ++ views_of l.waiting.items ≡ take l.w-index l.views) × AreFollowed l.refresh done l.followed;
  choices : AreChoices l.refresh l.choices.items;
  fetched : All (IsFetched l.refresh) l.waiting.items;
  looks : l.steps ≤ l.initial.steps + sum_by (looks_now l.refresh) (take l.w-index l.views);
}
