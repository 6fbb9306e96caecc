use Rattle.std.proofs.{Common.{All, subst, sym}, lemmas.List.Elements.All-push}
use Rattle.smk_session.specs.Refreshed.{IsFetched}
use Rattle.smk_session.proofs.Followers.{rids_rise}
use Rattle.smk_session.proofs.brush.following.fetch.Goals as goal

pub choose-requires-clause-rising : goal.choose-requires-clause-rising
choose-requires-clause-rising g c = rids_rise c.args.refresh.now.held.now.catalog.now c.args.refresh.now.held.now.tables.now c.args.refresh.now.brushes.now c.requires.refresh.fit

pub returns-clause-fetched : goal.returns-clause-fetched
returns-clause-fetched g c = λ all.
    subst (All (IsFetched c.args.refresh.now)) (sym c.in_ok-push.ensures.items)
    (All-push (IsFetched c.args.refresh.now) c.args.waiting.now.items _ all (record { source = c.in_ok-source.ensures.source; ready = c.in_ok-source.ensures.ready; marks = c.in_ok-marks.ensures }))
