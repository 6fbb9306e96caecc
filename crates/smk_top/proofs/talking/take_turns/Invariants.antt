-- The conversation so far, in which as many turns were made as the loop counts.
use Rattle.std.proofs.Common.{◌≡◌, ◌≤◌, [], length}
use Rattle.smk_outside.specs.declared.talk.ending.Ending.TheVariants.{Outlasted}
use Rattle.smk_top.specs.Talking.{TalkStretch, talk_at}
use Rattle.smk_session.specs.Sessions.{state_of}
use Rattle.smk_inputs.specs.Loaded.{said_of}
use Rattle.smk_top.proofs.talking.take_turns.Given as goal

abbrev pub invariant-loop-heard : goal.invariant-loop-heard
invariant-loop-heard g l = record {
  stretch : TalkStretch (said_of l.fn.session.catalog l.manner.fds.now) l.manner.read_only (g.F.Files.held l.fn.files) (g.F.Files.faults l.fn.files) (g.F.Files.faults l.files)
      [] (talk_at (state_of l.fn.session) 0) (talk_at (state_of l.session) l.heard) (g.T.Talk.told l.fn.talk) (g.T.Talk.told l.talk) Outlasted l.down l.fn.steps l.steps;
  count : length stretch.talk.turns ≡ l.heard;
  book : l.session.catalog ≡ l.fn.session.catalog;
  held : g.F.Files.held l.files ≡ g.F.Files.held l.fn.files;
  later : g.F.Files.faults l.fn.files ≤ g.F.Files.faults l.files;
  talk_later : g.T.Talk.faults l.fn.talk ≤ g.T.Talk.faults l.talk;
}
