use Rattle.std.proofs.Common.{[], refl, ◌∙◌, arith}
use Rattle.smk_outside.proofs.Telling.{Rose-after}
use Rattle.smk_top.specs.Talking.{talk_at}
use Rattle.smk_top.proofs.{TalkEndings.says_nothing, TalkStretches.{begins, one_more, last_one}}
use Rattle.smk_session.specs.Sessions.{state_of}
use Rattle.smk_inputs.specs.Loaded.{said_of}
use Rattle.smk_top.proofs.talking.take_turns.Goals as goal

pub loop-heard-init : goal.loop-heard-init
loop-heard-init g c =
    let (stretch, none) = begins (said_of c.args.session.catalog c.args.manner.now.fds.now) c.args.manner.now.read_only (g.F.Files.held c.args.files.now) (g.F.Files.faults c.args.files.now)
    [] (talk_at (state_of c.args.session) 0) (g.T.Talk.told c.args.talk.now) (g.T.Talk.told c.args.talk.now) c.args.steps.now (says_nothing (g.T.Talk.told c.args.talk.now) (g.T.Talk.told c.args.talk.now) refl) in
    record { stretch = stretch; count = none; book = refl; held = refl; later = omega arith; talk_later = omega arith }

pub take_turn-taken-requires-clause-shown : goal.take_turn-taken-requires-clause-shown
take_turn-taken-requires-clause-shown g c κs within = rw c.loop-heard.invariant.book c.requires.shown

pub loop-heard-preserved : goal.loop-heard-preserved
loop-heard-preserved g c =
    let inv = c.loop-heard.invariant in
    let turn = rw (inv.book, inv.held, c.in_default.is) at c.take_turn-taken.ensures.taken in
    let more = one_more (said_of c.args.session.catalog c.args.manner.now.fds.now) c.args.manner.now.read_only (g.F.Files.held c.args.files.now) _ _ _ [] _ _ _
    (g.T.Talk.told c.args.talk.now) (g.T.Talk.told c.loop-heard.talk) (g.T.Talk.told c.take_turn-taken.new.talk) _ _ _ _ _ _
    inv.later c.take_turn-taken.ensures.later
    inv.stretch inv.count turn in
    rw c.either-down.ensures (record {
      stretch = more.0;
      count = more.1;
      book = c.take_turn-taken.ensures.book ∙ inv.book;
      held = c.take_turn-taken.ensures.held ∙ inv.held;
      later = omega (arith, inv.later, c.take_turn-taken.ensures.later);
      talk_later = omega (arith, inv.talk_later, c.take_turn-taken.ensures.talk_later);
    })

pub returns-in-Some-clause-talked : goal.returns-in-Some-clause-talked
returns-in-Some-clause-talked g c =
    let inv = c.loop-heard.invariant in
    let turn = rw (inv.book, inv.held, c.in-Some.is) at c.take_turn-taken.ensures.taken in
    rw c.either-down.ensures
    (last_one (said_of c.args.session.catalog c.args.manner.now.fds.now) c.args.manner.now.read_only (g.F.Files.held c.args.files.now) _ _ _ _ _ [] _ _
    (g.T.Talk.told c.args.talk.now) (g.T.Talk.told c.loop-heard.talk) (g.T.Talk.told c.take_turn-taken.new.talk) _ _ _ _ _ _
    inv.later c.take_turn-taken.ensures.later
    (Rose-after _ _ _ inv.talk_later) inv.stretch turn)

pub returns-clause-talked : goal.returns-clause-talked
returns-clause-talked g c =
    let inv = c.loop-heard.invariant in
    record { last = talk_at (state_of c.loop-heard.session) c.loop-heard.heard; stretch = inv.stretch; cause = omega (arith, inv.count) }
