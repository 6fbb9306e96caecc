use Rattle.std.proofs.Common.{◌≡◌, Some, false, refl, arith}
use Rattle.smk_model.specs.Conversation.{opening_block}
use Rattle.smk_outside.proofs.Telling.{Rose-after}
use Rattle.smk_outside.specs.{Outside.Rose, Turning.ReplyGives, declared.talk.ending.Ending.Ending, declared.talk.ending.Ending.TheVariants.{Ended, Unheard, Unsaid, Outlasted}}
use Rattle.smk_top.specs.Talking.{Talked, talk_at}
use Rattle.smk_top.proofs.TalkStretches.{breaks_off, begun_talk, talked_unread}
use Rattle.smk_session.specs.Sessions.{state_of, workbook_of}
use Rattle.smk_inputs.specs.Loaded.{said_of}
use Rattle.smk_top.proofs.talking.hold.Goals as goal

pub returns-in-Some-clause-talked : goal.returns-in-Some-clause-talked
returns-in-Some-clause-talked g c = broken c.in-Some.ending refl (rw c.in-Some.is at c.in_ok-opened.ensures.gives)
  where
    broken : (e : Ending) → c.in-Some.ending ≡ e → ReplyGives (Rose (g.T.Talk.faults c.args.talk.now) (g.T.Talk.faults c.say_opening.new.talk)) (g.T.Talk.told c.args.talk.now) (g.T.Talk.told c.say_opening.new.talk) (opening_block c.args.manner.now.brief (workbook_of c.args.session) c.args.manner.now.fds.now) (Some e)
        → Talked (said_of c.args.session.catalog c.args.manner.now.fds.now) c.args.manner.now.read_only (g.F.Files.held c.args.files.now) (g.F.Files.faults c.args.files.now) (g.F.Files.faults c.args.files.now) (Rose (g.T.Talk.faults c.args.talk.now) (g.T.Talk.faults c.say_opening.new.talk))
        (opening_block c.args.manner.now.brief (workbook_of c.args.session) c.args.manner.now.fds.now) (talk_at (state_of c.args.session) 0) (g.T.Talk.told c.args.talk.now) (g.T.Talk.told c.say_opening.new.talk) e false c.args.steps.now c.args.steps.now
    broken Unsaid is (front, cause) = breaks_off _ _ _ _ _ _ _ _ _ _ front cause
    broken Ended is given = absurd given
    broken Unheard is given = absurd given
    broken Outlasted is given = absurd given

pub returns-then-manner-clause-talked : goal.returns-then-manner-clause-talked
returns-then-manner-clause-talked g c =
    let said = rw c.in-None.is at c.in_ok-opened.ensures.gives in
    begun_talk (said_of c.args.session.catalog c.args.manner.now.fds.now) c.args.manner.now.read_only (g.F.Files.held c.args.files.now) _ _ _ _ (opening_block c.args.manner.now.brief (workbook_of c.args.session) c.args.manner.now.fds.now) _ (g.T.Talk.told c.args.talk.now) (g.T.Talk.told c.say_opening.new.talk) (g.T.Talk.told c.take_turns.new.talk) _ _ _ _
    (omega arith) (Rose-after _ _ _ c.in_ok-opened.ensures.later) said
    (talked_unread (said_of c.args.session.catalog c.args.manner.now.fds.now) (g.F.Files.held c.args.files.now) c.args.manner.now.read_only (g.F.Files.faults c.args.files.now) _ _ _ _ _ _ _ _ _ c.if-manner.true c.take_turns.ensures.talked)

pub returns-else-manner-clause-talked : goal.returns-else-manner-clause-talked
returns-else-manner-clause-talked g c =
    let said = rw c.in-None.is at c.in_ok-opened.ensures.gives in
    begun_talk (said_of c.args.session.catalog c.args.manner.now.fds.now) c.args.manner.now.read_only (g.F.Files.held c.args.files.now) _ _ _ _ (opening_block c.args.manner.now.brief (workbook_of c.args.session) c.args.manner.now.fds.now) _ (g.T.Talk.told c.args.talk.now) (g.T.Talk.told c.say_opening.new.talk) (g.T.Talk.told c.take_turns-else-manner.new.talk) _ _ _ _
    c.take_turns-else-manner.ensures.later (Rose-after _ _ _ c.in_ok-opened.ensures.later) said c.take_turns-else-manner.ensures.talked
