use Rattle.std.proofs.Common.{map, Bor, ℕ, List}
use Rattle.smk_outside.specs.Outside.{Rose}
use Rattle.smk_top.proofs.TalkEndings.{ends_said, fault_said, memory_said, unopened, end_is_no_start, memory_is_no_start, fault_behind}
use Rattle.smk_top.proofs.conversing.converse.Goals as goal

pub returns-in-Ok-clause-ends : goal.returns-in-Ok-clause-ends
returns-in-Ok-clause-ends g c =
    ends_said _ (g.F.Files.held c.args.files.now) _ _ _ _ (g.T.Talk.told c.args.talk.now) (g.T.Talk.told c.talk_for.new.talk) _ _ (g.E.Sink.written c.args.err.now) (g.E.Sink.written c.say_end.new.err) c.say_end.result c.in-Ok.end c.in-Ok.ensures.works c.say_end.ensures.said

pub returns-in-Err-At-clause-ends : goal.returns-in-Err-At-clause-ends
returns-in-Err-At-clause-ends g c =
    let works = rw c.in-Err-At.field-0-is at c.in-Err-At.ensures.works in
    fault_said _ (g.F.Files.held c.args.files.now) _ _ _ _ (g.T.Talk.told c.args.talk.now) (g.T.Talk.told c.talk_for.new.talk) _ _ (g.E.Sink.written c.args.err.now) (g.E.Sink.written c.say_talk_fault.new.err) c.say_talk_fault.result
    c.in-Err-At.fault works.0 works.1 (rw c.in-Err-At.field-0-is at c.in-Err-At.ensures.no_look) c.say_talk_fault.ensures.said

pub returns-in-Ok-clause-no_look : goal.returns-in-Ok-clause-no_look
returns-in-Ok-clause-no_look g c met = absurd (end_is_no_start c.in-Ok.end.ending c.in-Ok.end.down _ _ _ c.say_end.result c.say_end.ensures.said met)

pub returns-in-Err-At-clause-no_look : goal.returns-in-Err-At-clause-no_look
returns-in-Err-At-clause-no_look g c met =
    fault_behind c.in-Err-At.fault _ _ _ c.say_talk_fault.result _ _ c.say_talk_fault.ensures.said (rw c.in-Err-At.field-0-is at c.in-Err-At.ensures.no_look) met

pub returns-in-Err : goal.returns-in-Err
returns-in-Err g c = record {
  ends =
      memory_said _ (g.F.Files.held c.args.files.now) _ _ _ _ (g.T.Talk.told c.args.talk.now) (g.T.Talk.told c.talk_for.new.talk) _ _ (g.E.Sink.written c.args.err.now) (g.E.Sink.written c.say_no_memory.new.err) c.say_no_memory.result
      (unopened (map (λ (w : Bor (List ℕ)). w.now) c.args.words.now) (g.F.Files.held c.args.files.now) (g.F.Files.faults c.args.files.now) (g.F.Files.faults c.talk_for.new.files) (Rose (g.T.Talk.faults c.args.talk.now) (g.T.Talk.faults c.talk_for.new.talk)) (g.T.Talk.told c.args.talk.now) (g.T.Talk.told c.talk_for.new.talk) _ _ c.in-Err.field-0 c.in-Err.ensures.works) c.say_no_memory.ensures.said;
  no_look = λ met. absurd (memory_is_no_start _ _ _ c.say_no_memory.result c.say_no_memory.ensures.said met);
  held = c.in-Err.ensures.held;
  files_later = c.in-Err.ensures.later;
  talk_later = c.in-Err.ensures.talk_later;
  err_later = c.say_no_memory.ensures.later;
  demo = c.in-Err.ensures.demo;
}
