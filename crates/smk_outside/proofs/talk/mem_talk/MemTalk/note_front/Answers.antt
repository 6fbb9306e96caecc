use Rattle.smk_outside.specs.MemTalk.{told_of}
use Rattle.smk_outside.proofs.Telling.{take_front, SaysFront-part}
use Rattle.smk_outside.proofs.talk.mem_talk.MemTalk.note_front.Goals as goal

pub returns-in-Ok-clause-front : goal.returns-in-Ok-clause-front
returns-in-Ok-clause-front c = SaysFront-part (told_of c.args.self.now) (told_of c.note_said.new.self) _ c.args.bytes.now (take_front _ _) c.in-Ok.ensures.ok
