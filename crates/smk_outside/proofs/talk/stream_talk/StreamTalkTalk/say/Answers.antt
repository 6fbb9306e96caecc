use Rattle.std.proofs.Common.{[], ◌∷◌, subst}
use Rattle.smk_outside.specs.{Saying.SaysFront, StreamTalk.{CountedStreams, told_by}}
use Rattle.smk_outside.proofs.Reading.{front_from}
use Rattle.smk_outside.proofs.talk.stream_talk.StreamTalkTalk.say.Goals as goal

pub returns-in-Err-clause-front : goal.returns-in-Err-clause-front
returns-in-Err-clause-front g c =
    let after : CountedStreams _ _ = record { reader = c.self.inside.reader; writer = c.write_through.new.writer; faults = 0 } in
    subst (λ s. SaysFront (told_by g.R.Read.remaining g.W.Write.contents s) (told_by g.R.Read.remaining g.W.Write.contents after) (c.args.bytes.now ∷ []))
    c.self.view_is (front_from _ _ _ c.args.bytes.now c.in-Err.ensures.part)
