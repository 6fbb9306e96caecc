use Rattle.std.proofs.Common.{subst}
use Rattle.smk_outside.specs.{Hearing.Gives, StreamTalk.{CountedStreams, told_by}}
use Rattle.smk_outside.proofs.Reading.{gives_from}
use Rattle.smk_outside.proofs.talk.stream_talk.StreamTalkTalk.hear.Goals as goal

pub returns-clause-gives : goal.returns-clause-gives
returns-clause-gives g c =
    let line = c.hear_line-result in
    let after : CountedStreams _ _ = record { reader = line.new.reader; writer = c.self.inside.writer; faults = 0 } in
    subst (λ s. Gives c.args.limit (told_by g.R.Read.remaining g.W.Write.contents s) (told_by g.R.Read.remaining g.W.Write.contents after) line.result)
    c.self.view_is (gives_from c.args.limit _ _ _ line.result line.ensures.short line.ensures.bytes)

pub returns-2-clause-gives : goal.returns-2-clause-gives
returns-2-clause-gives g c =
    let line = c.hear_line-result in
    let after : CountedStreams _ _ = record { reader = line.new.reader; writer = c.self.inside.writer; faults = 0 } in
    subst (λ s. Gives c.args.limit (told_by g.R.Read.remaining g.W.Write.contents s) (told_by g.R.Read.remaining g.W.Write.contents after) line.result)
    c.self.view_is (gives_from c.args.limit _ _ _ line.result line.ensures.short line.ensures.bytes)
