use Rattle.smk_outside.proofs.Reading.{taken_whole}
use Rattle.smk_outside.proofs.talk.stream_talk.take_front.Goals as goal

pub returns-in-Ok-true : goal.returns-in-Ok-true
returns-in-Ok-true g c =
    let some = rw c.in-Ok-true.field-0-test at c.in-Ok-true.ensures.some in
    taken_whole _ _ _ _ _ c.args.most c.loop.invariant.0 c.loop.invariant.1 some
