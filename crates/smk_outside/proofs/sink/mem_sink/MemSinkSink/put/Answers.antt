use Rattle.std.proofs.Common.{rules}
use Rattle.smk_outside.proofs.Parts.{appends_front}
use Rattle.smk_outside.proofs.sink.mem_sink.MemSinkSink.put.Goals as goal

pub returns-clause-part : goal.returns-clause-part
returns-clause-part c = appends_front _ _ _ _ _ c.front_of.ensures (search rules)
