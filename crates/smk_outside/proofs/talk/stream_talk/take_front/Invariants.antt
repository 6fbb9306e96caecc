-- What is in `line` was taken, and has no LF.
use Rattle.std.proofs.Common.{◌≢◌, All}
use Rattle.std.specs.Io.KnownBytes.{Consumes}
use Rattle.smk_outside.proofs.talk.stream_talk.take_front.Given as goal

abbrev pub invariant-loop : goal.invariant-loop
invariant-loop g l = All (λ x. x ≢ 10) l.line.items × Consumes (g.R.Read.remaining l.fn.reader) (g.R.Read.remaining l.reader) l.line.items
