use Rattle.std.proofs.Common.{◌≡◌, length, map}
use Rattle.smk_parse.specs.{Vocabulary.{APiped, ask_step_image, reads}, Reads.before}
use Rattle.smk_parse.proofs.ask.ask_steps.Given as goal

abbrev pub invariant-steps : goal.invariant-steps
invariant-steps l = reads APiped l.fn.reader ≡ before (map ask_step_image l.steps) (reads APiped l.reader)

abbrev pub decreases-steps : goal.decreases-steps
decreases-steps l = length l.reader.rest
