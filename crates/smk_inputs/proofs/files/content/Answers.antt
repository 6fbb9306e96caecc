use Rattle.std.proofs.Common.{arith, Vec, Global, ℕ}
use Rattle.smk_inputs.proofs.Fronts.{long_front, whole_front}
use Rattle.smk_inputs.proofs.files.content.Goals as goal

pub returns-then-len-gt-FILE_LIMIT-clause-read : goal.returns-then-len-gt-FILE_LIMIT-clause-read
returns-then-len-gt-FILE_LIMIT-clause-read g c =
    long_front (λ (bytes : Vec ℕ Global). bytes.items) _ _ c.args.name.now c.in-Ok.bytes.items _ (rw c.as_slice.ensures at c.in-Ok.ensures.bytes) (omega arith) (c.in_ok-file-in-Ok.ensures)

pub returns-else-len-gt-FILE_LIMIT-clause-read : goal.returns-else-len-gt-FILE_LIMIT-clause-read
returns-else-len-gt-FILE_LIMIT-clause-read g c =
    whole_front (λ (bytes : Vec ℕ Global). bytes.items) _ _ c.args.name.now c.in-Ok.bytes (rw c.as_slice.ensures at c.in-Ok.ensures.bytes) (omega arith)
