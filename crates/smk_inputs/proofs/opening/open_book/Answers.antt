use Rattle.std.proofs.{Common.{ℕ, Vec, Global}, lemmas.Result.err_from_is_err_and}
use Rattle.smk_model.specs.Outcome.{BookSays}
use Rattle.smk_outside.specs.Outside.{Rose}
use Rattle.smk_inputs.specs.Loaded.{book_said}
use Rattle.smk_inputs.proofs.FileReads.{says_after, says_stop, book_untold}
use Rattle.smk_inputs.proofs.opening.open_book.Goals as goal

pub returns-in_err-bytes-clause-read : goal.returns-in_err-bytes-clause-read
returns-in_err-bytes-clause-read g c =
    let p = err_from_is_err_and c.from_residual.result c.from_residual.ensures.1 in
    rw (p.1, p.2) (says_stop book_said (λ (bytes : Vec ℕ Global). bytes.items) (g.F.Files.held c.args.files.now) (Rose (g.F.Files.faults c.args.files.now) (g.F.Files.faults c.content.new.files)) c.args.name.now BookSays c.in_err-bytes.field-0.0 c.in_err-bytes.ensures.read)

pub returns-clause-read : goal.returns-clause-read
returns-clause-read g c =
    says_after book_said (λ (bytes : Vec ℕ Global). bytes.items) _ _ c.args.name.now c.as_slice.result.now c.in_ok-bytes.bytes BookSays _ c.in_ok-bytes.ensures.read c.as_slice.ensures.value (λ fault is. book_untold _ _ fault is) c.book_of.ensures.answers
