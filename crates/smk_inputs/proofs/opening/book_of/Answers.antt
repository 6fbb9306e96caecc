use Rattle.std.proofs.lemmas.Result.{err_from_is_err_and}
use Rattle.smk_base.specs.TreeImage.{book_image}
use Rattle.smk_inputs.specs.Loaded.{book_said}
use Rattle.smk_inputs.proofs.FileReads.{book_unparsed, book_says}
use Rattle.smk_inputs.proofs.opening.book_of.Goals as goal

pub returns-in_err-book-clause-answers : goal.returns-in_err-book-clause-answers
returns-in_err-book-clause-answers c =
    let p = err_from_is_err_and c.from_residual.result c.from_residual.ensures.1 in
    rw (p.1, p.2) (book_unparsed book_image book_said c.args.bytes.now _ _ c.without_mark.ensures.rest c.in_err-book.ensures.answers)

pub returns-clause-answers : goal.returns-clause-answers
returns-clause-answers c = book_says book_image book_said c.args.bytes.now _ c.in_ok-book.book _ c.without_mark.ensures.rest c.in_ok-book.ensures.answers c.checked.ensures.answers
