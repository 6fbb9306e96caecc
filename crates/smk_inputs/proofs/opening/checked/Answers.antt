use Rattle.smk_base.specs.{CatalogImage.catalog_image, TreeImage.book_image}
use Rattle.smk_inputs.proofs.FileReads.{expanded_keeps, expanded_none, expanded_shown}
use Rattle.smk_inputs.proofs.opening.checked.Goals as goal

pub check-requires-clause-limits : goal.check-requires-clause-limits
check-requires-clause-limits c = expanded_keeps (book_image c.args.book) (book_image c.in_ok-book.field-0.book) c.in_ok-book.ensures.book c.requires

pub check-requires-clause-replaced : goal.check-requires-clause-replaced
check-requires-clause-replaced c = expanded_none (book_image c.args.book) (book_image c.in_ok-book.field-0.book) c.in_ok-book.ensures.book

pub returns-in-Ok-clause-shown : goal.returns-in-Ok-clause-shown
returns-in-Ok-clause-shown c =
    expanded_shown (book_image c.args.book) (book_image c.in_ok-book.field-0.book) c.in_ok-book.field-0.fds (catalog_image c.in-Ok.book) c.in_ok-book.ensures.book c.in_ok-book.ensures.fds c.in-Ok.ensures
