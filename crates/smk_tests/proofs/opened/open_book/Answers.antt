use Rattle.smk_base.specs.CatalogImage.{catalog_image}
use Rattle.smk_tests.proofs.opened.open_book.Goals as goal

pub returns : goal.returns
returns c = c.in_ok-book.ensures.shown (catalog_image c.in-Ok.book) c.in-Ok.ensures
