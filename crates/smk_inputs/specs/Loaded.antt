-- What a run reads, as the definitions see it.
use Rattle.std.specs.Prelude.{ℕ, List}
use Rattle.smk_base.specs.{CatalogImage.catalog_image, declared.book.catalog.Catalog.Catalog}
use Rattle.smk_model.specs.Outcome as outcomes
use Rattle.smk_model.specs.{Reports.BookSaid, Readings.Reading, Session.Workbook, Selection.each_rows}
use Rattle.smk_session.specs.Opened.{workbook_image}
use Rattle.smk_inputs.specs.{declared.inputs.Inputs.Inputs, declared.collecting.Rest.Rest, declared.opening.OpenedBook.OpenedBook}

-- what a checked book says with the names of its dependencies, and what an opened book says
abbrev pub said_of : Catalog → List (List ℕ) → BookSaid
said_of book fds = record { catalog = catalog_image book; fds = fds }

abbrev pub book_said : OpenedBook → BookSaid
book_said opened = said_of opened.book opened.fds

abbrev pub workbook_read : Inputs → Workbook
workbook_read inputs = workbook_image inputs.book inputs.tables.items

abbrev pub script_bytes : Inputs → List ℕ
script_bytes inputs = inputs.script.items

-- with what the lines of the script say
abbrev pub inputs_with : Inputs → List Reading → outcomes.Inputs
inputs_with inputs said = record { book = workbook_read inputs; fds = inputs.fds; readings = said; added = each_rows inputs.added.items }

-- what was read after a book, with what this says and what the lines of the script say
abbrev pub with_rest : BookSaid → Rest → List Reading → outcomes.Inputs
with_rest book rest said = record { book = record { catalog = book.catalog; tables = each_rows rest.tables.items }; fds = book.fds; readings = said; added = each_rows rest.added.items }
