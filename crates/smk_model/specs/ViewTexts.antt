-- The texts of views over whole tables.
use Rattle.std.specs.{Prelude.{ℕ, List, map}, List.flat_map}
use Rattle.smk_base.specs.CatalogImage.{ViewImage}
use Rattle.smk_model.specs.{Values.Row, Plain.rows_over, Session.Workbook, Texts.view_text}

-- the rows of a view over the tables of a book, and their text
abbrev pub view_rows : Workbook → ViewImage → List Row
view_rows book view = rows_over view.plan book.tables

abbrev pub text_of_view : Workbook → ViewImage → List ℕ
text_of_view book view = view_text view.name view.names (view_rows book view)

-- the texts of all views in the book's order, one by one and put together
abbrev pub view_texts : Workbook → List (List ℕ)
view_texts book = map (text_of_view book) book.catalog.views

abbrev pub views_text : Workbook → List ℕ
views_text book = flat_map (text_of_view book) book.catalog.views
