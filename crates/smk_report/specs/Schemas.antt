-- The schema, by how many rows the tables and views have.
use Rattle.std.specs.{Prelude.{ℕ, List, ◌++◌, length, slice_index_or}, List.flat_map}
use Rattle.smk_base.specs.{CatalogImage.{CatalogImage, ViewImage}, Places.upto}
use Rattle.smk_model.specs.{OwnTexts.{table_info_text, view_info_text, declarations_text, schema_line}, Session.view_at, Typing.info_at}

-- the schema's texts, with these numbers of rows for the tables and for the views
abbrev pub tables_over : CatalogImage → List ℕ → List ℕ
tables_over catalog rows = flat_map (λ t. table_info_text (info_at catalog.tables t) (slice_index_or rows t 0)) (upto (length catalog.tables))

abbrev pub view_over : ViewImage → ℕ → List ℕ
view_over view rows = view_info_text view.name view.names view.kinds rows

abbrev pub views_over : CatalogImage → List ℕ → List ℕ
views_over catalog rows = flat_map (λ v. view_over (view_at catalog v) (slice_index_or rows v 0)) (upto (length catalog.views))

abbrev pub schema_over : CatalogImage → List (List ℕ) → List ℕ → List ℕ → List ℕ
schema_over catalog fds table_rows view_rows = schema_line catalog ++ tables_over catalog table_rows ++ views_over catalog view_rows ++ declarations_text catalog fds
