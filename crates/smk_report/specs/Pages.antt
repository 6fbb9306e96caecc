-- A page: a text, and after it the record that is being written.
use Rattle.std.specs.{Prelude.{◌≡◌, ◌==◌, ◌||◌, ◌&&◌, ◌-◌, ◌^◌, ℕ, true, not, min, List, [], ◌∷◌, ◌++◌, length, Vec}, declared.alloc.Global.Global}
use Rattle.csv.specs.{Writing.{default_writer, fields_written, has_written, is_blank, row_body, writer_pending, with_flexible, writer_setup, writer_under}, declared.writer.Writer.Writer, declared.writer.WriterBuilder.WriterBuilder}
use Rattle.smk_report.specs.declared.page.Page.{Page}

-- how a page's writer writes: as csv's writer does with its defaults, and records of any length
abbrev pub page_writer : WriterBuilder
page_writer = with_flexible default_writer true

-- what a writer over a text has written
abbrev pub written_by : Writer (Vec ℕ Global) → List ℕ
written_by w = (writer_under w).items ++ writer_pending w

-- the page has this text, and after it a record with these fields so far
pub record Says (page : Page) (text : List ℕ) (fields : List (List ℕ)) : Type 0 where
  pub setup : writer_setup page.writer ≡ page_writer
  pub written : written_by page.writer ≡ text ++ row_body page_writer fields
  pub count : fields_written page.writer ≡ min (length fields) (2 ^ 64 - 1)
  pub blank : is_blank page_writer fields ≡ (not (has_written page.writer) && ((length fields == 0) || (length fields == 1)))

-- the record has one more field
abbrev pub AddsField : Page → Page → List ℕ → Type 0
AddsField old new field = (text : List ℕ) (fields : List (List ℕ)) → Says old text fields → Says new text (fields ++ field ∷ [])

-- between records: the text has these bytes more
abbrev pub Adds : Page → Page → List ℕ → Type 0
Adds old new bytes = (text : List ℕ) → Says old text [] → Says new (text ++ bytes) []
