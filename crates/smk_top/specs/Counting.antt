-- Counts: of two parts together, of a text that belongs to no line, of lines, and of a report.
use Rattle.std.specs.Prelude.{ℕ, ◌+◌, List, length}
use Rattle.smk_model.specs.Reports.{LinesTold, Report}
use Rattle.smk_top.specs.declared.counts.Counts.{Counts}

abbrev pub counts_together : Counts → Counts → Counts
counts_together a b = record {
  replies = a.replies + b.replies;
  refused = a.refused + b.refused;
  unread = a.unread + b.unread;
  bytes = a.bytes + b.bytes;
}

abbrev pub text_counted : List ℕ → Counts
text_counted text = record { replies = 0; refused = 0; unread = 0; bytes = length text }

abbrev pub counts_told : LinesTold → Counts
counts_told told = record { replies = told.replies; refused = told.refused; unread = told.unread; bytes = length told.text }

abbrev pub counts_of : Report → Counts
counts_of report = record { replies = report.replies; refused = report.refused; unread = report.unread; bytes = length report.text }
