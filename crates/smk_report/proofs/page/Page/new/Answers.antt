use Rattle.std.proofs.Common.{◌∙◌, refl}
use Rattle.csv.specs.Writing.{is_blank}
use Rattle.smk_report.proofs.page.Page.new.Goals as goal

pub returns : goal.returns
unfolding is_blank
returns c = record {
  setup = c.from_writer.ensures.cfg ∙ c.flexible.ensures ∙ rw c.new.ensures refl;
  written = rw (c.from_writer.ensures.wtr, c.from_writer.ensures.empty) refl;
  count = c.from_writer.ensures.fields;
  blank = rw c.from_writer.ensures.wrote refl;
}
