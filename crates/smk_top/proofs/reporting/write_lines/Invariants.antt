use Rattle.std.proofs.Common.{◌≡◌, ◌≤◌, ◌-◌, length, drop}
use Rattle.smk_base.specs.CatalogImage.{catalog_image}
use Rattle.smk_model.specs.{Lines.lines, Selection.each_rows}
use Rattle.smk_session.specs.Sessions.{state_of}
use Rattle.smk_inputs.specs.{Added.BringTables, Loaded.said_of}
use Rattle.smk_top.proofs.Walks.{Walks}
use Rattle.smk_top.proofs.reporting.write_lines.Given as goal

abbrev pub invariant-loop-span : goal.invariant-loop-span
invariant-loop-span g l = record {
  walked : Walks (said_of l.initial.session.catalog l.fn.started.fds) (state_of l.initial.session) (each_rows l.initial.added.items) l.text l.from l.before (g.O.Sink.written l.initial.out) (g.O.Sink.written l.out) (state_of l.session) (each_rows l.added.items) l.initial.steps l.steps l.counts;
  book : l.session.catalog ≡ l.initial.session.catalog;
  fits : BringTables (catalog_image l.session.catalog) (lines (drop l.from l.text)) l.added.items;
  inside : l.from ≤ length l.text;
  few : l.before ≤ l.from;
  later : g.O.Sink.faults l.initial.out ≤ g.O.Sink.faults l.out;
}

abbrev pub decreases-loop-span : goal.decreases-loop-span
decreases-loop-span g l = length l.text - l.from
