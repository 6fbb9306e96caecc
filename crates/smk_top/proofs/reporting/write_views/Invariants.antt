use Rattle.std.proofs.Common.{◌≡◌, ◌≤◌, take}
use Rattle.std.specs.List.{flat_map}
use Rattle.smk_base.specs.CatalogImage.{catalog_image}
use Rattle.smk_outside.specs.Outside.{Appends}
use Rattle.smk_model.specs.ViewTexts.{text_of_view}
use Rattle.smk_session.specs.Sessions.{workbook_of}
use Rattle.smk_top.specs.Counting.{text_counted}
use Rattle.smk_top.proofs.reporting.write_views.Given as goal

abbrev pub invariant-loop-number : goal.invariant-loop-number
invariant-loop-number g l = record {
  written : Appends (g.O.Sink.written l.initial.out) (g.O.Sink.written l.out) (flat_map (text_of_view (workbook_of l.session)) (take l.number (catalog_image l.session.catalog).views));
  counted : l.counts ≡ text_counted (flat_map (text_of_view (workbook_of l.session)) (take l.number (catalog_image l.session.catalog).views));
  later : g.O.Sink.faults l.initial.out ≤ g.O.Sink.faults l.out;
}
