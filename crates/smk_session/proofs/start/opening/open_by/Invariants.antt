use Rattle.std.proofs.Common.{◌≡◌, ◌≤◌, ◌+◌, ◌++◌, All, map, take}
use Rattle.std.specs.List.{sum_by}
use Rattle.smk_base.specs.Places.{upto}
use Rattle.smk_model.specs.{Looks.looks_of_view, Opening.{first_some, view_fault}}
use Rattle.smk_session.specs.{Openings.{CanOpen, faults_of, views_of}, Opened.{opened, workbook_image}}
use Rattle.smk_session.proofs.start.opening.open_by.Given as goal

abbrev pub invariant-loop-v : goal.invariant-loop-v
invariant-loop-v g l = record {
  views : l.views.items ++ map (opened (workbook_image l.book l.tables)) (views_of l.waiting.items) ≡ map (opened (workbook_image l.book l.tables)) (upto l.v);
  none : first_some (view_fault (workbook_image l.book l.tables)) (upto l.v) ≡ faults_of (workbook_image l.book l.tables) l.waiting.items;
  stocked : All (CanOpen l.book l.tables) l.waiting.items;
  looks : l.steps ≤ l.initial.steps + sum_by (looks_of_view (workbook_image l.book l.tables)) (take l.v (workbook_image l.book l.tables).catalog.views);
}
