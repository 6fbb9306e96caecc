use Rattle.std.proofs.Common.{◌≡◌, ◌≤◌, ◌+◌, map, None}
use Rattle.std.specs.List.{sum_by}
use Rattle.smk_base.specs.Places.{upto}
use Rattle.smk_model.specs.Opening.{first_some}
use Rattle.smk_grow.specs.{Renewals.book_of, Renewed.{fresh_view, scan_fault, looks_again}}
use Rattle.smk_grow.proofs.views.each_fresh.Given as goal

abbrev pub invariant-loop-v : goal.invariant-loop-v
invariant-loop-v g l = record {
  views : l.views.items ≡ map (fresh_view l.renewal.table (book_of l.renewal)) (upto l.v);
  none : first_some (scan_fault l.renewal.table (book_of l.renewal)) (upto l.v) ≡ None;
  looks : l.steps ≤ l.initial.steps + sum_by (looks_again l.renewal.table (book_of l.renewal)) (upto l.v);
}
