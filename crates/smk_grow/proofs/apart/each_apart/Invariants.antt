use Rattle.std.proofs.Common.{◌≡◌, ◌≤◌, ◌+◌, map, length}
use Rattle.std.specs.List.{sum_by}
use Rattle.smk_base.specs.{CatalogImage.catalog_image, Places.upto}
use Rattle.smk_grow.specs.{Grown.rows_of, Renewals.book_of, Renewed.{apart_view, looks_apart}}
use Rattle.smk_grow.proofs.apart.each_apart.Given as goal

abbrev pub invariant-loop-v : goal.invariant-loop-v
invariant-loop-v g l = record {
  views : l.views.items ≡ map (apart_view l.renewal.table (book_of l.renewal)) (upto l.v);
  looks : l.steps ≤ l.initial.steps + sum_by (looks_apart l.renewal.table (catalog_image l.renewal.book.now) (length (rows_of l.renewal.tables.now l.renewal.table))) (upto l.v);
}
