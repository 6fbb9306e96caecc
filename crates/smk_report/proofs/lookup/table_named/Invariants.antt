use Rattle.std.proofs.Common.{◌≡◌, drop, find, nat_eq}
use Rattle.std.specs.Cmp.Lexicographic.{pointwise}
use Rattle.smk_base.specs.CatalogImage.{catalog_image}
use Rattle.smk_model.specs.ReplyTexts.{table_named}
use Rattle.smk_report.proofs.lookup.table_named.Given as goal

abbrev pub invariant-loop-table : goal.invariant-loop-table
invariant-loop-table l = table_named (catalog_image l.catalog) l.name ≡ find (λ table. pointwise nat_eq table.name l.name) (drop l.table-index l.table-items)
