use Rattle.std.proofs.Common.{◌≡◌, ◌++◌, take}
use Rattle.std.specs.List.{flat_map}
use Rattle.smk_base.specs.CatalogImage.{catalog_image}
use Rattle.smk_model.specs.ReplyTexts.{linked_rows_text}
use Rattle.smk_report.proofs.linked.with_contents.Given as goal

abbrev pub invariant-loop-view : goal.invariant-loop-view
invariant-loop-view l = l.text.items ≡ l.initial.text.items ++ flat_map (linked_rows_text (catalog_image l.catalog)) (take l.view-index l.linked)
