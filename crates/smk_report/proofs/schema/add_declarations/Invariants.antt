use Rattle.std.proofs.Common.{◌≡◌, ◌++◌, take}
use Rattle.std.specs.List.{flat_map}
use Rattle.smk_base.specs.CatalogImage.{catalog_image}
use Rattle.smk_model.specs.OwnTexts.{back_schema, fwd_schema, link_schema, fd_schema}
use Rattle.smk_report.proofs.schema.add_declarations.Given as goal

abbrev pub invariant-loop-back : goal.invariant-loop-back
invariant-loop-back l = l.text.items ≡ l.initial.text.items ++ flat_map (back_schema (catalog_image l.catalog)) (take l.back-index l.back-items)

abbrev pub invariant-loop-fwd : goal.invariant-loop-fwd
invariant-loop-fwd l = l.text.items ≡ l.initial.text.items ++ flat_map (fwd_schema (catalog_image l.catalog)) (take l.fwd-index l.fwd-items)

abbrev pub invariant-loop-link : goal.invariant-loop-link
invariant-loop-link l = l.text.items ≡ l.initial.text.items ++ flat_map (link_schema (catalog_image l.catalog)) (take l.link-index l.link-items)

abbrev pub invariant-loop-name : goal.invariant-loop-name
invariant-loop-name l = l.text.items ≡ l.initial.text.items ++ flat_map fd_schema (take l.name-index l.name-items)
