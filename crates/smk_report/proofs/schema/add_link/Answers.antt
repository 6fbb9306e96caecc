use Rattle.std.proofs.{Common.{ℕ, codes, ◌∷◌, [], arith}, lemmas.Grind.common_steps, lemmas.Result.on_ok_weaker}
use Rattle.smk_base.specs.CatalogImage.{catalog_image}
use Rattle.smk_model.specs.{Session.view_at, Typing.info_at}
use Rattle.smk_report.proofs.Numbers.{line_ends}
use Rattle.smk_report.proofs.schema.add_link.Goals as goal

pub returns : goal.returns
returns c =
    let catalog = catalog_image c.args.catalog.now in
    let link = c.args.link.now in
    on_ok_weaker c.add_line.result (λ ended.
    line_ends (λ (w : ℕ). (view_at catalog w).name) link.to (codes "link " ∷ (view_at catalog link.view).name ∷ codes " on " ∷ (info_at catalog.tables link.table).name ∷ codes " to" ∷ []) c.args.text.now.items c.add_parts.new.text.items c.add_names.new.text.items c.add_line.new.text.items (grind (arith, common_steps)) (grind (arith, common_steps)) ended) c.add_line.ensures
