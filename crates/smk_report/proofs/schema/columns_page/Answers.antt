use Rattle.std.proofs.Common.{◌∷◌, [], codes}
use Rattle.smk_report.proofs.schema.columns_page.Goals as goal

pub returns : goal.returns
returns c = c.in_ok-end.ensures c.args.front.items (codes "column" ∷ codes "kind" ∷ []) (c.in_ok-field-2.ensures c.args.front.items (codes "column" ∷ []) (c.in_ok-field.ensures c.args.front.items [] c.new-page.ensures))
