use Rattle.std.proofs.Common.{Bor, List, ℕ, ◌∙◌, ap, refl}
use Rattle.csv.specs.Records.{fields_of}
use Rattle.smk_table.proofs.FieldPlaces.{found_field}
use Rattle.smk_table.proofs.fields.field_at.Goals as goal

pub returns : goal.returns
returns c = ap (λ (s : Bor (List ℕ)). s.now) c.unwrap_or.ensures ∙ found_field (fields_of c.args.fields.now) c.args.place c.get.result _ c.get.ensures.value refl
