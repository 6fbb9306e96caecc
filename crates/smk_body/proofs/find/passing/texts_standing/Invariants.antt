use Rattle.std.proofs.Common.{◌≡◌, map, take}
use Rattle.smk_base.specs.Cells.{value_of_cell}
use Rattle.smk_base.specs.declared.value.Value.TheVariants as values
use Rattle.smk_model.specs.Values.{holds, value_cmp}
use Rattle.smk_body.proofs.find.passing.texts_standing.Given as goal

abbrev pub invariant-loop-code : goal.invariant-loop-code
invariant-loop-code l = l.standing.items ≡ map (λ text. holds l.op (value_cmp (values.Text text) (value_of_cell l.value))) (take l.code l.dict.texts)
