use Rattle.std.proofs.{Common.{ℕ, ℤ, List, sym}, lemmas.List.take-map}
use Rattle.smk_base.specs.declared.value.Value.TheVariants as values
use Rattle.smk_base.proofs.rel.value_column.truncate_store.Goals as goal

pub returns-in-Small-clause-cells : goal.returns-in-Small-clause-cells
returns-in-Small-clause-cells c = rw (c.truncate.ensures.items, c.in-Small.is) (sym (take-map (λ (n : ℤ). values.Int n) c.args.len c.in-Small.ints.items))

pub returns-in-Wide-clause-cells : goal.returns-in-Wide-clause-cells
returns-in-Wide-clause-cells c = rw (c.truncate-in-Wide.ensures.items, c.in-Wide.is) (sym (take-map (λ (n : ℤ). values.Int n) c.args.len c.in-Wide.ints.items))

pub returns-in-Texts-clause-cells : goal.returns-in-Texts-clause-cells
returns-in-Texts-clause-cells c = rw (c.truncate-in-Texts.ensures, c.in-Texts.is) (sym (take-map (λ (t : List ℕ). values.Text t) c.args.len c.in-Texts.texts.texts))
