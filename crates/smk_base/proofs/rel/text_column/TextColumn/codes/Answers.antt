use Rattle.smk_base.proofs.Recoding.{codes-are}
use Rattle.smk_base.proofs.rel.text_column.TextColumn.codes.Goals as goal

pub returns-clause-codes : goal.returns-clause-codes
returns-clause-codes c = rw (c.as_slice.ensures.value, ← c.self.view_is) (codes-are _ _ c.self.invariant)
