use Rattle.std.proofs.Common.{◌∙◌, sym}
use Rattle.smk_base.proofs.Recoding.{slice_get-code}
use Rattle.smk_base.proofs.rel.text_column.TextColumn.next.Goals as goal

pub returns-in-Some-clause-next : goal.returns-in-Some-clause-next
returns-in-Some-clause-next c = rw (c.in_ok-reserve.ensures.items, ← c.self.invariant.firsts) (slice_get-code _ _ _ (sym c.code_of_bytes.ensures ∙ c.in-Some.is))
