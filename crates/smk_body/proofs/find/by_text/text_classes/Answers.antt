use Rattle.std.proofs.Common.{rules}
use Rattle.smk_body.proofs.find.by_text.text_classes.Goals as goal

pub classes_by_rises-requires-clause-parts : goal.classes_by_rises-requires-clause-parts
classes_by_rises-requires-clause-parts g c = rw (c.as_slice.ensures.value, ← c.len-rows.ensures.count, ← c.codes-codes.ensures.codes) (c.in_ok-parts.ensures.0, λ p d below. let so = c.in_ok-parts.ensures.1 p d below in search rules)
