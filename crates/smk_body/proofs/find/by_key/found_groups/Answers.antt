use Rattle.std.proofs.Common.{rules}
use Rattle.smk_body.proofs.find.by_key.found_groups.Goals as goal

pub all_classes-requires-clause-parts : goal.all_classes-requires-clause-parts
all_classes-requires-clause-parts g c κs within = rw (c.as_slice.ensures.value, ← c.len-rows.ensures.count) (c.in_ok-parts.ensures.0, λ p d below. let so = c.in_ok-parts.ensures.1 p d below in search rules)
