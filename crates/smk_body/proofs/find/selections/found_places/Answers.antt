use Rattle.std.proofs.Common.{rules}
use Rattle.smk_body.proofs.find.selections.found_places.Goals as goal

pub one_behind_other-requires-clause-made : goal.one_behind_other-requires-clause-made
one_behind_other-requires-clause-made g c = rw (c.as_slice.ensures.value, ← c.len-rows.ensures.count) (c.in_ok-parts.ensures.0, λ p d below. let so = c.in_ok-parts.ensures.1 p d below in search rules)
