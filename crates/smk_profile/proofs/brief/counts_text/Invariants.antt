use Rattle.std.proofs.Common.{◌≡◌, ◌++◌, slice_index_or}
use Rattle.std.specs.List.{flat_map}
use Rattle.smk_model.specs.Lineage.{upto}
use Rattle.smk_profile.proofs.Counts.{mark_line}
use Rattle.smk_profile.proofs.brief.counts_text.Given as goal

abbrev pub invariant-loop-mark : goal.invariant-loop-mark
invariant-loop-mark l = l.text.items ≡ l.initial.text.items ++ flat_map (λ mark. mark_line mark (slice_index_or l.counts mark 0)) (upto l.mark)
