use Rattle.std.proofs.Common.{ℕ, refl, slice_index_or}
use Rattle.smk_report.proofs.Parts.{text_more}
use Rattle.smk_profile.proofs.Counts.{mark_line}
use Rattle.smk_profile.proofs.brief.counts_text.Goals as goal

pub loop-mark-preserved : goal.loop-mark-preserved
loop-mark-preserved c = text_more _ _ _ (λ (mark : ℕ). mark_line mark (slice_index_or c.args.counts.now mark 0)) c.loop-mark.mark _ c.loop-mark.invariant c.in_ok-add_mark.ensures refl
