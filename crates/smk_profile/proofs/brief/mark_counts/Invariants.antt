use Rattle.std.proofs.Common.{◌≡◌, take}
use Rattle.smk_base.specs.CatalogImage.{catalog_image}
use Rattle.smk_session.specs.Sessions.{state_of}
use Rattle.smk_profile.proofs.Counts.{sizes}
use Rattle.smk_profile.proofs.brief.mark_counts.Given as goal

abbrev pub invariant-loop-mark : goal.invariant-loop-mark
invariant-loop-mark l = l.counts ≡ take l.mark (sizes (catalog_image l.session.catalog) (state_of l.session) l.v)
