use Rattle.std.proofs.Common.{◌≡◌, length, map}
use Rattle.smk_base.specs.{CatalogImage.catalog_image, Places.upto}
use Rattle.smk_model.specs.Session.{first_content}
use Rattle.smk_session.specs.Sessions.{state_of}
use Rattle.smk_own.proofs.schemas.view_rows.Given as goal

abbrev pub invariant-loop-v : goal.invariant-loop-v
invariant-loop-v l = l.counts.items ≡ map (λ v. length (first_content (catalog_image l.session.catalog) (state_of l.session) v)) (upto l.v)
