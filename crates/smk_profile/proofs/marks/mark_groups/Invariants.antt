use Rattle.std.proofs.Common.{◌≡◌}
use Rattle.smk_base.specs.CatalogImage.{catalog_image}
use Rattle.smk_model.specs.{Profiles.shown_by, Typing.info_at}
use Rattle.smk_session.specs.Sessions.{state_of}
use Rattle.smk_profile.specs.Marked.{IsMarkLine}
use Rattle.smk_profile.proofs.Marked.{Marked, wanted}
use Rattle.smk_profile.proofs.marks.mark_groups.Given as goal

abbrev pub invariant-loop-mark : goal.invariant-loop-mark
invariant-loop-mark g l = record {
  same : l.session ≡ l.initial.session;
  asks : IsMarkLine l.view (info_at l.initial.session.catalog.tables (shown_by (catalog_image l.initial.session.catalog) l.v).table).name l.line;
  made : Marked (wanted (catalog_image l.initial.session.catalog) (state_of l.initial.session) l.v) l.mark l.groups l.initial.steps l.steps;
}
