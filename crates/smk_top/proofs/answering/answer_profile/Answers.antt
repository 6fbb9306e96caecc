use Rattle.smk_base.specs.CatalogImage.{catalog_image}
use Rattle.smk_session.specs.Sessions.{state_of}
use Rattle.smk_model.proofs.ProfilesFit.{profiles_fit}
use Rattle.smk_top.proofs.answering.answer_profile.Goals as goal

pub profile_text-requires : goal.profile_text-requires
profile_text-requires g c =
    rw (c.catalog.ensures.book, c.in_ok-reply.ensures.same, c.in_ok-reply.ensures.reply)
    (profiles_fit (catalog_image c.args.session.now.catalog) (state_of c.args.session.now) c.args.fds.now c.args.view.now c.requires)
