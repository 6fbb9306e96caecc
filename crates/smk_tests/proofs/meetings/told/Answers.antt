use Rattle.std.proofs.Common.{sym, subst}
use Rattle.smk_base.specs.{CatalogImage.catalog_image, declared.reply.Reply.Reply}
use Rattle.smk_model.specs.{ReplyTexts.IsReplyTo, Session.State}
use Rattle.smk_model.proofs.RepliesFit.{replies_fit}
use Rattle.smk_session.specs.Sessions.{state_of}
use Rattle.smk_tests.proofs.meetings.told.Goals as goal

pub reply_text-requires : goal.reply_text-requires
reply_text-requires g c =
    rw (c.catalog.ensures.book, c.in_ok-reply.ensures.book)
    (subst (λ (r : Reply × State). IsReplyTo (catalog_image c.args.session.now.catalog) c.args.line.now r.0) (sym c.in_ok-reply.ensures.reply)
    (replies_fit (catalog_image c.args.session.now.catalog) (state_of c.args.session.now) c.args.line.now (rw c.in_ok-reply.ensures.book at c.catalog.ensures.checked)))
