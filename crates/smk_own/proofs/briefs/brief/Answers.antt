use Rattle.std.proofs.Common.{sym, ◌∙◌, ap}
use Rattle.smk_base.specs.{CatalogImage.catalog_image, declared.book.catalog.Catalog.Catalog}
use Rattle.smk_model.specs.{OwnTexts.{brief_text, unlisted}, Replies.{is_refused, reply}}
use Rattle.smk_model.proofs.RepliesFit.{replies_fit}
use Rattle.smk_session.specs.Sessions.{state_of}
use Rattle.smk_own.proofs.Unlisted.{unlisted_fits, unlisted_twice, unlisted_refused}
use Rattle.smk_own.proofs.briefs.brief.Goals as goal

pub brief_text-requires : goal.brief_text-requires
brief_text-requires g c =
    let catalog = catalog_image c.args.session.now.catalog in
    let state = state_of c.args.session.now in
    rw (c.catalog.ensures.book, c.in_ok-turn.ensures.told.reply) (unlisted_fits catalog c.args.line.now (reply catalog state c.args.line.now).0 (replies_fit catalog state c.args.line.now c.catalog.ensures.checked))

pub returns-clause-told : goal.returns-clause-told
returns-clause-told g c =
    let whole = (reply (catalog_image c.args.session.now.catalog) (state_of c.args.session.now) c.args.line.now).0 in
    let told = c.in_ok-turn.ensures.told in
    record {
      text = c.in_ok-text.ensures whole (sym (ap unlisted told.reply ∙ unlisted_twice whole)) (sym told.count) ∙ ap (λ (book : Catalog). brief_text (catalog_image book) c.args.line.now whole) c.catalog.ensures.book;
      refused = c.has_refused-refused.ensures ∙ ap is_refused (c.take-reply.ensures.reply ∙ told.reply) ∙ unlisted_refused whole;
    }
