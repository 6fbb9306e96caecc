use Rattle.std.proofs.Common.{◌∙◌, ap}
use Rattle.smk_base.specs.{CatalogImage.catalog_image, declared.reply.Reply.Reply}
use Rattle.smk_model.specs.{Replies.is_refused, Session.State}
use Rattle.smk_session.specs.Sessions.{state_of}
use Rattle.smk_top.proofs.ReplyFits.{told_fits, told_text}
use Rattle.smk_top.proofs.answering.answer_plain.Goals as goal

pub reply_text_in_pieces-requires-clause-reply : goal.reply_text_in_pieces-requires-clause-reply
reply_text_in_pieces-requires-clause-reply g c = λ _ _.
    rw c.catalog.ensures.book
    (told_fits (catalog_image c.args.session.now.catalog) (state_of c.args.session.now) _ c.args.line.now c.in_ok-turn.turn.reply c.catalog.ensures.checked c.in_ok-turn.ensures.reply)

pub returns-clause-told : goal.returns-clause-told
returns-clause-told g c = record {
  text =
      c.in_ok-text.ensures
      ∙ told_text c.catalog.result.now c.args.session.now.catalog (state_of c.args.session.now) _ c.args.line.now c.in_ok-turn.turn.reply c.catalog.ensures.book c.in_ok-turn.ensures.reply;
  refused = c.has_refused-refused.ensures ∙ ap is_refused c.take-reply.ensures.reply ∙ ap (λ (r : Reply × State). is_refused r.0) c.in_ok-turn.ensures.reply;
}

pub returns-clause-after : goal.returns-clause-after
returns-clause-after g c = c.take-reply.ensures.state ∙ ap (λ (r : Reply × State). r.1) c.in_ok-turn.ensures.reply
