use Rattle.std.proofs.Common.{◌≡◌, ◌∙◌, ℕ, ap, sym, Ok}
use Rattle.smk_base.specs.declared.reply.Reply.TheVariants as replies
use Rattle.smk_model.specs.{Names.◌>>=◌, Replies.{Asked, content_of}}
use Rattle.smk_session.specs.Answers.{book_of, state_lent}
use Rattle.smk_session.proofs.answer.show.Goals as goal

pub returns-clause-gives : goal.returns-clause-gives
returns-clause-gives c =
    let held = c.args.held.now in
    let is : c.in_ok-rel.rel ≡ content_of (book_of held) (state_lent held) c.in_ok-v.v = c.in_ok-rel.ensures ∙ c.content.ensures in
    ap (λ (a : Asked ℕ). ◌>>=◌ a (λ v. Ok (replies.View (content_of (book_of held) (state_lent held) v)))) c.in_ok-v.ensures.gives ∙ ap (λ rel. Ok (replies.View rel)) (sym is)
