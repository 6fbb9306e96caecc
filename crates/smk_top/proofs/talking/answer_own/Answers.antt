use Rattle.std.proofs.Common.{refl, ap, ◌∙◌, arith}
use Rattle.smk_model.specs.OwnLines as owns
use Rattle.smk_own.specs.Image.{own_image}
use Rattle.smk_session.specs.Sessions.{SessionImage, state_of}
use Rattle.smk_top.proofs.TalkLines.{owned, own_forgone, refused_down}
use Rattle.smk_top.proofs.talking.answer_own.Goals as goal

pub returns-in-Ok-clause-answer : goal.returns-in-Ok-clause-answer
returns-in-Ok-clause-answer g c held read_only before after bytes short dotted reads =
    let told = rw c.in-Ok.is at c.tell_own-session.ensures.told in
    owned _ _ _ _ _ _ (owns.Owns (own_image c.in-Owns.own)) _ _ _ _ _ short dotted (rw c.in-Owns.is at reads) (rw c.in-Ok.is at c.tell_own-session.ensures.after) told.text (told.refused ∙ refused_down _) c.tell_own-session.ensures.looks

pub returns-in-Err-clause-answer : goal.returns-in-Err-clause-answer
returns-in-Err-clause-answer g c held read_only before after bytes short dotted reads =
    own_forgone _ _ _ _ _ _ (owns.Owns (own_image c.in-Owns.own)) _ _ _ _ _ dotted (rw c.in-Owns.is at reads) (ap (λ (s : SessionImage). state_of s) (rw c.in-Err.is at c.tell_own-session.ensures.kept)) c.refusal.ensures.words c.refusal.ensures.down c.tell_own-session.ensures.looks

pub returns-in-Ok-unread_line-clause-answer : goal.returns-in-Ok-unread_line-clause-answer
returns-in-Ok-unread_line-clause-answer g c held read_only before after bytes short dotted reads =
    owned _ _ _ _ _ _ (owns.Misses c.in-Misses.at) _ _ _ _ _ short dotted (rw c.in-Misses.is at reads) refl c.in-Ok-unread_line.ensures.text refl (omega arith)

pub returns-in-Err-unread_line-clause-answer : goal.returns-in-Err-unread_line-clause-answer
returns-in-Err-unread_line-clause-answer g c held read_only before after bytes short dotted reads =
    own_forgone _ _ _ _ _ _ (owns.Misses c.in-Misses.at) _ _ _ _ _ dotted (rw c.in-Misses.is at reads) refl c.refusal-in-Err-unread_line.ensures.words c.refusal-in-Err-unread_line.ensures.down (omega arith)
