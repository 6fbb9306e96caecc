use Rattle.std.proofs.Common.{refl, sym, ◌∙◌}
use Rattle.smk_top.proofs.TalkLines.{forgone_before}
use Rattle.smk_top.proofs.talking.answer_bytes.Goals as goal

pub returns-in-Ok-clause-answer : goal.returns-in-Ok-clause-answer
returns-in-Ok-clause-answer g c =
    let dotted = rw c.text_heard-text.ensures at c.if-is_own.ensures in
    c.answer_own.ensures.answer _ _ _ _ c.args.bytes.now c.requires.short (sym dotted) (rw c.text_heard-text.ensures at c.in-Ok.ensures.says)

pub returns-in-Err-clause-answer : goal.returns-in-Err-clause-answer
returns-in-Err-clause-answer g c = forgone_before _ _ _ _ _ _ _ _ _ _ _ refl c.refusal.ensures.words c.refusal.ensures.down refl

pub returns-in-Ok-reading_of-clause-answer : goal.returns-in-Ok-reading_of-clause-answer
returns-in-Ok-reading_of-clause-answer g c =
    let plain = rw c.text_heard-text.ensures at c.is_own.ensures in
    c.answer_reading.ensures.answer c.args.bytes.now c.requires.short (sym plain ∙ c.if-is_own.false) (rw c.text_heard-text.ensures at c.in-Ok-reading_of.ensures.says)

pub returns-in-Err-reading_of-clause-answer : goal.returns-in-Err-reading_of-clause-answer
returns-in-Err-reading_of-clause-answer g c = forgone_before _ _ _ _ _ _ _ _ _ _ _ refl c.refusal-in-Err-reading_of.ensures.words c.refusal-in-Err-reading_of.ensures.down refl
