use Rattle.std.proofs.Common.{Err, refl, ap, arith}
use Rattle.smk_outside.proofs.Telling.{Rose-after}
use Rattle.smk_top.proofs.{TalkLines.{too_long, forgone_before}, TalkStretches.{turn_taken, no_line, no_hearing}}
use Rattle.smk_session.specs.Sessions.{state_of}
use Rattle.smk_top.proofs.talking.take_turn.Goals as goal

pub returns-in-Ok-Line-clause-taken : goal.returns-in-Ok-Line-clause-taken
returns-in-Ok-Line-clause-taken g c =
    let heard = rw c.in-Ok-Line.field-0-is at c.in-Ok-Line.ensures.gives in
    let answer = rw c.as_slice.ensures.value at c.answer_bytes-session.ensures.answer in
    let gives = rw c.as_slice-in-Ok-Line.ensures at c.say_block-ending.ensures.gives in
    turn_taken _ _ _ _ _ _ _ _ _ _ _ _ _ _ _ _ _ c.say_block-ending.result c.answer_bytes-session.ensures.later answer heard.0 (Rose-after _ _ _ c.hear.ensures.later) gives

pub returns-in-Ok-Long-clause-taken : goal.returns-in-Ok-Long-clause-taken
returns-in-Ok-Long-clause-taken g c =
    let (line, heard, long) = rw c.in-Ok-Long.field-0-is at c.in-Ok-Long.ensures.gives in
    rw (c.say_ready.ensures.session, c.say_ready.ensures.down) (turn_taken _ _ _ _ _ _ _ _ _ _ _ _ _ _ _ _ _ c.say_ready.result.ending (omega arith)
    (too_long _ _ _ _ _ line (state_of c.args.stand.session) _ _ _ _ long refl refl refl refl)
    heard (Rose-after _ _ _ c.hear.ensures.later) c.say_ready.ensures.gives)

pub returns-in-Ok-End-clause-taken : goal.returns-in-Ok-End-clause-taken
returns-in-Ok-End-clause-taken g c =
    let ends = rw c.in-Ok-End.field-0-is at c.in-Ok-End.ensures.gives in
    no_line _ _ _ _ _ _ _ _ _ _ ends.0 ends.1 refl

pub returns-in-Err-NoMemory-clause-taken : goal.returns-in-Err-NoMemory-clause-taken
returns-in-Err-NoMemory-clause-taken g c =
    let (line, heard) = rw c.in-Err-NoMemory.field-0-is at c.in-Err-NoMemory.ensures.gives in
    rw (c.say_ready-in-Err-NoMemory.ensures.session, c.say_ready-in-Err-NoMemory.ensures.down) (turn_taken _ _ _ _ _ _ _ _ _ _ _ _ _ _ _ _ _ c.say_ready-in-Err-NoMemory.result.ending (omega arith)
    (forgone_before _ _ _ _ _ line (state_of c.args.stand.session) _ _ _ _ refl refl refl refl)
    heard (Rose-after _ _ _ c.hear.ensures.later) c.say_ready-in-Err-NoMemory.ensures.gives)

pub returns-in-Err-Failed-clause-taken : goal.returns-in-Err-Failed-clause-taken
returns-in-Err-Failed-clause-taken g c =
    let none = rw c.in-Err-Failed.field-0-is at c.in-Err-Failed.ensures.gives in
    no_hearing _ _ _ _ _ _ _ _ _ _ none (c.in-Err-Failed.ensures.cause (ap Err c.in-Err-Failed.field-0-is)) refl
