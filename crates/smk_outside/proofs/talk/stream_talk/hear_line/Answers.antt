use Rattle.std.proofs.Common.{◌+◌, ◌≤◌, length, arith}
use Rattle.smk_outside.proofs.Reading.{heard_whole, heard_long, heard_without_memory}
use Rattle.smk_outside.proofs.talk.stream_talk.hear_line.Goals as goal

pub returns-in-Ok-true-clause-bytes : goal.returns-in-Ok-true-clause-bytes
returns-in-Ok-true-clause-bytes g c =
    let taken = rw c.in-Ok-true.field-0-test at c.in-Ok-true.ensures in
    heard_whole _ c.saturating_add.result _ _ _ _ taken c.heard.ensures

pub returns-in-Ok-clause-bytes : goal.returns-in-Ok-clause-bytes
returns-in-Ok-clause-bytes g c =
    let taken = rw c.in-Ok-false.field-0-test at c.in-Ok-false.ensures in
    let line = c.take_front.new.line in
    let long : c.args.limit + 2 ≤ length line.items = omega (arith, taken.1, c.saturating_add.ensures, line.small, line.ok) in
    heard_long _ c.saturating_add.result _ _ _ line.items long taken c.in-Ok.ensures.rest

pub returns-in-Ok-skip_until-clause-bytes : goal.returns-in-Ok-skip_until-clause-bytes
returns-in-Ok-skip_until-clause-bytes g c =
    let taken = rw c.in-Err-NoMemory.field-0-is at c.in-Err-NoMemory.ensures in
    heard_without_memory c.args.limit _ _ _ _ taken c.in-Ok-skip_until.ensures.rest
