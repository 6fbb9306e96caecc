use Rattle.smk_tests.proofs.Opening.{is_shown}
use Rattle.smk_tests.proofs.opened.parsed.Goals as goal

pub returns-clause-shown : goal.returns-clause-shown
returns-clause-shown c =
    let made = c.in_ok-expand.field-0 in
    λ catalog typed. is_shown c.in-Ok.book made.book made.fds catalog c.in_ok-expand.ensures.book c.in_ok-expand.ensures.fds typed
