use Rattle.smk_typing.proofs.book.statements.stmt_after.Goals as goal

pub returns-in-Back : goal.returns-in-Back
returns-in-Back c = rw c.in-Back.is c.back_after.ensures

pub returns-in-Fwd : goal.returns-in-Fwd
returns-in-Fwd c = rw c.in-Fwd.is c.fwd_after.ensures
