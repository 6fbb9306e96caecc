use Rattle.std.proofs.Common.{◌∙◌, Option, subst, sym}
use Rattle.smk_model.specs.Opening.{ViewFault}
use Rattle.smk_session.specs.Opened.{IsStartFault}
use Rattle.smk_grow.specs.Renewals.{book_of}
use Rattle.smk_grow.proofs.Folds.{faults_scanning}
use Rattle.smk_grow.proofs.renewing.renew.Goals as goal

pub returns-in-Ok-with_extras-clause-none : goal.returns-in-Ok-with_extras-clause-none
returns-in-Ok-with_extras-clause-none g c =
    let r = c.args.renewal.now in
    sym (faults_scanning r.table (book_of r)) ∙ c.in-Ok.ensures.none

pub returns-in-Err-clause-fault : goal.returns-in-Err-clause-fault
returns-in-Err-clause-fault g c =
    let r = c.args.renewal.now in
    subst (λ (found : Option ViewFault). IsStartFault c.in-Err.fault found) (faults_scanning r.table (book_of r)) c.in-Err.ensures.fault
