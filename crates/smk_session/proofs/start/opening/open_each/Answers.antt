use Rattle.std.proofs.{Common.{◌≡◌, ◌⊎◌, None, map}, lemmas.Result.{IfOk-weaker, IfErr-weaker}}
use Rattle.std.specs.List.{AllZip}
use Rattle.smk_jobs.specs.Jobs.{FirstFault}
use Rattle.smk_compose.specs.declared.kept_maps.Run.{Run}
use Rattle.smk_session.specs.{Openings.{Opens, OpensAs, faults_of, views_of}, Opened.{IsStartFault, opened, workbook_image}, declared.start.fault.StartFault.StartFault, declared.start.fault.StartFault.TheVariants.NoMemory, declared.start.opening.Stocked.Stocked}
use Rattle.smk_session.proofs.AtOnce.{fault_among, runs_are}
use Rattle.smk_session.proofs.start.opening.open_each.Goals as goal

pub returns-clause-opened : goal.returns-clause-opened
returns-clause-opened g c =
    let book = workbook_image c.args.book.now c.args.tables.now in
    let all = c.args.all.items in
    IfOk-weaker c.each_or_first.result (λ made. AllZip (λ (s : Stocked) run. Opens book s.view run) all made.items) (λ made. made.items ≡ map (opened book) (views_of all)) (λ made zip. (runs_are book all made.items zip).0) c.each_or_first.ensures.all

pub returns-clause-none : goal.returns-clause-none
returns-clause-none g c =
    let book = workbook_image c.args.book.now c.args.tables.now in
    let all = c.args.all.items in
    IfOk-weaker c.each_or_first.result (λ made. AllZip (λ (s : Stocked) run. Opens book s.view run) all made.items) (λ made. faults_of book all ≡ None) (λ made zip. (runs_are book all made.items zip).1) c.each_or_first.ensures.all

pub returns-clause-fault : goal.returns-clause-fault
returns-clause-fault g c =
    let book = workbook_image c.args.book.now c.args.tables.now in
    let all = c.args.all.items in
    IfErr-weaker c.each_or_first.result (λ (e : StartFault). FirstFault {T = Run} (OpensAs book) all e ⊎ (e ≡ NoMemory)) (λ (e : StartFault). IsStartFault e (faults_of book all)) (fault_among book all) c.each_or_first.ensures.first
