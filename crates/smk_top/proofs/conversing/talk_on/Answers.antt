use Rattle.std.proofs.Common.{arith}
use Rattle.smk_outside.specs.Outside.{Rose}
use Rattle.smk_inputs.specs.Image.{settings_image}
use Rattle.smk_top.proofs.TalkEndings.{asked_by, files_talk, demo_talks}
use Rattle.smk_top.proofs.conversing.talk_on.Goals as goal

pub returns-in-Files-clause-works : goal.returns-in-Files-clause-works
returns-in-Files-clause-works g c words called =
    let call = c.args.call.now in
    let asked = asked_by words call _ c.in-Files.is called in
    files_talk words (settings_image call.settings) call.read_only call.brief _ _ asked (g.F.Files.held c.args.files.now) (g.F.Files.faults c.args.files.now) (g.F.Files.faults c.begin.new.files) (Rose (g.T.Talk.faults c.args.talk.now) (g.T.Talk.faults c.begin.new.talk)) (g.T.Talk.told c.args.talk.now) (g.T.Talk.told c.begin.new.talk) _ _ c.begin.result c.begin.ensures.begins

pub returns-in_ok-book-in-Demo-clause-works : goal.returns-in_ok-book-in-Demo-clause-works
returns-in_ok-book-in-Demo-clause-works g c words called =
    let call = c.args.call.now in
    let asked = asked_by words call _ c.in-Demo.is called in
    let begins = rw (c.in_ok-demo-in-Demo.ensures, c.in_ok-book-in-Demo.ensures) at c.begin-in-Demo.ensures.begins in
    demo_talks words (settings_image call.settings) call.read_only call.brief c.in-Demo.flights.count asked (g.F.Files.held c.args.files.now) (g.F.Files.faults c.args.files.now) (g.F.Files.faults c.args.files.now) (omega arith) (Rose (g.T.Talk.faults c.args.talk.now) (g.T.Talk.faults c.begin-in-Demo.new.talk)) (g.T.Talk.told c.args.talk.now) (g.T.Talk.told c.begin-in-Demo.new.talk) _ _ c.begin-in-Demo.result begins
