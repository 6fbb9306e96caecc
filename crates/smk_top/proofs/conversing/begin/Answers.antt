use Rattle.std.proofs.{Common.{ℕ, List, refl, ap, subst, ◌∙◌, inr, arith}, lemmas.Result.err_from_is_err_and}
use Rattle.smk_model.specs.{Conversation.opening_texts, Session.Workbook}
use Rattle.smk_model.proofs.SomeOutcome.{some_reading}
use Rattle.smk_outside.specs.Outside.{Rose}
use Rattle.smk_base.specs.declared.brush.BrushOn.{BrushOn}
use Rattle.smk_session.specs.{Opened.state_over, Sessions.{state_of, workbook_of}}
use Rattle.smk_inputs.specs.Loaded.{inputs_with, script_bytes, workbook_read}
use Rattle.smk_top.specs.{declared.starting.Started.Started, declared.talking.TalkEnd.TalkEnd, Talking.SaysFew}
use Rattle.smk_top.proofs.{TalkEndings.{reading_stops, book_read, starting_stops, starts_later, talks_over}, Endings.looks_at_nothing}
use Rattle.smk_top.proofs.conversing.begin.Goals as goal

pub returns-in_err-inputs-clause-begins : goal.returns-in_err-inputs-clause-begins
returns-in_err-inputs-clause-begins g c =
    let p = err_from_is_err_and c.from_residual.result c.from_residual.ensures.1 in
    rw (p.1, p.2) (reading_stops inputs_with script_bytes (g.F.Files.faults c.args.files.now) (g.F.Files.faults c.read_all.new.files) (Rose (g.T.Talk.faults c.args.talk.now) (g.T.Talk.faults c.args.talk.now)) c.args.book.now c.args.call.now.read_only c.args.call.now.brief (g.T.Talk.told c.args.talk.now) (g.T.Talk.told c.args.talk.now) (g.F.Files.held c.args.files.now) _ _ c.in_err-inputs.field-0.0 c.in_err-inputs.ensures.read refl refl)

pub returns-in_err-session-clause-begins : goal.returns-in_err-session-clause-begins
returns-in_err-session-clause-begins g c =
    let p = err_from_is_err_and c.from_residual-in_err-session.result c.from_residual-in_err-session.ensures.1 in
    let read = book_read inputs_with script_bytes (g.F.Files.faults c.args.files.now) (g.F.Files.faults c.read_all.new.files) (Rose 0 0) c.args.book.now c.args.call.now.read_only c.args.call.now.brief (g.T.Talk.told c.args.talk.now) (g.T.Talk.told c.args.talk.now) (g.F.Files.held c.args.files.now) c.in_ok-inputs.inputs c.in_ok-inputs.ensures.read in
    rw (p.1, p.2) (starting_stops inputs_with script_bytes (g.F.Files.faults c.args.files.now) (g.F.Files.faults c.only_regular.new.self) (Rose (g.T.Talk.faults c.args.talk.now) (g.T.Talk.faults c.args.talk.now)) c.args.book.now c.args.call.now.read_only c.args.call.now.brief (g.T.Talk.told c.args.talk.now) (g.T.Talk.told c.args.talk.now) Started (g.F.Files.held c.args.files.now) c.in_ok-inputs.inputs _ _ c.in_err-session.field-0.0 read
    c.in_err-session.ensures.starts refl c.in_err-session.ensures.looks)

pub returns-in_err-hold-clause-begins : goal.returns-in_err-hold-clause-begins
returns-in_err-hold-clause-begins g c =
    let p = err_from_is_err_and c.from_residual-in_err-hold.result c.from_residual-in_err-hold.ensures.1 in
    let read = book_read inputs_with script_bytes (g.F.Files.faults c.args.files.now) (g.F.Files.faults c.read_all.new.files) (Rose 0 0) c.args.book.now c.args.call.now.read_only c.args.call.now.brief (g.T.Talk.told c.args.talk.now) (g.T.Talk.told c.args.talk.now) (g.F.Files.held c.args.files.now) c.in_ok-inputs.inputs c.in_ok-inputs.ensures.read in
    let given = inputs_with c.in_ok-inputs.inputs (some_reading (script_bytes c.in_ok-inputs.inputs)).0 in
    let brief = c.args.call.now.brief in
    let same = ap (λ (b : Workbook). opening_texts brief b c.in_ok-session.field-0.fds) c.in_ok-session.ensures.book ∙ ap (opening_texts brief given.book) c.in_ok-session.ensures.fds in
    let few = subst (λ (texts : List (List ℕ)). SaysFew texts (g.T.Talk.told c.args.talk.now) (g.T.Talk.told c.hold.new.talk)) same c.in_err-hold.ensures.few.0 in
    rw (p.1, p.2) (inr (record { given = given; reads = read; fine = c.in_ok-session.ensures.starts; few = few; looks = omega (arith, c.in_err-hold.ensures.few.1, c.in_ok-session.ensures.looks) }))

pub returns-clause-begins : goal.returns-clause-begins
returns-clause-begins g c =
    let read = book_read inputs_with script_bytes (g.F.Files.faults c.args.files.now) (g.F.Files.faults c.read_all.new.files) (Rose 0 0) c.args.book.now c.args.call.now.read_only c.args.call.now.brief (g.T.Talk.told c.args.talk.now) (g.T.Talk.told c.args.talk.now) (g.F.Files.held c.args.files.now) c.in_ok-inputs.inputs c.in_ok-inputs.ensures.read in
    let session = c.in_ok-session.field-0.session in
    talks_over (g.F.Files.held c.args.files.now) (g.F.Files.held c.only_regular.new.self) (g.F.Files.faults c.args.files.now) (g.F.Files.faults c.only_regular.new.self) (g.F.Files.faults c.hold.new.files)
    (Rose (g.T.Talk.faults c.args.talk.now) (g.T.Talk.faults c.hold.new.talk)) c.args.book.now c.args.call.now.read_only c.args.call.now.brief (g.T.Talk.told c.args.talk.now) (g.T.Talk.told c.hold.new.talk) c.args.steps.now c.start.new.steps c.hold.new.steps _
    (inputs_with c.in_ok-inputs.inputs (some_reading (script_bytes c.in_ok-inputs.inputs)).0) (workbook_of session) (state_of session) c.in_ok-session.field-0.fds
    (c.only_regular.ensures.held ∙ c.in_ok-inputs.ensures.held) (omega (arith, c.in_ok-inputs.ensures.later, c.only_regular.ensures.faults)) c.in_ok-hold.ensures.later
    read c.in_ok-session.ensures.starts c.in_ok-session.ensures.book c.in_ok-session.ensures.fds
    (ap (λ (b : List BrushOn). state_over session.tables b) c.in_ok-session.ensures.begun)
    c.in_ok-session.ensures.looks c.in_ok-hold.ensures.talked

pub returns-in_err-inputs-clause-no_look : goal.returns-in_err-inputs-clause-no_look
returns-in_err-inputs-clause-no_look g c =
    let p = err_from_is_err_and c.from_residual.result c.from_residual.ensures.1 in
    rw (p.1, p.2) (looks_at_nothing TalkEnd c.in_err-inputs.field-0.0 _)

pub returns-in_err-session-clause-no_look : goal.returns-in_err-session-clause-no_look
returns-in_err-session-clause-no_look g c =
    let p = err_from_is_err_and c.from_residual-in_err-session.result c.from_residual-in_err-session.ensures.1 in
    rw (p.1, p.2) (starts_later Started TalkEnd (workbook_read c.in_ok-inputs.inputs) _ _ c.in_err-session.field-0.0 c.in_err-session.ensures.starts)
