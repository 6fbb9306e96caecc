-- How a conversation may end: its status, what was heard and said, and what it has appended to `err`.
use Rattle.std.specs.Prelude.{◌≡◌, ◌⊎◌, ◌≤◌, ◌+◌, ⊤, ℕ, Bool, cond, List, [], Option, Some, None, Result, Ok, Err}
use Rattle.smk_base.specs.declared.fault.Fault.{Fault}
use Rattle.smk_model.specs.{Conversation.{TalkTurn, TalkState, FitsTalk, first_talk_state, opening_block, opening_texts, talk_report, turns_told}, Looks.start_looks, Opening.first_view_fault, Outcome.{Held, Inputs, ReadsFiles, NamesAsked, UntoldCause, WhereTold}, Reports.{BookSaid, Report, is_turned_down}, Texts.no_memory_text, TalkStarts.{ReadsTalk, started, HasTalkCause, IsTalkStart, FailedReads, line_files, misreads, TalkBrings, talk_fault_text, unheard_text}, TalkWords.{TalkCall, talk_call_of, talk_source}}
use Rattle.smk_outside.specs.{Conversing.Conversation, Outside.{IsPrefix, Rose, Appends}, Saying.Says, Told.Told, declared.talk.ending.Ending.Ending, declared.talk.ending.Ending.TheVariants.{Ended, Unheard, Unsaid, Outlasted}}
use Rattle.smk_inputs.specs.{Image.talk_image, declared.called.TalkWords.TalkWords, declared.stop.Stop.Stop, declared.stop.Stop.TheVariants.{At, Unwritten, Exhausted}}
use Rattle.smk_top.specs.{Endings.SaysMemory, Looking.LooksBehind, Statuses.{status_of_report, status_of_fault}, Talking.{talk_rules, SaysFew, Talked}, declared.talking.TalkEnd.TalkEnd, declared.status.Status.Status, declared.status.Status.TheVariants.{Done, DoneWithRefusals, ReadFault, WriteFault, NoMemory}}

-- the book of a conversation, with the names of its dependencies
abbrev pub said_by : Inputs → BookSaid
said_by given = record { catalog = given.book.catalog; fds = given.fds }

-- A conversation of these words over these files. First the text of each view is said, or the schema if asked for, and then an empty line. Each line is then heard, and answered before the next one is heard.
-- Each turn fits the state after the turns before it, also after lines that were refused or for which memory ran out. At most as many lines are refused for failed reads as the count of faults shows.
-- There are at most the looks of the start and those of the lines.
pub record Converses (words : List (List ℕ)) (held : Option Held) (files_before files_after : ℕ) (talk_rose : Type 0) (before after : Told) (looks_before looks_after : ℕ) (ending : Ending) : Type 0 where
  pub call : TalkCall
  pub asked : talk_call_of words ≡ Some call
  pub given : Inputs
  pub starts : IsTalkStart words held given
  pub last : TalkState
  pub talked : Conversation (talk_rules (said_by given)) (FitsTalk call.read_only given.book.catalog (TalkBrings call.texts held (Rose files_before files_after))) (opening_block call.brief given.book given.fds) (first_talk_state given.book) last before after talk_rose ending
  pub misread : FailedReads (misreads (line_files call.texts held) talked.talk.turns) files_before files_after
  pub looks : looks_after ≤ looks_before + start_looks given.book + (turns_told (said_by given) (first_talk_state given.book) talked.talk.turns).looks

-- the turns of a conversation, and its report
abbrev pub turns_of : {words : List (List ℕ)} {held : Option Held} {files_before files_after : ℕ} {talk_rose : Type 0} {before after : Told} {looks_before looks_after : ℕ} {ending : Ending} → Converses words held files_before files_after talk_rose before after looks_before looks_after ending → List TalkTurn
turns_of talk = talk.talked.talk.turns

abbrev pub report_by : {words : List (List ℕ)} {held : Option Held} {files_before files_after : ℕ} {talk_rose : Type 0} {before after : Told} {looks_before looks_after : ℕ} {ending : Ending} → Converses words held files_before files_after talk_rose before after looks_before looks_after ending → Report
report_by talk = talk_report talk.given.book talk.given.fds (turns_of talk)

-- nothing was heard or said, and there are at most the looks of a start with what was read
abbrev pub IsTalkRead : List (List ℕ) → Option Held → Inputs → Type 0
IsTalkRead words held given = WhereTold held (talk_source words) ⊤ (λ held. ReadsTalk words held (Ok given))

pub record IsSilent (words : List (List ℕ)) (held : Option Held) (before after : Told) (looks_before looks_after : ℕ) : Type 0 where
  pub silent : Says before after []
  pub looks : (looks_after ≡ looks_before) ⊎ ((given : Inputs) × IsTalkRead words held given × (looks_after ≤ looks_before + start_looks given.book))

-- a conversation starts and says the first few texts of its opening, each whole; no line was heard, and there are at most the looks of the start
pub record IsCutShort (words : List (List ℕ)) (held : Option Held) (before after : Told) (looks_before looks_after : ℕ) : Type 0 where
  pub call : TalkCall
  pub asked : talk_call_of words ≡ Some call
  pub given : Inputs
  pub starts : IsTalkStart words held given
  pub few : SaysFew (opening_texts call.brief given.book given.fds) before after
  pub looks : looks_after ≤ looks_before + start_looks given.book

-- memory ran out before the first line: nothing was said, or the first few texts
abbrev pub IsUnopened : List (List ℕ) → Option Held → Told → Told → ℕ → ℕ → Type 0
IsUnopened words held before after looks_before looks_after = IsSilent words held before after looks_before looks_after ⊎ IsCutShort words held before after looks_before looks_after

-- how a conversation may end, and what `err` says of it
pub data TalkEnds (words : List (List ℕ)) (held : Option Held) (files_before files_after : ℕ) (talk_rose err_rose : Type 0) (before after : Told) (looks_before looks_after : ℕ) : Status → List ℕ → Type 0 where
  -- no more lines come
  ended : (talk : Converses words held files_before files_after talk_rose before after looks_before looks_after Ended) → TalkEnds words held files_before files_after talk_rose err_rose before after looks_before looks_after (status_of_report (report_by talk)) []
  -- as many lines were answered as can be counted
  outlasted : (talk : Converses words held files_before files_after talk_rose before after looks_before looks_after Outlasted) → TalkEnds words held files_before files_after talk_rose err_rose before after looks_before looks_after (status_of_report (report_by talk)) []
  -- no line can be heard, since the object failed; `err` says so
  unheard : Converses words held files_before files_after talk_rose before after looks_before looks_after Unheard → TalkEnds words held files_before files_after talk_rose err_rose before after looks_before looks_after ReadFault unheard_text
  -- a text wasn't said whole, since the object failed
  unsaid : Converses words held files_before files_after talk_rose before after looks_before looks_after Unsaid → TalkEnds words held files_before files_after talk_rose err_rose before after looks_before looks_after WriteFault []
  -- a fault before the first line, which `err` says; no look was made if it is a fault of what is read
  faulted : (fault : Fault) → HasTalkCause words held (Rose files_before files_after) fault → IsSilent words held before after looks_before looks_after → LooksBehind fault looks_before looks_after
      → TalkEnds words held files_before files_after talk_rose err_rose before after looks_before looks_after (status_of_fault fault) (talk_fault_text fault)
  -- memory ran out before anything was said; `err` says so
  exhausted : IsSilent words held before after looks_before looks_after → TalkEnds words held files_before files_after talk_rose err_rose before after looks_before looks_after NoMemory no_memory_text
  -- memory ran out for the next text of the opening; `err` says so
  cut_short : IsCutShort words held before after looks_before looks_after → TalkEnds words held files_before files_after talk_rose err_rose before after looks_before looks_after NoMemory no_memory_text
  -- no line can be heard, and `err` failed while saying so
  unheard_unsaid : (part : List ℕ) → Converses words held files_before files_after talk_rose before after looks_before looks_after Unheard → IsPrefix part unheard_text → err_rose
      → TalkEnds words held files_before files_after talk_rose err_rose before after looks_before looks_after WriteFault part
  -- a fault before the first line, and `err` failed while saying it
  fault_unsaid : (fault : Fault) (part : List ℕ) → HasTalkCause words held (Rose files_before files_after) fault → IsSilent words held before after looks_before looks_after → LooksBehind fault looks_before looks_after → IsPrefix part (talk_fault_text fault) → err_rose
      → TalkEnds words held files_before files_after talk_rose err_rose before after looks_before looks_after WriteFault part
  -- memory ran out before anything was said, and `err` failed while saying so
  memory_unsaid : (part : List ℕ) → IsSilent words held before after looks_before looks_after → IsPrefix part no_memory_text → err_rose
      → TalkEnds words held files_before files_after talk_rose err_rose before after looks_before looks_after WriteFault part
  -- memory ran out for the next text of the opening, and `err` failed while saying so
  cut_unsaid : (part : List ℕ) → IsCutShort words held before after looks_before looks_after → IsPrefix part no_memory_text → err_rose
      → TalkEnds words held files_before files_after talk_rose err_rose before after looks_before looks_after WriteFault part

-- how a conversation may end, by what `err` tells of itself before and after it
abbrev pub ConverseEnds : List (List ℕ) → Option Held → ℕ → ℕ → Type 0 → Type 0 → Told → Told → ℕ → ℕ → Option (List ℕ) → Option (List ℕ) → Status → Type 0
ConverseEnds words held files_before files_after talk_rose err_rose before after looks_before looks_after err_before err_after status =
    (said : List ℕ) × Appends err_before err_after said × TalkEnds words held files_before files_after talk_rose err_rose before after looks_before looks_after status said

-- the steps of a conversation's start, and their results

-- these words ask for this
abbrev pub is_called : List (List ℕ) → TalkWords → Type 0
is_called words call = talk_call_of words ≡ Some (talk_image call)

-- what is read of the book with this name, if the files tell what they hold
abbrev pub ReadsBook : Option Held → List ℕ → Inputs → Type 0
ReadsBook (Some held) book given = ReadsFiles held book None (Ok given)
ReadsBook None book given = ⊤

-- there are at most the looks of a start with what was read
abbrev pub StartLooks : Option Held → List ℕ → ℕ → ℕ → Type 0
StartLooks held book before after = (after ≡ before) ⊎ ((given : Inputs) × ReadsBook held book given × (after ≤ before + start_looks given.book))

-- why a conversation doesn't start: what is read has a fault, or a view has one, or a read failed
abbrev pub FailsToStart : Option Held → Type 0 → List ℕ → Fault → Type 0
FailsToStart None rose book fault = UntoldCause rose fault
FailsToStart (Some held) rose book fault = (ReadsFiles held book None (Err fault) ⊎ ((given : Inputs) × ReadsFiles held book None (Ok given) × (started given ≡ Err fault))) ⊎ (rose × NamesAsked held book None fault)

-- a conversation over the book with this name
pub record TalksOver (held : Option Held) (files_before files_after : ℕ) (talk_rose : Type 0) (book : List ℕ) (read_only brief : Bool) (before after : Told) (looks_before looks_after : ℕ) (end : TalkEnd) : Type 0 where
  pub given : Inputs
  pub reads : ReadsBook held book given
  pub fine : first_view_fault given.book ≡ None
  pub talked : Talked (said_by given) read_only held files_before files_after talk_rose (opening_block brief given.book given.fds) (first_talk_state given.book) before after end.ending end.down (looks_before + start_looks given.book) looks_after

pub record Silent (held : Option Held) (book : List ℕ) (before after : Told) (looks_before looks_after : ℕ) : Type 0 where
  pub same : after ≡ before
  pub looks : StartLooks held book looks_before looks_after

-- the first few texts of its opening were said
pub record FewOver (held : Option Held) (book : List ℕ) (brief : Bool) (before after : Told) (looks_before looks_after : ℕ) : Type 0 where
  pub given : Inputs
  pub reads : ReadsBook held book given
  pub fine : first_view_fault given.book ≡ None
  pub few : SaysFew (opening_texts brief given.book given.fds) before after
  pub looks : looks_after ≤ looks_before + start_looks given.book

abbrev pub BeginsTalk : Option Held → ℕ → ℕ → Type 0 → List ℕ → Bool → Bool → Told → Told → ℕ → ℕ → Result TalkEnd Stop → Type 0
BeginsTalk held files_before files_after talk_rose book read_only brief before after looks_before looks_after (Ok end) = TalksOver held files_before files_after talk_rose book read_only brief before after looks_before looks_after end
BeginsTalk held files_before files_after talk_rose book read_only brief before after looks_before looks_after (Err (At fault)) = FailsToStart held (Rose files_before files_after) book fault × Silent held book before after looks_before looks_after
BeginsTalk held files_before files_after talk_rose book read_only brief before after looks_before looks_after (Err Unwritten) = ⊥
BeginsTalk held files_before files_after talk_rose book read_only brief before after looks_before looks_after (Err Exhausted) = Silent held book before after looks_before looks_after ⊎ FewOver held book brief before after looks_before looks_after

-- a conversation by its words
pub record TalksFor (words : List (List ℕ)) (held : Option Held) (files_before files_after : ℕ) (talk_rose : Type 0) (before after : Told) (looks_before looks_after : ℕ) (end : TalkEnd) : Type 0 where
  pub talk : Converses words held files_before files_after talk_rose before after looks_before looks_after end.ending
  pub down : end.down ≡ is_turned_down (report_by talk)

abbrev pub TalkWorks : List (List ℕ) → Option Held → ℕ → ℕ → Type 0 → Told → Told → ℕ → ℕ → Result TalkEnd Stop → Type 0
TalkWorks words held files_before files_after talk_rose before after looks_before looks_after (Ok end) = TalksFor words held files_before files_after talk_rose before after looks_before looks_after end
TalkWorks words held files_before files_after talk_rose before after looks_before looks_after (Err (At fault)) = HasTalkCause words held (Rose files_before files_after) fault × IsSilent words held before after looks_before looks_after
TalkWorks words held files_before files_after talk_rose before after looks_before looks_after (Err Unwritten) = ⊥
TalkWorks words held files_before files_after talk_rose before after looks_before looks_after (Err Exhausted) = IsUnopened words held before after looks_before looks_after

-- `err` says a text, or only a part of it since it failed
abbrev pub SaysReady : List ℕ → Status → Type 0 → Option (List ℕ) → Option (List ℕ) → Status → Type 0
SaysReady text status rose before after told =
    (said : List ℕ) × Appends before after said × (((told ≡ status) × (said ≡ text)) ⊎ ((told ≡ WriteFault) × IsPrefix said text × rose))

-- `err` says a fault of the start; or memory ran out for its line
abbrev pub SaysTalkFault : Fault → Type 0 → Option (List ℕ) → Option (List ℕ) → Status → Type 0
SaysTalkFault fault rose before after status = SaysReady (talk_fault_text fault) (status_of_fault fault) rose before after status ⊎ SaysMemory rose before after status

-- what is said of an ending, and its status
abbrev pub SaysEnding : Ending → Bool → Type 0 → Option (List ℕ) → Option (List ℕ) → Status → Type 0
SaysEnding Unheard down rose before after status = SaysReady unheard_text ReadFault rose before after status
SaysEnding Unsaid down rose before after status = Appends before after [] × (status ≡ WriteFault)
SaysEnding _ down rose before after status = Appends before after [] × (status ≡ cond down DoneWithRefusals Done)

abbrev pub SaysTalkEnd : TalkEnd → Type 0 → Option (List ℕ) → Option (List ℕ) → Status → Type 0
SaysTalkEnd end rose before after status = SaysEnding end.ending end.down rose before after status
