-- How a conversation starts and ends, by what its steps come to.
use Rattle.std.proofs.Common.{append-nil, ◌≡◌, ◌≤◌, ◌+◌, ℕ, Bool, true, false, List, [], Option, Some, None, Result, Ok, Err, sym, ap, ◌∙◌, subst, inl, inr, length, arith}
use Rattle.std.specs.Prelude.{◌⊎◌, option_map, cond}
use Rattle.smk_base.specs.{CatalogImage.CatalogImage, declared.fault.Fault.Fault, declared.fault.Fault.TheVariants.Usage, declared.demo.TheConstants.DEMO_BOOK_NAME, declared.book.catalog.TableInfo.TableInfo}
use Rattle.smk_model.specs.{NodeFaults.{NodeFault, FullRows, FullPairs}, Conversation.{first_talk_state, opening_block, turns_told, FitsTalk}, Demo.demo_of, Looks.start_looks, Opening.{ViewFault, first_view_fault, fault_named, named_fault}, Outcome.{Held, Inputs, ReadsFiles, UntoldCause, text_named}, TalkStarts.{unusable, usable, unreadable, read, read_unless, started, HasTalkCause, IsTalkStart, BringsBy, FailedReads, misreads, line_files, TalkBrings}, TalkWords.{TalkCall, talk_call_of, talk_source}, Words.{Files, Demo, Settings}, Readings.Reading, Values.Row, Session.{Workbook, State, first_state, view_at}, Reports.is_turned_down}
use Rattle.smk_outside.specs.{Conversing.Cause, Outside.Rose, Told.{Told, Follow}, Saying.Says, declared.talk.event.Event.Event, declared.talk.ending.Ending.Ending, declared.talk.ending.Ending.TheVariants.{Ended, Unheard, Unsaid, Outlasted}}
use Rattle.smk_outside.proofs.Stretches as stretches
use Rattle.std.specs.Io.KnownBytes as known
use Rattle.smk_model.proofs.SomeOutcome.{some_reading}
use Rattle.smk_inputs.specs.{Collecting.{ReadsAll, Starts}, Image.{settings_image, talk_image, texts_image}, declared.called.RunTexts.RunTexts, declared.called.TalkWords.TalkWords, declared.stop.Stop.Stop, declared.stop.Stop.TheVariants.{At, Unwritten, Exhausted}}
use Rattle.smk_top.proofs.{TalkStretches.{fits_by, talked_within}, Endings.{never_rose, no_memory_is_no_fault}}
use Rattle.smk_top.specs.{declared.talking.TalkEnd.TalkEnd, Talking.{talk_rules, is_down, talk_at, Talked}, Endings.SaysMemory, declared.status.Status.Status, declared.status.Status.TheVariants.{Done, DoneWithRefusals, ReadFault}, TalkEndings.{ended, outlasted, unheard, unsaid, faulted, exhausted, cut_short, unheard_unsaid, fault_unsaid, memory_unsaid, cut_unsaid, TalkEnds, ConverseEnds, SaysTalkFault, SaysEnding, SaysTalkEnd, said_by, Converses, report_by, IsTalkRead, IsSilent, IsUnopened, ReadsBook, StartLooks, FailsToStart, TalksOver, Silent, BeginsTalk, TalksFor, TalkWorks}, Looking.{LooksBehind, LooksBehindReading}, Statuses.{IsReadingFault, IsStartFault, status_of_fault}}
use Rattle.smk_outside.proofs.Reading.{none_taken}

-- a fault of a view has its cause, whatever files hold
view_cause : (rose : Type 0) (catalog : CatalogImage) (found : ViewFault) → UntoldCause rose (fault_named catalog found)
view_cause rose catalog found = by found.fault
  where
    by : (fault : NodeFault) → UntoldCause rose (fault_named catalog (record { view = found.view; fault = fault }))
    by (FullRows node) = tt
    by (FullPairs node table) = tt

-- nothing was said
follow_none : (h : Option (List Event)) → Follow h h []
follow_none None = tt
follow_none (Some events) = sym (append-nil events)

appends_none : (s : Option (List ℕ)) → known.Appends s s []
appends_none None = tt
appends_none (Some bytes) = sym (append-nil bytes)

pub says_nothing : (before after : Told) → after ≡ before → Says before after []
says_nothing before after same = subst (λ t. Says before t []) (sym same) ((follow_none before.history, appends_none before.said), none_taken before.left)

demo_brings : (n : ℕ) (table : Option TableInfo) (brought : Result (List Row) Fault) → BringsBy (Some (text_named (demo_of n))) (Rose 0 0) table brought → BringsBy (Some (text_named (demo_of n))) ⊥ table brought
demo_brings n table brought (inl is) = inl is
demo_brings n table brought (inr (up, unread)) = absurd (never_rose up)

-- where no read can fail, none is shown to have failed
none_failed : (n faults faults_after : ℕ) → faults ≤ faults_after → FailedReads n 0 0 → FailedReads n faults faults_after
none_failed n faults faults_after later (inl none) = inl (omega (arith, later, none))
none_failed n faults faults_after later (inr last) = absurd (omega (arith, last))

-- what a conversation gives, by the words that call for it
module _ (words : List (List ℕ)) (call : TalkCall) (asked : talk_call_of words ≡ Some call) (held : Option Held) (faults faults_after : ℕ) (talk_rose : Type 0) (before after : Told) (looks_before looks_after : ℕ) where
  talks_by : (here here_after : ℕ) (given : Inputs) (end : TalkEnd)
      → ((table : Option TableInfo) (brought : Result (List Row) Fault) → BringsBy (line_files call.texts held) (Rose here here_after) table brought → TalkBrings call.texts held (Rose faults faults_after) table brought)
      → ((n : ℕ) → FailedReads n here here_after → FailedReads n faults faults_after)
      → IsTalkStart words held given
      → Talked (said_by given) call.read_only (line_files call.texts held) here here_after talk_rose (opening_block call.brief given.book given.fds) (first_talk_state given.book) before after end.ending end.down (looks_before + start_looks given.book) looks_after
      → TalksFor words held faults faults_after talk_rose before after looks_before looks_after end
  talks_by here here_after given end wide shown starts t =
      let (talk, same) = stretches.refit (talk_rules (said_by given)) (FitsTalk call.read_only given.book.catalog (BringsBy (line_files call.texts held) (Rose here here_after))) (FitsTalk call.read_only given.book.catalog (TalkBrings call.texts held (Rose faults faults_after)))
      (fits_by (said_by given) call.read_only held (BringsBy (line_files call.texts held) (Rose here here_after)) (TalkBrings call.texts held (Rose faults faults_after)) wide)
      (opening_block call.brief given.book given.fds) (first_talk_state given.book) t.last before after end.ending t.stretch.talk in
      record {
        talk = record {
          call = call;
          asked = asked;
          given = given;
          starts = starts;
          last = t.last;
          talked = record { talk = talk; cause = subst (λ turns. Cause end.ending talk_rose (length turns)) (sym same) t.cause };
          misread = shown _ (subst (λ turns. FailedReads (misreads (line_files call.texts held) turns) here here_after) (sym same) t.stretch.misread);
          looks = subst (λ turns. looks_after ≤ looks_before + start_looks given.book + (turns_told (said_by given) (first_talk_state given.book) turns).looks) (sym same) t.stretch.looks;
        };
        down = t.stretch.turned ∙ ap (λ turns. is_down (turns_told (said_by given) (first_talk_state given.book) turns)) (sym same);
      }

-- what the words ask for, by its texts
abbrev pub called_with : TalkWords → RunTexts → TalkCall
called_with call texts = record { settings = settings_image call.settings; texts = texts_image texts; read_only = call.read_only; brief = call.brief }

pub asked_by : (words : List (List ℕ)) (call : TalkWords) (texts : RunTexts) → call.texts ≡ texts → talk_call_of words ≡ Some (talk_image call)
    → talk_call_of words ≡ Some (called_with call texts)
asked_by words call texts is called = called ∙ ap (λ t. Some (called_with call t)) is

-- files that the words name
module _ (words : List (List ℕ)) (settings : Settings) (read_only brief : Bool) (book : List ℕ) (script : Option (List ℕ)) (asked : talk_call_of words ≡ Some (record { settings = settings; texts = Files book script; read_only = read_only; brief = brief }))
    (held : Option Held) (faults faults_after : ℕ) (talk_rose : Type 0) (before after : Told) (looks_before looks_after : ℕ) where
  named : talk_source words ≡ Some (Files book script)
  named = ap (option_map (λ (call : TalkCall). call.texts)) asked

  file_start : (h : Option Held) (given : Inputs) → ReadsBook h book given → first_view_fault given.book ≡ None → IsTalkStart words h given
  file_start None given reads fine = rw named tt
  file_start (Some h) given reads fine = read (usable asked reads) (ap (read_unless given) fine)

  file_read : (h : Option Held) (given : Inputs) → ReadsBook h book given → IsTalkRead words h given
  file_read None given reads = rw named tt
  file_read (Some h) given reads = usable asked reads

  file_cause : (h : Option Held) (fault : Fault) → FailsToStart h (Rose faults faults_after) book fault → HasTalkCause words h (Rose faults faults_after) fault
  file_cause None fault fails = rw named fails
  file_cause (Some h) fault (inl (inl reads)) = inl (unreadable (usable asked reads))
  file_cause (Some h) fault (inl (inr (given, reads, stops))) = inl (read (usable asked reads) stops)
  file_cause (Some h) fault (inr (up, unread)) = inr (up, rw named unread)

  file_silent : Silent held book before after looks_before looks_after → IsSilent words held before after looks_before looks_after
  file_silent silent = record { silent = says_nothing before after silent.same; looks = by silent.looks }
    where
      by : StartLooks held book looks_before looks_after → (looks_after ≡ looks_before) ⊎ ((given : Inputs) × IsTalkRead words held given × (looks_after ≤ looks_before + start_looks given.book))
      by (inl none) = inl none
      by (inr (given, reads, few)) = inr (given, file_read held given reads, few)

  pub files_talk : (result : Result TalkEnd Stop) → BeginsTalk held faults faults_after talk_rose book read_only brief before after looks_before looks_after result → TalkWorks words held faults faults_after talk_rose before after looks_before looks_after result
  files_talk (Ok end) t = talks_by words _ asked held faults faults_after talk_rose before after looks_before looks_after faults faults_after t.given end (λ table brought is. is) (λ n is. is) (file_start held t.given t.reads t.fine) t.talked
  files_talk (Err (At fault)) (fails, silent) = (file_cause held fault fails, file_silent silent)
  files_talk (Err Unwritten) is = is
  files_talk (Err Exhausted) (inl silent) = inl (file_silent silent)
  files_talk (Err Exhausted) (inr f) = inr (record { call = _; asked = asked; given = f.given; starts = file_start held f.given f.reads f.fine; few = f.few; looks = f.looks })

-- the texts of a demo
module _ (words : List (List ℕ)) (settings : Settings) (read_only brief : Bool) (n : ℕ) (asked : talk_call_of words ≡ Some (record { settings = settings; texts = Demo n; read_only = read_only; brief = brief }))
    (held : Option Held) (faults faults_after : ℕ) (later : faults ≤ faults_after) (talk_rose : Type 0) (before after : Told) (looks_before looks_after : ℕ) where
  named_demo : talk_source words ≡ Some (Demo n)
  named_demo = ap (option_map (λ (call : TalkCall). call.texts)) asked

  demo_start : (h : Option Held) (given : Inputs) → ReadsFiles (text_named (demo_of n)) DEMO_BOOK_NAME.now None (Ok given) → first_view_fault given.book ≡ None → IsTalkStart words h given
  demo_start None given reads fine = rw named_demo (read (usable asked reads) (ap (read_unless given) fine))
  demo_start (Some h) given reads fine = read (usable asked reads) (ap (read_unless given) fine)

  demo_read : (h : Option Held) (given : Inputs) → ReadsFiles (text_named (demo_of n)) DEMO_BOOK_NAME.now None (Ok given) → IsTalkRead words h given
  demo_read None given reads = rw named_demo (usable asked reads)
  demo_read (Some h) given reads = usable asked reads

  demo_cause : (h : Option Held) (fault : Fault) → FailsToStart (Some (text_named (demo_of n))) (Rose 0 0) DEMO_BOOK_NAME.now fault → HasTalkCause words h (Rose faults faults_after) fault
  demo_cause None fault (inl (inl reads)) = rw named_demo (inl (unreadable (usable asked reads)))
  demo_cause None fault (inl (inr (given, reads, stops))) = rw named_demo (inl (read (usable asked reads) stops))
  demo_cause None fault (inr (up, unread)) = absurd (never_rose up)
  demo_cause (Some h) fault (inl (inl reads)) = inl (unreadable (usable asked reads))
  demo_cause (Some h) fault (inl (inr (given, reads, stops))) = inl (read (usable asked reads) stops)
  demo_cause (Some h) fault (inr (up, unread)) = absurd (never_rose up)

  demo_silent : Silent (Some (text_named (demo_of n))) DEMO_BOOK_NAME.now before after looks_before looks_after → IsSilent words held before after looks_before looks_after
  demo_silent silent = record { silent = says_nothing before after silent.same; looks = by silent.looks }
    where
      by : StartLooks (Some (text_named (demo_of n))) DEMO_BOOK_NAME.now looks_before looks_after → (looks_after ≡ looks_before) ⊎ ((given : Inputs) × IsTalkRead words held given × (looks_after ≤ looks_before + start_looks given.book))
      by (inl none) = inl none
      by (inr (given, reads, few)) = inr (given, demo_read held given reads, few)

  pub demo_talks : (result : Result TalkEnd Stop) → BeginsTalk (Some (text_named (demo_of n))) 0 0 talk_rose DEMO_BOOK_NAME.now read_only brief before after looks_before looks_after result → TalkWorks words held faults faults_after talk_rose before after looks_before looks_after result
  demo_talks (Ok end) t = talks_by words _ asked held faults faults_after talk_rose before after looks_before looks_after 0 0 t.given end (demo_brings n) (λ n shown. none_failed n faults faults_after later shown) (demo_start held t.given t.reads t.fine) t.talked
  demo_talks (Err (At fault)) (fails, silent) = (demo_cause held fault fails, demo_silent silent)
  demo_talks (Err Unwritten) is = is
  demo_talks (Err Exhausted) (inl silent) = inl (demo_silent silent)
  demo_talks (Err Exhausted) (inr f) = inr (record { call = _; asked = asked; given = f.given; starts = demo_start held f.given f.reads f.fine; few = f.few; looks = f.looks })

-- words that call for nothing
pub unusable_words : (words : List (List ℕ)) (held : Option Held) (faults faults_after : ℕ) (talk_rose : Type 0) (before after : Told) (looks_before looks_after : ℕ) → talk_call_of words ≡ None → after ≡ before → looks_after ≡ looks_before
    → TalkWorks words held faults faults_after talk_rose before after looks_before looks_after (Err (At Usage))
unusable_words words held faults faults_after talk_rose before after looks_before looks_after none same few =
    (by held (ap (option_map (λ (call : TalkCall). call.texts)) none), record { silent = says_nothing before after same; looks = inl few })
  where
    by : (h : Option Held) → talk_source words ≡ None → HasTalkCause words h (Rose faults faults_after) Usage
    by None nowhere = rw nowhere (inl (unreadable (unusable none)))
    by (Some h) nowhere = inl (unreadable (unusable none))

-- the start of a conversation
module _ {X : Type 0} (reads : X → List Reading → Inputs) (bytes : X → List ℕ) (faults faults_after : ℕ) (talk_rose : Type 0) (book : List ℕ) (read_only brief : Bool) (before after : Told) where
  pub reading_stops : (held : Option Held) (looks_before looks_after : ℕ) (stop : Stop) → ReadsAll {X = X} held (Rose faults faults_after) book None reads bytes (Err stop) → after ≡ before → looks_after ≡ looks_before → BeginsTalk held faults faults_after talk_rose book read_only brief before after looks_before looks_after (Err stop)
  reading_stops None looks_before looks_after (At fault) fails same none = (fails, record { same = same; looks = inl none })
  reading_stops (Some held) looks_before looks_after (At fault) (inl fails) same none = (inl (inl fails), record { same = same; looks = inl none })
  reading_stops (Some held) looks_before looks_after (At fault) (inr (up, unread)) same none = (inr (up, unread), record { same = same; looks = inl none })
  reading_stops None looks_before looks_after Unwritten fails same none = fails
  reading_stops (Some held) looks_before looks_after Unwritten fails same none = fails
  reading_stops None looks_before looks_after Exhausted fails same none = inl (record { same = same; looks = inl none })
  reading_stops (Some held) looks_before looks_after Exhausted fails same none = inl (record { same = same; looks = inl none })

  -- what is read of a book, by some readings of no script
  pub book_read : (held : Option Held) (x : X) → ReadsAll {X = X} held (Rose faults faults_after) book None reads bytes (Ok x) → ReadsBook held book (reads x (some_reading (bytes x)).0)
  book_read None x is = tt
  book_read (Some held) x is = let said = some_reading (bytes x) in is said.0 said.1

  pub starting_stops : (Y : Type 0) (held : Option Held) (x : X) (looks_before looks_after : ℕ) (stop : Stop) → ReadsBook held book (reads x (some_reading (bytes x)).0)
      → Starts {X = Y} (reads x (some_reading (bytes x)).0).book (Err stop) → after ≡ before → looks_after ≤ looks_before + start_looks (reads x (some_reading (bytes x)).0).book
      → BeginsTalk held faults faults_after talk_rose book read_only brief before after looks_before looks_after (Err stop)
  starting_stops Y held x looks_before looks_after (At fault) there starts same few = (by held there (fault_of (first_view_fault given.book) starts), record { same = same; looks = inr (given, there, few) })
    where
      given : Inputs
      given = reads x (some_reading (bytes x)).0

      fault_of : (found : Option ViewFault) → option_map (fault_named given.book.catalog) found ≡ Some fault → read_unless given found ≡ Err fault
      fault_of (Some found) is = cc
      fault_of None is = absurd (cc)

      untold : (found : Option ViewFault) → read_unless given found ≡ Err fault → UntoldCause (Rose faults faults_after) fault
      untold None is = absurd (cc)
      untold (Some found) is = let named : fault_named given.book.catalog found ≡ fault = cc is in subst (UntoldCause (Rose faults faults_after)) named (view_cause (Rose faults faults_after) given.book.catalog found)

      by : (h : Option Held) → ReadsBook h book given → started given ≡ Err fault → FailsToStart h (Rose faults faults_after) book fault
      by None there stops = untold (first_view_fault given.book) stops
      by (Some h) there stops = inl (inr (given, there, stops))
  starting_stops Y held x looks_before looks_after Unwritten there starts same few = starts
  starting_stops Y held x looks_before looks_after Exhausted there starts same few = inl (record { same = same; looks = inr (reads x (some_reading (bytes x)).0, there, few) })

-- how it ends, by what is said of it on `err`
module _ (words : List (List ℕ)) (held : Option Held) (faults faults_after : ℕ) (talk_rose err_rose : Type 0) (before after : Told) (looks_before looks_after : ℕ) (err_before err_after : Option (List ℕ)) (status : Status) where
  reported : (ending : Ending) (down : Bool) (talk : Converses words held faults faults_after talk_rose before after looks_before looks_after ending) → down ≡ is_turned_down (report_by talk)
      → SaysEnding ending down err_rose err_before err_after status → ConverseEnds words held faults faults_after talk_rose err_rose before after looks_before looks_after err_before err_after status
  reported Ended down talk same (appended, is) = ([], appended, subst (λ (s : Status). TalkEnds words held faults faults_after talk_rose err_rose before after looks_before looks_after s []) (sym (is ∙ ap (λ b. cond b DoneWithRefusals Done) same)) (ended talk))
  reported Outlasted down talk same (appended, is) = ([], appended, subst (λ (s : Status). TalkEnds words held faults faults_after talk_rose err_rose before after looks_before looks_after s []) (sym (is ∙ ap (λ b. cond b DoneWithRefusals Done) same)) (outlasted talk))
  reported Unsaid down talk same (appended, is) = ([], appended, rw is (unsaid talk))
  reported Unheard down talk same (said, appended, inl (is, whole)) = (said, appended, rw is (rw whole (unheard talk)))
  reported Unheard down talk same (said, appended, inr (is, part, rose)) = (said, appended, rw is (unheard_unsaid said talk part rose))

  pub ends_said : (end : TalkEnd) → TalksFor words held faults faults_after talk_rose before after looks_before looks_after end → SaysTalkEnd end err_rose err_before err_after status
      → ConverseEnds words held faults faults_after talk_rose err_rose before after looks_before looks_after err_before err_after status
  ends_said end t said = reported end.ending end.down t.talk t.down said

  pub memory_said : IsUnopened words held before after looks_before looks_after → SaysMemory err_rose err_before err_after status
      → ConverseEnds words held faults faults_after talk_rose err_rose before after looks_before looks_after err_before err_after status
  memory_said (inl silent) (said, appended, inl (is, whole)) = (said, appended, rw is (rw whole (exhausted silent)))
  memory_said (inl silent) (said, appended, inr (is, part, rose)) = (said, appended, rw is (memory_unsaid said silent part rose))
  memory_said (inr cut) (said, appended, inl (is, whole)) = (said, appended, rw is (rw whole (cut_short cut)))
  memory_said (inr cut) (said, appended, inr (is, part, rose)) = (said, appended, rw is (cut_unsaid said cut part rose))

  pub fault_said : (fault : Fault) → HasTalkCause words held (Rose faults faults_after) fault → IsSilent words held before after looks_before looks_after → LooksBehind fault looks_before looks_after → SaysTalkFault fault err_rose err_before err_after status
      → ConverseEnds words held faults faults_after talk_rose err_rose before after looks_before looks_after err_before err_after status
  fault_said fault cause silent behind (inl (said, appended, inl (is, whole))) = (said, appended, rw is (rw whole (faulted fault cause silent behind)))
  fault_said fault cause silent behind (inl (said, appended, inr (is, part, rose))) = (said, appended, rw is (fault_unsaid fault said cause silent behind part rose))
  fault_said fault cause silent behind (inr wanting) = memory_said (inl silent) wanting

-- nothing was heard where a conversation doesn't start or memory ran out, and no more said than the first few texts
pub unopened : (words : List (List ℕ)) (held : Option Held) (faults faults_after : ℕ) (talk_rose : Type 0) (before after : Told) (looks_before looks_after : ℕ) (stop : Stop) → TalkWorks words held faults faults_after talk_rose before after looks_before looks_after (Err stop) → IsUnopened words held before after looks_before looks_after
unopened words held faults faults_after talk_rose before after looks_before looks_after (At fault) works = inl works.1
unopened words held faults faults_after talk_rose before after looks_before looks_after Unwritten works = absurd works
unopened words held faults faults_after talk_rose before after looks_before looks_after Exhausted works = works

-- a fault of a view is none of what is read
pub starts_later : (X Y : Type 0) (book : Workbook) (before after : ℕ) (stop : Stop) → Starts {X = X} book (Err stop) → LooksBehindReading {X = Y} (Err stop) before after
starts_later X Y book before after (At fault) starts = λ met. absurd (by (first_view_fault book) met starts)
  where
    view : (found : NodeFault) (name : List ℕ) → named_fault book.catalog name found ≡ fault → IsReadingFault (status_of_fault fault) → ⊥
    view (FullRows node) name is met = subst (λ f. IsReadingFault (status_of_fault f)) (sym is) met
    view (FullPairs node table) name is met = subst (λ f. IsReadingFault (status_of_fault f)) (sym is) met

    by : (found : Option ViewFault) → IsReadingFault (status_of_fault fault) → option_map (fault_named book.catalog) found ≡ Some fault → ⊥
    by (Some found) met is = view found.fault (view_at book.catalog found.view).name (cc) met
    by None met is = absurd (cc)
starts_later X Y book before after Unwritten starts = tt
starts_later X Y book before after Exhausted starts = tt

-- the status of what is said tells of a fault of the start only where it is said
start_is_read : (status : Status) → IsStartFault status → IsReadingFault status
start_is_read ReadFault met = tt
start_is_read _ met = met

pub memory_is_no_start : (rose : Type 0) (err_before err_after : Option (List ℕ)) (status : Status) → SaysMemory rose err_before err_after status → IsStartFault status → ⊥
memory_is_no_start rose err_before err_after status says met = no_memory_is_no_fault rose err_before err_after status says (start_is_read status met)

pub fault_behind : (fault : Fault) (rose : Type 0) (err_before err_after : Option (List ℕ)) (status : Status) (before after : ℕ) → SaysTalkFault fault rose err_before err_after status
    → LooksBehind fault before after → IsStartFault status → after ≡ before
fault_behind fault rose err_before err_after status before after (inl (said, appended, inl (is, whole))) behind met = behind (subst IsReadingFault is (start_is_read status met))
fault_behind fault rose err_before err_after status before after (inl (said, appended, inr (is, part, up))) behind met = absurd (subst IsStartFault is met)
fault_behind fault rose err_before err_after status before after (inr wanting) behind met = absurd (memory_is_no_start rose err_before err_after status wanting met)

report_is_no_start : (down : Bool) → IsStartFault (cond down DoneWithRefusals Done) → ⊥
report_is_no_start true met = met
report_is_no_start false met = met

pub end_is_no_start : (ending : Ending) (down : Bool) (rose : Type 0) (err_before err_after : Option (List ℕ)) (status : Status) → SaysEnding ending down rose err_before err_after status → IsStartFault status → ⊥
end_is_no_start Unheard down rose err_before err_after status (said, appended, inl (is, whole)) met = subst IsStartFault is met
end_is_no_start Unheard down rose err_before err_after status (said, appended, inr (is, part, up)) met = subst IsStartFault is met
end_is_no_start Unsaid down rose err_before err_after status (appended, is) met = subst IsStartFault is met
end_is_no_start Ended down rose err_before err_after status (appended, is) met = report_is_no_start down (subst IsStartFault is met)
end_is_no_start Outlasted down rose err_before err_after status (appended, is) met = report_is_no_start down (subst IsStartFault is met)

-- a conversation with a session that begins is one over what was read
pub talks_over : (held now : Option Held) (start faults faults_after : ℕ) (talk_rose : Type 0) (book : List ℕ) (read_only brief : Bool) (before after : Told) (looks_before looks_between looks_after : ℕ) (end : TalkEnd) (given : Inputs) (over : Workbook) (state : State) (fds : List (List ℕ))
    → now ≡ held → start ≤ faults → faults ≤ faults_after → ReadsBook held book given → first_view_fault given.book ≡ None → over ≡ given.book → fds ≡ given.fds → state ≡ first_state over
    → looks_between ≤ looks_before + start_looks given.book
    → Talked (record { catalog = over.catalog; fds = fds }) read_only now faults faults_after talk_rose (opening_block brief over fds) (talk_at state 0) before after end.ending end.down looks_between looks_after
    → TalksOver held start faults_after talk_rose book read_only brief before after looks_before looks_after end
talks_over held now start faults faults_after talk_rose book read_only brief before after looks_before looks_between looks_after end given over state fds same up later there fine is named begins few t =
    let t1 = subst (λ (s : State). Talked (record { catalog = over.catalog; fds = fds }) read_only now faults faults_after talk_rose (opening_block brief over fds) (talk_at s 0) before after end.ending end.down looks_between looks_after) begins t in
    let t2 = subst (λ (b : Workbook). Talked (record { catalog = b.catalog; fds = fds }) read_only now faults faults_after talk_rose (opening_block brief b fds) (talk_at (first_state b) 0) before after end.ending end.down looks_between looks_after) is t1 in
    let t3 = subst (λ (l : List (List ℕ)). Talked (record { catalog = given.book.catalog; fds = l }) read_only now faults faults_after talk_rose (opening_block brief given.book l) (talk_at (first_state given.book) 0) before after end.ending end.down looks_between looks_after) named t2 in
    let t4 = subst (λ (h : Option Held). Talked (said_by given) read_only h faults faults_after talk_rose (opening_block brief given.book given.fds) (first_talk_state given.book) before after end.ending end.down looks_between looks_after) same t3 in
    record {
      given = given;
      reads = there;
      fine = fine;
      talked = talked_within (said_by given) read_only held start faults faults_after talk_rose (opening_block brief given.book given.fds) (first_talk_state given.book) before after end.ending end.down looks_before looks_between looks_after (start_looks given.book) up later few t4;
    }
