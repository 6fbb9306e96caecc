-- How a run ends, from what its work comes to and what is said.
use Rattle.std.proofs.Common.{◌≡◌, ◌∙◌, [], ℕ, List, map, Option, Some, None, Result, Ok, Err, IfOk, refl, ap, sym, subst, inl, inr, arith}
use Rattle.std.specs.Prelude.{◌⊎◌, ⊤, Bool, true, false, cond}
use Rattle.smk_base.specs.{CatalogImage.CatalogImage, declared.demo.TheConstants.{DEMO_BOOK_NAME, DEMO_SCRIPT_NAME}, declared.fault.Fault.Fault, declared.fault.Fault.TheVariants.{Usage, ViewRows, ViewPairs}, declared.size.Size.Size}
use Rattle.smk_outside.specs.Outside.{IsPrefix, Appends, AppendsPart, Rose}
use Rattle.smk_model.specs.{Demo.{demo_of, summary, summary_of}, NodeFaults.{NodeFault, FullRows, FullPairs}, Opening.{ViewFault, first_view_fault, named_fault}, Reports.{Report, is_turned_down, report_of, size_of_view}, Readings.{Reading, AreReadingsOf}, Session.{Workbook, view_at}, Values.Row, Words.{TextSource, Files, Demo, words_of}, Outcome.{Held, Inputs, text_named, unless_view_fault, reported as report_or_fault, ReadsInputs, unusable, usable, Outcome, unreadable, read, written_for, written_of, NamesRead, nothing_held, WhereTold, UntoldCause, IsReport, HasCause}}
use Rattle.smk_inputs.specs.{declared.stop.Stop.Stop, declared.stop.Stop.TheVariants.{At, Unwritten, Exhausted}, Collecting.{ReadsAll, IsSayable}}
use Rattle.smk_top.specs.{declared.counts.Counts.Counts, declared.status.Status.Status, declared.status.Status.TheVariants.{Done, DoneWithRefusals, WriteFault}, Statuses.{IsReadingFault, status_of_fault, status_of_report}, Looking.{IsInputs, LooksBehindReading}, Counting.counts_of, Writing.PutsPieces, Endings.{IsBegun, reported, faulted, unwritten, exhausted, fault_unsaid, memory_unsaid, RunEnds, Works, Reports, SaysMemory, SaysFault}}
use Rattle.smk_top.proofs.Appending.{appends_none}

-- a fault of the views is that of a node
IsOfViews : Fault → Type 0
IsOfViews (ViewRows view node) = Unit {0}
IsOfViews (ViewPairs view node name) = Unit {0}
IsOfViews _ = ⊥

OnlyViews : Result Report Fault → Type 0
OnlyViews (Ok report) = Unit {0}
OnlyViews (Err fault) = IsOfViews fault

views_reported : (given : Inputs) → OnlyViews (report_or_fault given)
unfolding OnlyViews IsOfViews
views_reported given = by (first_view_fault given.book)
  where
    named : (catalog : CatalogImage) (view : List ℕ) (fault : NodeFault) → IsOfViews (named_fault catalog view fault)
    named catalog view (FullRows node) = tt
    named catalog view (FullPairs node table) = tt

    by : (found : Option ViewFault) → OnlyViews (unless_view_fault given found)
    by (Some found) = named given.book.catalog (view_at given.book.catalog found.view).name found.fault
    by None = tt

untold_views : (rose : Type 0) (fault : Fault) → IsOfViews fault → UntoldCause rose fault
unfolding IsOfViews
untold_views rose (ViewRows view node) h = tt
untold_views rose (ViewPairs view node name) h = tt
untold_views rose _ h = absurd h

-- what follows for all files follows where they don't tell
where_told : (held : Option Held) (ws : Option TextSource) (A B : Type 0) (P Q : Held → Type 0) → (A → B) → ((h : Held) → P h → Q h) → WhereTold held ws A P → WhereTold held ws B Q
where_told (Some held) ws A B P Q f g is = g held is
where_told None (Some (Files book script)) A B P Q f g is = f is
where_told None _ A B P Q f g is = g nothing_held is

-- the same for words that name no file
where_demo : (held : Option Held) (ws : Option TextSource) (n : ℕ) (A : Type 0) (P : Held → Type 0) → ws ≡ Some (Demo n) → ((h : Held) → P h) → WhereTold held ws A P
where_demo (Some held) ws n A P is all = all held
where_demo None ws n A P is all = rw is (all nothing_held)

where_unusable : (held : Option Held) (ws : Option TextSource) (A : Type 0) (P : Held → Type 0) → ws ≡ None → ((h : Held) → P h) → WhereTold held ws A P
where_unusable (Some held) ws A P is all = all held
where_unusable None ws A P is all = rw is (all nothing_held)

-- the report of the inputs is that of the run, and so is their fault
report_is : (words : List (List ℕ)) (held : Option Held) (inputs : Inputs) (report : Report) → IsInputs words held inputs → report_or_fault inputs ≡ Ok report → IsReport words held report
report_is words held inputs report is ok = where_told held (words_of words) ⊤ ⊤ (λ h. ReadsInputs words h (Ok inputs)) (λ h. Outcome words h (Ok report)) (λ t. t) (λ h p. read p ok) is

cause_is : (words : List (List ℕ)) (held : Option Held) (rose : Type 0) (inputs : Inputs) (fault : Fault) → IsInputs words held inputs → report_or_fault inputs ≡ Err fault → HasCause words held rose fault
unfolding OnlyViews
cause_is words held rose inputs fault is err =
    where_told held (words_of words) ⊤ (UntoldCause rose fault) (λ h. ReadsInputs words h (Ok inputs)) (λ h. Outcome words h (Err fault) ⊎ (rose × NamesRead (words_of words) h fault))
    (λ t. untold_views rose fault (subst (λ (r : Result Report Fault). OnlyViews r) err (views_reported inputs))) (λ h p. inl (read p err)) is

-- the words are those of no run
pub usage_stops : (words : List (List ℕ)) (held : Option Held) (files_rose out_rose : Type 0) (a : Option (List ℕ)) → words_of words ≡ None → Works words held files_rose out_rose a a (Err (At Usage))
usage_stops words held files_rose out_rose a none = (where_unusable held (words_of words) (UntoldCause files_rose Usage) _ none (λ h. inl (unreadable (unusable none))), appends_none a)

-- the reading of files stops
files_cause : {X : Type 0} (words : List (List ℕ)) (book : List ℕ) (script : Option (List ℕ)) (held : Option Held) (rose : Type 0) (reads : X → List Reading → Inputs) (bytes : X → List ℕ) (fault : Fault)
    → words_of words ≡ Some (Files book script) → ReadsAll held rose book script reads bytes (Err (At fault)) → HasCause words held rose fault
files_cause words book script (Some held) rose reads bytes fault is (inl err) = inl (unreadable (usable is err))
files_cause words book script (Some held) rose reads bytes fault is (inr (up, named)) = inr (up, subst (λ (ws : Option TextSource). NamesRead ws held fault) (sym is) named)
files_cause words book script None rose reads bytes fault is h = rw is h

pub files_stop : {X : Type 0} (words : List (List ℕ)) (book : List ℕ) (script : Option (List ℕ)) (held : Option Held) (rose out_rose : Type 0) (reads : X → List Reading → Inputs) (bytes : X → List ℕ) (a : Option (List ℕ)) (stop : Stop)
    → words_of words ≡ Some (Files book script) → ReadsAll held rose book script reads bytes (Err stop) → Works words held rose out_rose a a (Err stop)
files_stop words book script held rose out_rose reads bytes a (At fault) is h = (files_cause words book script held rose reads bytes fault is h, appends_none a)
files_stop words book script (Some held) rose out_rose reads bytes a Unwritten is h = absurd h
files_stop words book script None rose out_rose reads bytes a Unwritten is h = absurd h
files_stop words book script held rose out_rose reads bytes a Exhausted is h = ([], appends_none a, inl refl)

pub files_read : {X : Type 0} (words : List (List ℕ)) (book : List ℕ) (script : Option (List ℕ)) (held : Option Held) (rose : Type 0) (reads : X → List Reading → Inputs) (bytes : X → List ℕ) (x : X) (readings : List Reading)
    → words_of words ≡ Some (Files book script) → ReadsAll held rose book script reads bytes (Ok x) → AreReadingsOf (bytes x) readings → IsInputs words held (reads x readings)
files_read words book script (Some held) rose reads bytes x readings is h are = usable is (h readings are)
files_read words book script None rose reads bytes x readings is h are = rw is tt

-- no read of a demo's texts fails
pub never_rose : Rose 0 0 → ⊥
never_rose (inl less) = omega (arith, less)
never_rose (inr last) = omega (arith, last)

-- the reading of a demo stops
pub demo_stops : {X : Type 0} (words : List (List ℕ)) (n : ℕ) (held : Option Held) (rose out_rose : Type 0) (reads : X → List Reading → Inputs) (bytes : X → List ℕ) (a : Option (List ℕ)) (stop : Stop)
    → words_of words ≡ Some (Demo n) → ReadsAll (Some (text_named (demo_of n))) (Rose 0 0) DEMO_BOOK_NAME.now (Some DEMO_SCRIPT_NAME.now) reads bytes (Err stop) → Works words held rose out_rose a a (Err stop)
demo_stops words n held rose out_rose reads bytes a (At fault) is (inl err) = (where_demo held (words_of words) n (UntoldCause rose fault) _ is (λ h. inl (unreadable (usable is err))), appends_none a)
demo_stops words n held rose out_rose reads bytes a (At fault) is (inr (up, named)) = absurd (never_rose up)
demo_stops words n held rose out_rose reads bytes a Unwritten is h = absurd h
demo_stops words n held rose out_rose reads bytes a Exhausted is h = ([], appends_none a, inl refl)

pub demo_read : {X : Type 0} (words : List (List ℕ)) (n : ℕ) (held : Option Held) (reads : X → List Reading → Inputs) (bytes : X → List ℕ) (x : X) (readings : List Reading)
    → words_of words ≡ Some (Demo n) → ReadsAll (Some (text_named (demo_of n))) (Rose 0 0) DEMO_BOOK_NAME.now (Some DEMO_SCRIPT_NAME.now) reads bytes (Ok x) → AreReadingsOf (bytes x) readings
    → IsInputs words held (reads x readings)
demo_read words n held reads bytes x readings is h are = where_demo held (words_of words) n ⊤ _ is (λ held. usable is (h readings are))

-- no view has a fault, so that there is a report
found_report : (given : Inputs) → first_view_fault given.book ≡ None → report_or_fault given ≡ Ok (report_of given.book given.fds given.added given.readings)
found_report given none = ap (unless_view_fault given) none

-- the report of what was read is written, or its writing stops
pub report_written : (given : Inputs) (book : Workbook) (fds : List (List ℕ)) (added : List (List Row)) (rose : Type 0) (a b : Option (List ℕ)) (r : Result Counts Stop) → first_view_fault given.book ≡ None
    → book ≡ given.book → fds ≡ given.fds → added ≡ given.added → PutsPieces (report_of book fds added given.readings).text rose a b r → IfOk r (λ counts. counts ≡ counts_of (report_of book fds added given.readings)) → Reports (λ report. report.text) given rose a b r
report_written given book fds added rose a b r none same alike brought w c =
    let report_is : report_of book fds added given.readings ≡ report_of given.book given.fds given.added given.readings = rw (same, alike, brought) refl in
    by r (subst (λ (k : Report). PutsPieces k.text rose a b r) report_is w) (subst (λ (k : Report). IfOk r (λ counts. counts ≡ counts_of k)) report_is c)
  where
    by : (r : Result Counts Stop) → PutsPieces (report_of given.book given.fds given.added given.readings).text rose a b r → IfOk r (λ counts. counts ≡ counts_of (report_of given.book given.fds given.added given.readings)) → Reports (λ report. report.text) given rose a b r
    by (Ok counts) v c = (report_of given.book given.fds given.added given.readings, found_report given none, v, c)
    by (Err (At fault)) v c = absurd v
    by (Err Unwritten) v c = (report_of given.book given.fds given.added given.readings, found_report given none, v.0, v.1)
    by (Err Exhausted) v c = inr (report_of given.book given.fds given.added given.readings, found_report given none, v)

-- what stops a text that is put is no fault
pub sayable_pieces : {X : Type 0} (text : List ℕ) (rose : Type 0) (a b : Option (List ℕ)) (r : Result X Stop) → PutsPieces text rose a b r → IsSayable r
sayable_pieces text rose a b (Err (At fault)) w = absurd w
sayable_pieces text rose a b _ w = tt

-- a report that is only measured stops only when it is out of memory
pub measured_stops : (X : Type 0) (writes : Report → List ℕ) (given : Inputs) (text : List ℕ) (rose : Type 0) (a : Option (List ℕ)) (stop : Stop) → PutsPieces {X = X} text (Rose 0 0) None None (Err stop) → Reports writes given rose a a (Err stop)
measured_stops X writes given text rose a (At fault) w = absurd w
measured_stops X writes given text rose a Unwritten w = absurd (never_rose w.1)
measured_stops X writes given text rose a Exhausted w = inl (appends_none a)

-- the summary of a report
summary_same : (n : ℕ) (given : Inputs) (book : Workbook) (fds : List (List ℕ)) (added : List (List Row)) (sizes : List Size) (counts : Counts) (text : List ℕ) → book ≡ given.book → fds ≡ given.fds → added ≡ given.added → sizes ≡ map (size_of_view book) book.catalog.views
    → counts ≡ counts_of (report_of book fds added given.readings) → text ≡ summary n sizes counts.replies counts.refused counts.bytes → text ≡ summary_of n (report_of given.book given.fds given.added given.readings)
summary_same n given book fds added sizes counts text same alike brought are counted is =
    is ∙ rw (are, counted) (ap (λ k. summary_of n (report_of k fds added given.readings)) same ∙ ap (λ f. summary_of n (report_of given.book f added given.readings)) alike ∙ ap (λ l. summary_of n (report_of given.book given.fds l given.readings)) brought)

pub summary_written : (n : ℕ) (given : Inputs) (book : Workbook) (fds : List (List ℕ)) (added : List (List Row)) (sizes : List Size) (counts : Counts) (rose : Type 0) (a b : Option (List ℕ)) (r : Result Counts Stop) → first_view_fault given.book ≡ None
    → book ≡ given.book → fds ≡ given.fds → added ≡ given.added → sizes ≡ map (size_of_view book) book.catalog.views → counts ≡ counts_of (report_of book fds added given.readings)
    → PutsPieces (summary n sizes counts.replies counts.refused counts.bytes) rose a b r → IfOk r (λ told. told ≡ counts) → Reports (summary_of n) given rose a b r
summary_written n given book fds added sizes counts rose a b r none same alike brought are counted put kept =
    by r (subst (λ (t : List ℕ). PutsPieces t rose a b r) (summary_same n given book fds added sizes counts _ same alike brought are counted refl) put) kept
  where
    by : (r : Result Counts Stop) → PutsPieces (summary_of n (report_of given.book given.fds given.added given.readings)) rose a b r → IfOk r (λ told. told ≡ counts) → Reports (summary_of n) given rose a b r
    by (Ok told) w k = (report_of given.book given.fds given.added given.readings, found_report given none, w, k ∙ counted ∙ ap (λ k. counts_of (report_of k fds added given.readings)) same ∙ ap (λ f. counts_of (report_of given.book f added given.readings)) alike ∙ ap (λ l. counts_of (report_of given.book given.fds l given.readings)) brought)
    by (Err (At fault)) w k = absurd w
    by (Err Unwritten) w k = (report_of given.book given.fds given.added given.readings, found_report given none, w.0, w.1)
    by (Err Exhausted) w k = inr (report_of given.book given.fds given.added given.readings, found_report given none, w)

-- what is written for the words
pub files_write : (words : List (List ℕ)) (book : List ℕ) (script : Option (List ℕ)) → words_of words ≡ Some (Files book script) → (report : Report) → report.text ≡ written_of words report
files_write words book script is report = ap (λ ws. written_for ws report) (sym is)

pub demo_writes : (words : List (List ℕ)) (n : ℕ) → words_of words ≡ Some (Demo n) → (report : Report) → summary_of n report ≡ written_of words report
demo_writes words n is report = ap (λ ws. written_for ws report) (sym is)

-- the report is written, or there is none, or the writing stops
pub reports : (writes : Report → List ℕ) (words : List (List ℕ)) (held : Option Held) (files_rose out_rose : Type 0) (inputs : Inputs) (a b : Option (List ℕ)) (result : Result Counts Stop)
    → ((report : Report) → writes report ≡ written_of words report) → IsInputs words held inputs → Reports writes inputs out_rose a b result → Works words held files_rose out_rose a b result
reports writes words held files_rose out_rose inputs a b (Ok counts) same is w = (w.0, report_is words held inputs w.0 is w.1, subst (λ (t : List ℕ). Appends a b t) (same w.0) w.2, w.3)
reports writes words held files_rose out_rose inputs a b (Err (At fault)) same is w = (cause_is words held files_rose inputs fault is w.0, w.1)
reports writes words held files_rose out_rose inputs a b (Err Unwritten) same is w = (w.0, report_is words held inputs w.0 is w.1, subst (λ (t : List ℕ). AppendsPart a b t) (same w.0) w.2, w.3)
reports writes words held files_rose out_rose inputs a b (Err Exhausted) same is (inl nothing) = ([], nothing, inl refl)
reports writes words held files_rose out_rose inputs a b (Err Exhausted) same is (inr (report, ok, part)) =
    (part.0, part.2, inr (report, report_is words held inputs report is ok, subst (λ (t : List ℕ). IsPrefix part.0 t) (same report) part.1))

-- the endings
pub ends_reported : (words : List (List ℕ)) (held : Option Held) (files_rose out_rose err_rose : Type 0) (a b e : Option (List ℕ)) (counts : Counts) (status : Status)
    → Works words held files_rose out_rose a b (Ok counts) → ((report : Report) → counts ≡ counts_of report → status ≡ status_of_report report) → RunEnds words held files_rose out_rose err_rose a b e e status
ends_reported words held files_rose out_rose err_rose a b e counts status w is =
    (written_of words w.0, [], w.2, appends_none e, rw (is w.0 w.3) (reported w.0 w.1))

pub ends_unwritten : (words : List (List ℕ)) (held : Option Held) (files_rose out_rose err_rose : Type 0) (a b e : Option (List ℕ))
    → Works words held files_rose out_rose a b (Err Unwritten) → RunEnds words held files_rose out_rose err_rose a b e e WriteFault
ends_unwritten words held files_rose out_rose err_rose a b e w = (w.2.0, [], w.2.2, appends_none e, unwritten w.0 w.2.0 w.1 w.2.1 w.3)

memory_ends : (words : List (List ℕ)) (held : Option Held) (files_rose out_rose err_rose : Type 0) (a b e f : Option (List ℕ)) (told : List ℕ) (status : Status)
    → Appends a b told → IsBegun words held told → SaysMemory err_rose e f status → RunEnds words held files_rose out_rose err_rose a b e f status
memory_ends words held files_rose out_rose err_rose a b e f told status p begun (said, q, inl (is, text)) = (told, said, p, q, rw (is, text) (exhausted told begun))
memory_ends words held files_rose out_rose err_rose a b e f told status p begun (said, q, inr (is, front, rose)) = (told, said, p, q, rw is (memory_unsaid told said begun front rose))

pub ends_exhausted : (words : List (List ℕ)) (held : Option Held) (files_rose out_rose err_rose : Type 0) (a b e f : Option (List ℕ)) (status : Status)
    → Works words held files_rose out_rose a b (Err Exhausted) → SaysMemory err_rose e f status → RunEnds words held files_rose out_rose err_rose a b e f status
ends_exhausted words held files_rose out_rose err_rose a b e f status w says = memory_ends words held files_rose out_rose err_rose a b e f w.0 status w.1 w.2 says

pub ends_faulted : (words : List (List ℕ)) (held : Option Held) (files_rose out_rose err_rose : Type 0) (a b e f : Option (List ℕ)) (fault : Fault) (status : Status)
    → Works words held files_rose out_rose a b (Err (At fault)) → SaysFault fault err_rose e f status → RunEnds words held files_rose out_rose err_rose a b e f status
ends_faulted words held files_rose out_rose err_rose a b e f fault status w (inl (said, q, inl (is, text))) = ([], said, w.1, q, rw (is, text) (faulted fault w.0))
ends_faulted words held files_rose out_rose err_rose a b e f fault status w (inl (said, q, inr (is, front, rose))) = ([], said, w.1, q, rw is (fault_unsaid fault said w.0 front rose))
ends_faulted words held files_rose out_rose err_rose a b e f fault status w (inr says) = memory_ends words held files_rose out_rose err_rose a b e f [] status w.1 (inl refl) says

-- a step that makes no look makes none before its fault
pub looks_at_nothing : (X : Type 0) (stop : Stop) (n : ℕ) → LooksBehindReading {X = X} (Err stop) n n
looks_at_nothing X (At fault) n = λ met. refl
looks_at_nothing X _ n = tt

-- a fault of the views is none of what is read
views_are_later : (fault : Fault) → IsOfViews fault → IsReadingFault (status_of_fault fault) → ⊥
unfolding IsOfViews
views_are_later (ViewRows view node) h met = met
views_are_later (ViewPairs view node name) h met = met
views_are_later _ h met = absurd h

pub reports_later : (writes : Report → List ℕ) (given : Inputs) (rose : Type 0) (a b : Option (List ℕ)) (before after : ℕ) (result : Result Counts Stop) → Reports writes given rose a b result → LooksBehindReading result before after
unfolding OnlyViews
reports_later writes given rose a b before after (Ok counts) w = tt
reports_later writes given rose a b before after (Err (At fault)) w = λ met. absurd (views_are_later fault (subst (λ (r : Result Report Fault). OnlyViews r) w.0 (views_reported given)) met)
reports_later writes given rose a b before after (Err Unwritten) w = tt
reports_later writes given rose a b before after (Err Exhausted) w = tt

-- neither a report nor being out of memory is a fault of what is read
pub no_report_is_a_fault : (report : Report) (status : Status) → status ≡ status_of_report report → IsReadingFault status → ⊥
no_report_is_a_fault report status is met = by (is_turned_down report) (subst IsReadingFault is met)
  where
    by : (turned : Bool) → IsReadingFault (cond turned DoneWithRefusals Done) → ⊥
    by true met = met
    by false met = met

pub no_memory_is_no_fault : (rose : Type 0) (a b : Option (List ℕ)) (status : Status) → SaysMemory rose a b status → IsReadingFault status → ⊥
no_memory_is_no_fault rose a b status (said, p, inl (is, text)) met = subst IsReadingFault is met
no_memory_is_no_fault rose a b status (said, p, inr (is, front, up)) met = subst IsReadingFault is met

-- a fault of what is read that is said
pub said_later : (fault : Fault) (rose : Type 0) (a b : Option (List ℕ)) (status : Status) (before after : ℕ)
    → SaysFault fault rose a b status → LooksBehindReading {X = Counts} (Err (At fault)) before after → IsReadingFault status → after ≡ before
said_later fault rose a b status before after (inl (said, p, inl (is, text))) later met = later (subst IsReadingFault is met)
said_later fault rose a b status before after (inl (said, p, inr (is, front, up))) later met = absurd (subst IsReadingFault is met)
said_later fault rose a b status before after (inr says) later met = absurd (no_memory_is_no_fault rose a b status says met)
