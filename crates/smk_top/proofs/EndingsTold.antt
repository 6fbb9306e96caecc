-- A run ends exactly in the endings that have each cause written out.
use Rattle.std.proofs.Common.{◌≡◌, ◌⊎◌, ℕ, List, [], Option, Some, None, Ok, Err, refl, ap, sym, subst, inl, inr, append-nil}
use Rattle.std.specs.Prelude.{◌↔◌}
use Rattle.smk_base.specs.{declared.fault.Fault.Fault, declared.fault.Fault.TheVariants.Unread}
use Rattle.smk_model.specs.{FaultTexts.fault_text, Texts.no_memory_text, Reports.Report, Outcome.{Held, Outcome, HasCause, IsReport, NamesRead, UntoldCause, WhereTold, nothing_held, written_for}, Words.{TextSource, Files, words_of}}
use Rattle.smk_top.specs.{declared.status.Status.Status, declared.status.Status.TheVariants.NoMemory, Statuses.{status_of_report, status_of_fault}, Endings.Ends, EndingsTold.{SaysLine, EndsTold, reported, unwritten, faulted, unread, exhausted, exhausted_behind, EndsUntold, EndsExactly, EndsAsTold}}
use Rattle.smk_top.specs.Endings as ends

-- what is so of the run is what is so over files that hold this
abbrev IsOver : List (List ℕ) → Option Held → Held → Type 0 → Type 0
IsOver words at held f = ((report : Report) → IsReport words at report ↔ Outcome words held (Ok report)) × ((fault : Fault) → HasCause words at f fault ↔ HasCause words (Some held) f fault)

told_fault : (words : List (List ℕ)) (held : Held) (f o e : Type 0) (ws : Option TextSource) (fault : Fault) {status : Status} {said : List ℕ} → words_of words ≡ ws
    → Outcome words held (Err fault) ⊎ (f × NamesRead ws held fault) → SaysLine e (status_of_fault fault) (fault_text fault) status said → EndsTold words held f o e status [] said
told_fault words held f o e ws fault same (inl is) says = faulted fault is says
told_fault words held f o e (Some (Files book script)) (Unread file) same (inr (up, asked)) says = unread book script file same asked up says
told_fault words held f o e _ fault same (inr (up, asked)) says = absurd asked

is_told : (words : List (List ℕ)) (at : Option Held) (held : Held) (f o e : Type 0) {status : Status} {said told : List ℕ} → IsOver words at held f → Ends words at f o e status told said → EndsTold words held f o e status told said
is_told words at held f o e over (ends.reported report is) = reported report ((over.0 report).0 is)
is_told words at held f o e over (ends.faulted fault cause) = told_fault words held f o e (words_of words) fault refl ((over.1 fault).0 cause) (inl (refl, refl))
is_told words at held f o e over (ends.unwritten report part is front up) = unwritten report part ((over.0 report).0 is) front up
is_told words at held f o e over (ends.exhausted part (inl none)) = rw none (exhausted (inl (refl, refl)))
is_told words at held f o e over (ends.exhausted part (inr (report, is, front))) = exhausted_behind report part ((over.0 report).0 is) front (inl (refl, refl))
is_told words at held f o e over (ends.fault_unsaid fault said cause front up) = told_fault words held f o e (words_of words) fault refl ((over.1 fault).0 cause) (inr (refl, front, up))
is_told words at held f o e over (ends.memory_unsaid part said (inl none) front up) = rw none (exhausted (inr (refl, front, up)))
is_told words at held f o e over (ends.memory_unsaid part said (inr (report, is, begun)) front up) = exhausted_behind report part ((over.0 report).0 is) begun (inr (refl, front, up))

fault_ends : (words : List (List ℕ)) (at : Option Held) (f o e : Type 0) (fault : Fault) {status : Status} {said : List ℕ} → HasCause words at f fault → SaysLine e (status_of_fault fault) (fault_text fault) status said → Ends words at f o e status [] said
fault_ends words at f o e fault cause (inl (is, same)) = rw (is, same) (ends.faulted fault cause)
fault_ends words at f o e fault cause (inr (is, front, up)) = rw is (ends.fault_unsaid fault _ cause front up)

memory_ends : (words : List (List ℕ)) (at : Option Held) (f o e : Type 0) (part : List ℕ) {status : Status} {said : List ℕ} → ends.IsBegun words at part → SaysLine e NoMemory no_memory_text status said → Ends words at f o e status part said
memory_ends words at f o e part begun (inl (is, same)) = rw (is, same) (ends.exhausted part begun)
memory_ends words at f o e part begun (inr (is, front, up)) = rw is (ends.memory_unsaid part _ begun front up)

told_is : (words : List (List ℕ)) (at : Option Held) (held : Held) (f o e : Type 0) {status : Status} {said told : List ℕ} → IsOver words at held f → EndsTold words held f o e status told said → Ends words at f o e status told said
told_is words at held f o e over (reported report is) = ends.reported report ((over.0 report).1 is)
told_is words at held f o e over (unwritten report part is front up) = ends.unwritten report part ((over.0 report).1 is) front up
told_is words at held f o e over (faulted fault is says) = fault_ends words at f o e fault ((over.1 fault).1 (inl is)) says
told_is words at held f o e over (unread book script file is asked up says) = fault_ends words at f o e (Unread file) ((over.1 (Unread file)).1 (inr (up, rw is asked))) says
told_is words at held f o e over (exhausted says) = memory_ends words at f o e [] (inl refl) says
told_is words at held f o e over (exhausted_behind report part is front says) = memory_ends words at f o e part (inr (report, (over.0 report).1 is, front)) says

untold_cause : (words : List (List ℕ)) (ws : Option TextSource) (f : Type 0) (fault : Fault) → words_of words ≡ ws → HasCause words None f fault → WhereTold None ws (UntoldCause f fault) (λ h. Outcome words h (Err fault) ⊎ (f × NamesRead (words_of words) h fault))
untold_cause words ws f fault same cause = rw (← same) cause

is_untold : (words : List (List ℕ)) (book : List ℕ) (script : Option (List ℕ)) (f o e : Type 0) {status : Status} {said told : List ℕ} → words_of words ≡ Some (Files book script) → Ends words None f o e status told said → EndsUntold f o e status told said
is_untold words book script f o e same (ends.reported report is) = rw same (reported report)
is_untold words book script f o e same (ends.faulted fault cause) = faulted fault (untold_cause words _ f fault same cause) (inl (refl, refl))
is_untold words book script f o e same (ends.unwritten report part is front up) = unwritten part up
is_untold words book script f o e same (ends.exhausted part begun) = exhausted part (inl (refl, refl))
is_untold words book script f o e same (ends.fault_unsaid fault said cause front up) = faulted fault (untold_cause words _ f fault same cause) (inr (refl, front, up))
is_untold words book script f o e same (ends.memory_unsaid part said begun front up) = exhausted part (inr (refl, front, up))

abbrev some_report : List ℕ → Report
some_report text = record { sizes = []; replies = 0; refused = 0; unread = 0; text = text }

untold_is : (words : List (List ℕ)) (book : List ℕ) (script : Option (List ℕ)) (f o e : Type 0) {status : Status} {said told : List ℕ} → words_of words ≡ Some (Files book script) → EndsUntold f o e status told said → Ends words None f o e status told said
untold_is words book script f o e same (reported report) = subst (λ text. Ends words None f o e (status_of_report report) text []) (ap (λ ws. written_for ws report) same) (ends.reported report (rw same tt))
untold_is words book script f o e same (unwritten part up) = ends.unwritten (some_report part) part (rw same tt) (rw same ([], sym (append-nil part))) up
untold_is words book script f o e same (faulted fault cause says) = fault_ends words None f o e fault (rw same cause) says
untold_is words book script f o e same (exhausted part says) = memory_ends words None f o e part (inr (some_report part, rw same tt, rw same ([], sym (append-nil part)))) says

over_nothing : (words : List (List ℕ)) (ws : Option TextSource) (rest : Type 0) (is : Held → Type 0) → words_of words ≡ ws → ((book : List ℕ) (script : Option (List ℕ)) → words_of words ≡ Some (Files book script) → ⊥) → WhereTold None ws rest is ↔ is nothing_held
over_nothing words (Some (Files book script)) rest is same none = absurd (none book script same)
over_nothing words _ rest is same none = (λ x. x, λ x. x)

exactly : (words : List (List ℕ)) (held : Option Held) (endings : Type 0 → Type 0 → Type 0 → Status → List ℕ → List ℕ → Type 0)
    → ((f o e : Type 0) (status : Status) (told said : List ℕ) → Ends words held f o e status told said ↔ endings f o e status told said) → EndsExactly words held endings
exactly words held endings same f f' o o' e e' ob oa eb ea status =
    (λ (told, said, out, err, is). (told, said, out, err, (same _ _ _ status told said).0 is), λ (told, said, out, err, is). (told, said, out, err, (same _ _ _ status told said).1 is))

over : (words : List (List ℕ)) (at : Option Held) (held : Held) → ((f : Type 0) → IsOver words at held f) → EndsExactly words at (EndsTold words held)
over words at held is = exactly words at (EndsTold words held) (λ f o e status told said. (is_told words at held f o e (is f), told_is words at held f o e (is f)))

pub as_told : EndsAsTold
as_told = record {
  told = λ words held. over words (Some held) held (λ f. (λ report. (λ x. x, λ x. x), λ fault. (λ x. x, λ x. x)));
  untold = λ words book script same. exactly words None EndsUntold (λ f o e status told said. (is_untold words book script f o e same, untold_is words book script f o e same));
  no_file = λ words none. over words None nothing_held (λ f. (λ report. over_nothing words (words_of words) _ _ refl none, λ fault. over_nothing words (words_of words) _ _ refl none));
}
