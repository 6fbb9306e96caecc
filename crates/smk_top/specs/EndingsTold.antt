-- How a run may end over files that tell what they hold, and over files that don't, side by side, with each cause written out.
use Rattle.std.specs.Prelude.{◌≡◌, ◌⊎◌, ◌↔◌, ℕ, List, [], Option, Some, None, Ok, Err}
use Rattle.smk_base.specs.{declared.fault.Fault.Fault, declared.fault.Fault.TheVariants.Unread}
use Rattle.smk_model.specs.{FaultTexts.fault_text, Texts.no_memory_text, Reports.Report, Outcome.{Held, Outcome, IsAskedFor, UntoldCause, nothing_held, written_of}, Words.{Files, words_of}}
use Rattle.smk_outside.specs.Outside.{IsPrefix, Appends, Rose}
use Rattle.smk_top.specs.{declared.status.Status.Status, declared.status.Status.TheVariants.{ReadFault, WriteFault, NoMemory}, Statuses.{status_of_report, status_of_fault}, Endings.RunEnds}

-- a line is said whole, and the status is its own; or `err` failed after a part of it
abbrev pub SaysLine : Type 0 → Status → List ℕ → Status → List ℕ → Type 0
SaysLine err_rose own line status said = ((status ≡ own) × (said ≡ line)) ⊎ ((status ≡ WriteFault) × IsPrefix said line × err_rose)

-- how a run of these words may end over files that tell that they hold this
pub data EndsTold (words : List (List ℕ)) (held : Held) (files_rose out_rose err_rose : Type 0) : Status → List ℕ → List ℕ → Type 0 where
  -- the outcome is a report, which is written whole, and nothing is said
  reported : (report : Report) → Outcome words held (Ok report) → EndsTold words held files_rose out_rose err_rose (status_of_report report) (written_of words report) []
  -- the outcome is a report, and `out` failed after a part of it
  unwritten : (report : Report) (part : List ℕ) → Outcome words held (Ok report) → IsPrefix part (written_of words report) → out_rose
      → EndsTold words held files_rose out_rose err_rose WriteFault part []
  -- the outcome is a fault, which is said
  faulted : (fault : Fault) {status : Status} {said : List ℕ} → Outcome words held (Err fault) → SaysLine err_rose (status_of_fault fault) (fault_text fault) status said
      → EndsTold words held files_rose out_rose err_rose status [] said
  -- a read failed, and it is said of a file that the run reads that it can't be read
  unread : (book : List ℕ) (script : Option (List ℕ)) (file : List ℕ) {status : Status} {said : List ℕ} → words_of words ≡ Some (Files book script) → IsAskedFor held book script file
      → files_rose → SaysLine err_rose ReadFault (fault_text (Unread file)) status said → EndsTold words held files_rose out_rose err_rose status [] said
  -- memory ran out before anything was written, which is said
  exhausted : {status : Status} {said : List ℕ} → SaysLine err_rose NoMemory no_memory_text status said → EndsTold words held files_rose out_rose err_rose status [] said
  -- the outcome is a report, and memory ran out after a part of it, which is said
  exhausted_behind : (report : Report) (part : List ℕ) {status : Status} {said : List ℕ} → Outcome words held (Ok report) → IsPrefix part (written_of words report)
      → SaysLine err_rose NoMemory no_memory_text status said → EndsTold words held files_rose out_rose err_rose status part said

-- how a run may end that reads files which don't tell what they hold
pub data EndsUntold (files_rose out_rose err_rose : Type 0) : Status → List ℕ → List ℕ → Type 0 where
  -- some report is written whole, and nothing is said
  reported : (report : Report) → EndsUntold files_rose out_rose err_rose (status_of_report report) report.text []
  -- `out` failed after a part of some report
  unwritten : (part : List ℕ) → out_rose → EndsUntold files_rose out_rose err_rose WriteFault part []
  -- some fault is said: not of the words, and of a file that can't be read only if a read failed
  faulted : (fault : Fault) {status : Status} {said : List ℕ} → UntoldCause files_rose fault → SaysLine err_rose (status_of_fault fault) (fault_text fault) status said
      → EndsUntold files_rose out_rose err_rose status [] said
  -- memory ran out after a part of some report, or before, which is said
  exhausted : (part : List ℕ) {status : Status} {said : List ℕ} → SaysLine err_rose NoMemory no_memory_text status said → EndsUntold files_rose out_rose err_rose status part said

-- a run of these words over these files ends in one of these endings, and each of them is an ending that it may have
abbrev pub EndsExactly : List (List ℕ) → Option Held → (Type 0 → Type 0 → Type 0 → Status → List ℕ → List ℕ → Type 0) → Type 0
EndsExactly words held endings = (files files_after outs outs_after errs errs_after : ℕ) (out_before out_after err_before err_after : Option (List ℕ)) (status : Status)
    → RunEnds words held (Rose files files_after) (Rose outs outs_after) (Rose errs errs_after) out_before out_after err_before err_after status
    ↔ ((told : List ℕ) × (said : List ℕ) × Appends out_before out_after told × Appends err_before err_after said
    × endings (Rose files files_after) (Rose outs outs_after) (Rose errs errs_after) status told said)

-- how a run ends: over files that tell what they hold; over files that don't, where its words name files; and where they name none, as if those told that they hold nothing
pub record EndsAsTold : Type 0 where
  pub told : (words : List (List ℕ)) (held : Held) → EndsExactly words (Some held) (EndsTold words held)
  pub untold : (words : List (List ℕ)) (book : List ℕ) (script : Option (List ℕ)) → words_of words ≡ Some (Files book script) → EndsExactly words None EndsUntold
  pub no_file : (words : List (List ℕ)) → ((book : List ℕ) (script : Option (List ℕ)) → words_of words ≡ Some (Files book script) → ⊥) → EndsExactly words None (EndsTold words nothing_held)
