-- How a run may end: its status, and what it has appended to `out` and to `err`.
use Rattle.std.specs.Prelude.{◌≡◌, ◌⊎◌, ℕ, List, [], Option, Result, Ok, Err}
use Rattle.smk_base.specs.declared.fault.Fault.{Fault}
use Rattle.smk_model.specs.{FaultTexts.fault_text, Texts.no_memory_text, Reports.Report, Outcome.{Held, Inputs, IsReport, HasCause, written_of, reported as report_or_fault}}
use Rattle.smk_outside.specs.Outside.{IsPrefix, Appends, AppendsPart}
use Rattle.smk_inputs.specs.{declared.stop.Stop.Stop, declared.stop.Stop.TheVariants.{At, Unwritten, Exhausted}}
use Rattle.smk_top.specs.{declared.counts.Counts.Counts, declared.status.Status.Status, declared.status.Status.TheVariants.{WriteFault, NoMemory}, Statuses.{status_of_report, status_of_fault}, Counting.counts_of}

-- nothing, or a first part of what the run writes of its report
abbrev pub IsBegun : List (List ℕ) → Option Held → List ℕ → Type 0
IsBegun words held part = (part ≡ []) ⊎ ((report : Report) × IsReport words held report × IsPrefix part (written_of words report))

-- how a run of these words over these files may end, by whether the counts of faults of files, `out` and `err` rose in it
pub data Ends (words : List (List ℕ)) (held : Option Held) (files_rose out_rose err_rose : Type 0) : Status → List ℕ → List ℕ → Type 0 where
  -- the report is written whole, or a demo's summary, and nothing is said on `err`
  reported : (report : Report) → IsReport words held report → Ends words held files_rose out_rose err_rose (status_of_report report) (written_of words report) []
  -- `err` says a fault, and nothing is written on `out`
  faulted : (fault : Fault) → HasCause words held files_rose fault → Ends words held files_rose out_rose err_rose (status_of_fault fault) [] (fault_text fault)
  -- `out` failed, after a first part of what is written of the report
  unwritten : (report : Report) (part : List ℕ) → IsReport words held report → IsPrefix part (written_of words report) → out_rose
      → Ends words held files_rose out_rose err_rose WriteFault part []
  -- memory ran out, perhaps after a part of the report; `err` says so
  exhausted : (part : List ℕ) → IsBegun words held part → Ends words held files_rose out_rose err_rose NoMemory part no_memory_text
  -- a fault, and `err` failed while saying it
  fault_unsaid : (fault : Fault) (part : List ℕ) → HasCause words held files_rose fault → IsPrefix part (fault_text fault) → err_rose
      → Ends words held files_rose out_rose err_rose WriteFault [] part
  -- memory ran out, and `err` failed while saying so
  memory_unsaid : (part said : List ℕ) → IsBegun words held part → IsPrefix said no_memory_text → err_rose
      → Ends words held files_rose out_rose err_rose WriteFault part said

-- how a run may end, by what `out` and `err` tell of themselves before and after it
abbrev pub RunEnds : List (List ℕ) → Option Held → Type 0 → Type 0 → Type 0 → Option (List ℕ) → Option (List ℕ) → Option (List ℕ) → Option (List ℕ) → Status → Type 0
RunEnds words held files_rose out_rose err_rose out_before out_after err_before err_after status =
    (told : List ℕ) × (said : List ℕ) × Appends out_before out_after told × Appends err_before err_after said × Ends words held files_rose out_rose err_rose status told said

-- the result of a run's work, before anything is said on `err`: the counts of its report, or why it stops
abbrev pub Works : List (List ℕ) → Option Held → Type 0 → Type 0 → Option (List ℕ) → Option (List ℕ) → Result Counts Stop → Type 0
Works words held files_rose out_rose before after (Ok counts) = (report : Report) × IsReport words held report × Appends before after (written_of words report) × (counts ≡ counts_of report)
Works words held files_rose out_rose before after (Err (At fault)) = HasCause words held files_rose fault × Appends before after []
Works words held files_rose out_rose before after (Err Unwritten) = (report : Report) × IsReport words held report × AppendsPart before after (written_of words report) × out_rose
Works words held files_rose out_rose before after (Err Exhausted) = (told : List ℕ) × Appends before after told × IsBegun words held told

-- the report of what was read is written, or it is the first fault of a view; nothing is written before all views are evaluated
abbrev pub Reports : (Report → List ℕ) → Inputs → Type 0 → Option (List ℕ) → Option (List ℕ) → Result Counts Stop → Type 0
Reports writes inputs rose before after (Ok counts) = (report : Report) × (report_or_fault inputs ≡ Ok report) × Appends before after (writes report) × (counts ≡ counts_of report)
Reports writes inputs rose before after (Err (At fault)) = (report_or_fault inputs ≡ Err fault) × Appends before after []
Reports writes inputs rose before after (Err Unwritten) = (report : Report) × (report_or_fault inputs ≡ Ok report) × AppendsPart before after (writes report) × rose
Reports writes inputs rose before after (Err Exhausted) = Appends before after [] ⊎ ((report : Report) × (report_or_fault inputs ≡ Ok report) × AppendsPart before after (writes report))

-- `err` says that memory ran out, or only a part of that since it failed
abbrev pub SaysMemory : Type 0 → Option (List ℕ) → Option (List ℕ) → Status → Type 0
SaysMemory rose before after status =
    (said : List ℕ) × Appends before after said × (((status ≡ NoMemory) × (said ≡ no_memory_text)) ⊎ ((status ≡ WriteFault) × IsPrefix said no_memory_text × rose))

-- `err` says a fault, or only a part of it since it failed; or memory ran out for its line
abbrev pub SaysFault : Fault → Type 0 → Option (List ℕ) → Option (List ℕ) → Status → Type 0
SaysFault fault rose before after status =
    ((said : List ℕ) × Appends before after said × (((status ≡ status_of_fault fault) × (said ≡ fault_text fault)) ⊎ ((status ≡ WriteFault) × IsPrefix said (fault_text fault) × rose)))
    ⊎ SaysMemory rose before after status
