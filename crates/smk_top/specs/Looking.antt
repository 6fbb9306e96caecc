-- How often a run looks at rows: a row of a table is read only by a look, which is counted.
use Rattle.std.specs.Prelude.{◌≡◌, ◌⊎◌, ◌≤◌, ◌+◌, ⊤, ℕ, List, Option, Result, Ok, Err}
use Rattle.smk_base.specs.declared.fault.Fault.{Fault}
use Rattle.smk_model.specs.{Outcome.{Held, Inputs, ReadsInputs, WhereTold, run_looks}, Words.words_of}
use Rattle.smk_inputs.specs.{declared.stop.Stop.Stop, declared.stop.Stop.TheVariants.At}
use Rattle.smk_top.specs.Statuses.{IsReadingFault, status_of_fault}

-- these are the inputs of the run, if the files tell what they hold
abbrev pub IsInputs : List (List ℕ) → Option Held → Inputs → Type 0
IsInputs words held inputs = WhereTold held (words_of words) ⊤ (λ held. ReadsInputs words held (Ok inputs))

-- no look was made, or at most those of a run with such inputs
abbrev pub RunLooks : List (List ℕ) → Option Held → ℕ → ℕ → Type 0
RunLooks words held before after = (after ≡ before) ⊎ ((given : Inputs) × IsInputs words held given × (after ≤ before + run_looks given))

-- no look was made if this is a fault of what is read
abbrev pub LooksBehind : Fault → ℕ → ℕ → Type 0
LooksBehind fault before after = IsReadingFault (status_of_fault fault) → after ≡ before

-- no look was made if a step stops at a fault of what is read
abbrev pub LooksBehindReading : {X : Type 0} → Result X Stop → ℕ → ℕ → Type 0
LooksBehindReading (Err (At fault)) before after = LooksBehind fault before after
LooksBehindReading _ before after = ⊤
