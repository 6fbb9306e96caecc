-- What is so of the steps of a run before anything is written.
use Rattle.std.specs.Prelude.{◌≡◌, ◌⊎◌, ⊤, ℕ, List, ◌∷◌, ◌++◌, Option, Some, None, option_map, Result, Ok, Err}
use Rattle.smk_base.specs.{declared.fault.Fault.Fault, declared.fault.Fault.TheVariants.Unread, declared.book.catalog.TableInfo.TableInfo}
use Rattle.smk_model.specs.{Values.Row, FaultTexts.IsSaid, Readings.{Reading, AreReadingsOf}, Session.Workbook, Opening.{first_view_fault, fault_named}, Outcome.{Held, Inputs, OpensScript, ReadsFiles, NamesAsked, load_all, UntoldCause}}
use Rattle.smk_inputs.specs.{declared.stop.Stop.Stop, declared.stop.Stop.TheVariants.{At, Unwritten, Exhausted}}

-- a step's answer, read by `image`, is one that the definition has; or memory ran out
abbrev pub Answers : {A X : Type 0} → (Result A Fault → Type 0) → (X → A) → Result X Stop → Type 0
Answers says image (Ok x) = says (Ok (image x))
Answers says image (Err (At fault)) = says (Err fault)
Answers says image (Err Unwritten) = ⊥
Answers says image (Err Exhausted) = ⊤

-- a step that reads the file with this name answers what the definition says by what the files hold; or the file can't be read; or memory ran out
abbrev pub ReadsNamed : {A X : Type 0} → Option Held → Type 0 → List ℕ → (Held → Result A Fault → Type 0) → (X → A) → Result X Stop → Type 0
ReadsNamed (Some held) rose name says image (Ok x) = says held (Ok (image x))
ReadsNamed (Some held) rose name says image (Err (At fault)) = says held (Err fault) ⊎ (rose × (fault ≡ Unread name))
ReadsNamed None rose name says image (Err (At fault)) = UntoldCause rose fault
ReadsNamed _ rose name says image (Err Unwritten) = ⊥
ReadsNamed _ rose name says image _ = ⊤

-- the file of one of these tables can't be read, and those before it are loaded
pub data IsUnreadAmong (held : Held) (tables : List TableInfo) (fault : Fault) : Type 0 where
  unread_among : {rows : List (List Row)} (before : List TableInfo) (table : TableInfo) (behind : List TableInfo) → tables ≡ before ++ table ∷ behind → load_all held before ≡ Ok rows → fault ≡ Unread table.file → IsUnreadAmong held tables fault

-- such a step, for the files of tables one after the other
abbrev pub Loads : {X : Type 0} → Option Held → Type 0 → List TableInfo → (X → List (List Row)) → Result X Stop → Type 0
Loads (Some held) rose tables image (Ok x) = load_all held tables ≡ Ok (image x)
Loads (Some held) rose tables image (Err (At fault)) = (load_all held tables ≡ Err fault) ⊎ (rose × IsUnreadAmong held tables fault)
Loads None rose tables image (Err (At fault)) = UntoldCause rose fault
Loads _ rose tables image (Err Unwritten) = ⊥
Loads _ rose tables image _ = ⊤

-- the bytes of a run's script, or no bytes if it has none; or a fault with its cause; or memory ran out
abbrev pub OpensBytes : {X : Type 0} → Option Held → Type 0 → Option (List ℕ) → (X → List ℕ) → Result X Stop → Type 0
OpensBytes (Some held) rose script bytes (Ok x) = (readings : List Reading) → AreReadingsOf (bytes x) readings → OpensScript held script (Ok readings)
OpensBytes (Some held) rose script bytes (Err (At fault)) = OpensScript held script (Err fault) ⊎ (rose × ((name : List ℕ) × (script ≡ Some name) × (fault ≡ Unread name)))
OpensBytes None rose script bytes (Err (At fault)) = UntoldCause rose fault
OpensBytes _ rose script bytes (Err Unwritten) = ⊥
OpensBytes _ rose script bytes _ = ⊤

-- what is read of the book and the script with these names, whatever the script's lines say; or a fault with its cause; or memory ran out
abbrev pub ReadsAll : {X : Type 0} → Option Held → Type 0 → List ℕ → Option (List ℕ) → (X → List Reading → Inputs) → (X → List ℕ) → Result X Stop → Type 0
ReadsAll (Some held) rose book script reads bytes (Ok x) = (readings : List Reading) → AreReadingsOf (bytes x) readings → ReadsFiles held book script (Ok (reads x readings))
ReadsAll (Some held) rose book script reads bytes (Err (At fault)) = ReadsFiles held book script (Err fault) ⊎ (rose × NamesAsked held book script fault)
ReadsAll None rose book script reads bytes (Err (At fault)) = UntoldCause rose fault
ReadsAll _ rose book script reads bytes (Err Unwritten) = ⊥
ReadsAll _ rose book script reads bytes _ = ⊤

-- no view has a fault, or it is the first one; or memory ran out
abbrev pub Starts : {X : Type 0} → Workbook → Result X Stop → Type 0
Starts book (Ok x) = first_view_fault book ≡ None
Starts book (Err (At fault)) = option_map (fault_named book.catalog) (first_view_fault book) ≡ Some fault
Starts book (Err Unwritten) = ⊥
Starts book (Err Exhausted) = ⊤

-- a fault of a step has a line that says it
abbrev pub IsSayable : {X : Type 0} → Result X Stop → Type 0
IsSayable (Err (At fault)) = IsSaid fault
IsSayable _ = ⊤
