-- How a conversation starts, by its words and by what the files hold: with what it reads, or with its first fault.
use Rattle.std.specs.{Prelude.{◌≡◌, ◌⊎◌, ◌≤◌, ◌+◌, ⊤, ℕ, Bool, true, false, List, [], ◌∷◌, length, Option, Some, None, is_some, Result, Ok, Err, codes}, List.filter}
use Rattle.smk_base.specs.{declared.book.catalog.TableInfo.TableInfo, declared.fault.Fault.Fault, declared.fault.Fault.TheVariants.{Usage, Unread}}
use Rattle.smk_model.specs.{Conversation.{TalkTurn, Unbrought, FilesBring}, Demo.demo_of, FaultTexts.fault_text, Opening.{ViewFault, first_view_fault, fault_named}, Outcome.{Held, Inputs, ReadsFiles, NamesAsked, UntoldCause, WhereTold, book_of, source_of, text_named}, TalkWords.{TalkCall, talk_call_of, talk_source}, Texts.line, Values.Row, Words.{TextSource, Files, Demo}}

-- what is read before the first line, or its first fault: the book and its tables
pub data ReadsTalk (words : List (List ℕ)) (held : Held) : Result Inputs Fault → Type 0 where
  unusable : talk_call_of words ≡ None → ReadsTalk words held (Err Usage)
  usable : {call : TalkCall} {answer : Result Inputs Fault} → talk_call_of words ≡ Some call → ReadsFiles (source_of call.texts held) (book_of call.texts) None answer → ReadsTalk words held answer

-- what was read, or the first fault of a view
abbrev pub read_unless : Inputs → Option ViewFault → Result Inputs Fault
read_unless given (Some found) = Err (fault_named given.book.catalog found)
read_unless given None = Ok given

abbrev pub started : Inputs → Result Inputs Fault
started given = read_unless given (first_view_fault given.book)

-- what a conversation starts with, or its first fault
pub data StartsTalk (words : List (List ℕ)) (held : Held) : Result Inputs Fault → Type 0 where
  unreadable : {fault : Fault} → ReadsTalk words held (Err fault) → StartsTalk words held (Err fault)
  read : {inputs : Inputs} {answer : Result Inputs Fault} → ReadsTalk words held (Ok inputs) → started inputs ≡ answer → StartsTalk words held answer

-- the fault of a read that failed; a demo reads no file
abbrev pub NamesReadFirst : Option TextSource → Held → Fault → Type 0
NamesReadFirst (Some (Files book script)) held fault = NamesAsked held book None fault
NamesReadFirst _ held fault = ⊥

-- the cause of a fault: it is what the conversation starts with, or a read failed, which the count of faults shows
abbrev pub HasTalkCause : List (List ℕ) → Option Held → Type 0 → Fault → Type 0
HasTalkCause words held rose fault = WhereTold held (talk_source words) (UntoldCause rose fault) (λ held. StartsTalk words held (Err fault) ⊎ (rose × NamesReadFirst (talk_source words) held fault))

-- a conversation starts with these inputs
abbrev pub IsTalkStart : List (List ℕ) → Option Held → Inputs → Type 0
IsTalkStart words held given = WhereTold held (talk_source words) ⊤ (λ held. StartsTalk words held (Ok given))

-- the fault is that the table's file can't be read
abbrev pub IsUnreadFile : Option TableInfo → Result (List Row) Fault → Type 0
IsUnreadFile (Some table) brought = brought ≡ Err (Unread table.file)
IsUnreadFile None brought = ⊥

-- the rows or the fault of the file that a line appends, where the files don't tell what they hold
abbrev pub BringsUntold : Type 0 → Option TableInfo → Result (List Row) Fault → Type 0
BringsUntold rose None brought = brought ≡ Ok []
BringsUntold rose (Some table) (Ok rows) = ⊤
BringsUntold rose (Some table) (Err fault) = UntoldCause rose fault

-- the rows or the fault of the file that a line appends: as the files hold it, or a failed read, which the count of faults shows
abbrev pub BringsBy : Option Held → Type 0 → Option TableInfo → Result (List Row) Fault → Type 0
BringsBy (Some held) rose table brought = FilesBring held table brought ⊎ (rose × IsUnreadFile table brought)
BringsBy None rose table brought = BringsUntold rose table brought

-- whether the files have a file of this name, or don't tell what they hold
abbrev pub may_have : Option Held → List ℕ → Bool
may_have (Some held) file = is_some (held file)
may_have None file = true

-- whether a line was refused because its file can't be read, though the files may have it; and how many were
abbrev pub is_misread : Option Held → TalkTurn → Bool
is_misread held (Unbrought bytes (Unread file)) = may_have held file
is_misread held _ = false

abbrev pub misreads : Option Held → List TalkTurn → ℕ
misreads held turns = length (filter (is_misread held) turns)

-- the count of faults has risen by at least so many, or is as high as 64 bits can hold
abbrev pub FailedReads : ℕ → ℕ → ℕ → Type 0
FailedReads count before after = (before + count ≤ after) ⊎ (18446744073709551615 ≤ after)

-- lines append files from where the book was found; those of a demo are its texts, which are read without a fault
abbrev pub line_files : TextSource → Option Held → Option Held
line_files (Files book script) held = held
line_files (Demo n) held = Some (text_named (demo_of n))

abbrev pub TalkBrings : TextSource → Option Held → Type 0 → Option TableInfo → Result (List Row) Fault → Type 0
TalkBrings (Files book script) held rose table brought = BringsBy held rose table brought
TalkBrings (Demo n) held rose table brought = BringsBy (line_files (Demo n) held) ⊥ table brought

-- what is said if the words don't ask for a conversation, and if no line can be heard
abbrev pub talk_usage_text : List ℕ
talk_usage_text = line (codes "usage: smoke_live [--mode inject|defer] [--workers 1..64] [--read-only] [--brief] (BOOK | --demo N)" ∷ [])

abbrev pub unheard_text : List ℕ
unheard_text = line (codes "smoke_live: cannot read standard input" ∷ [])

-- what is said of a fault: for the words a usage of its own, else what a run says
abbrev pub talk_fault_text : Fault → List ℕ
talk_fault_text Usage = talk_usage_text
talk_fault_text fault = fault_text fault
