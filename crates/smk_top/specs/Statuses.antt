-- The numbers of the statuses, and the statuses of reports and faults.
use Rattle.std.specs.Prelude.{⊤, ℕ, cond}
use Rattle.smk_base.specs.declared.fault.Fault.{Fault}
use Rattle.smk_base.specs.declared.fault.Fault.TheVariants as faults
use Rattle.smk_model.specs.Reports.{Report, is_turned_down}
use Rattle.smk_top.specs.{declared.status.Status.Status, declared.status.Status.TheVariants.{Done, DoneWithRefusals, Usage, BadBook, BadTable, Limit, ReadFault, WriteFault, NoMemory}}

abbrev pub code_of : Status → ℕ
code_of Done = 0
code_of DoneWithRefusals = 1
code_of Usage = 2
code_of BadBook = 3
code_of BadTable = 4
code_of Limit = 5
code_of ReadFault = 6
code_of WriteFault = 7
code_of NoMemory = 8

-- the status of a whole report
abbrev pub status_of_report : Report → Status
status_of_report report = cond (is_turned_down report) DoneWithRefusals Done

-- the status of a fault
abbrev pub status_of_fault : Fault → Status
status_of_fault faults.Usage = Usage
status_of_fault (faults.Book fault) = BadBook
status_of_fault (faults.Types fault) = BadBook
status_of_fault (faults.Table table column fault) = BadTable
status_of_fault (faults.Unread file) = ReadFault
status_of_fault _ = Limit

-- the words, the book, a table or a file has a fault; such a fault is found before any look at a row
abbrev pub IsReadingFault : Status → Type 0
IsReadingFault Usage = ⊤
IsReadingFault BadBook = ⊤
IsReadingFault BadTable = ⊤
IsReadingFault ReadFault = ⊤
IsReadingFault _ = ⊥

-- such a fault, but not of a file: its status is also that of a line that can't be heard
abbrev pub IsStartFault : Status → Type 0
IsStartFault ReadFault = ⊥
IsStartFault status = IsReadingFault status
