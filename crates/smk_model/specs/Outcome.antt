-- The outcome of a run, by its words and by what the files hold: its report, or its first fault.
use Rattle.std.specs.{Prelude.{◌≡◌, ◌⊎◌, ⊤, ℕ, ◌+◌, cond, nat_lt, nat_eq, List, [], ◌∷◌, ◌++◌, length, map, slice_index_or, Option, Some, None, option_map, Result, Ok, Err}, Option.ok_or, List.{find, filter_map}, Cmp.Lexicographic.pointwise}
use Rattle.smk_base.specs.{Marks.after_marks, Trees.{StmtImage, AnyLineImage, AppendedLine}, CatalogImage.CatalogImage, declared.book.catalog.TableInfo.TableInfo, declared.book.col_decl.ColDecl.ColDecl, declared.demo.Demo.Demo as DemoTexts, declared.demo.DemoFile.DemoFile, declared.demo.TheConstants.{DEMO_BOOK_NAME, DEMO_SCRIPT_NAME}, declared.value.Kind.TheVariants.Text, declared.fault.Fault.Fault, declared.fault.Fault.TheVariants.{Usage, Book, Types, Table, FileLong, TableRows, Unread}, declared.fault.BookFault.BookFault, declared.fault.TableFault.TableFault}
use Rattle.smk_base.specs.declared.fault.TableFault.TheVariants as table_faults
use Rattle.smk_model.specs.{Words.{TextSource, Files, Demo, words_of}, Values.Row, Tokens.tokens, Spelled.AreStmts, TokenReadings.book_fault, Names.{Typed, ◌>>=◌}, Typing.types, Expanded.{expanded, dependency_names}, Tables.{table_of, all_or_first}, Readings.{Reading, Asks, AreReadingsOf}, ReplyTexts.table_named, Session.Workbook, Opening.{ViewFault, first_view_fault, fault_named}, Looks.start_looks, Reports.{BookSaid, Report, report_of, script_told}, Demo.{demo_of, summary_of}}

-- what the files hold: the bytes under a name, or none
abbrev pub Held : Type 0
Held = List ℕ → Option (List ℕ)

-- the most bytes that a file may have
abbrev pub file_limit : ℕ
file_limit = 67108864

-- the bytes of a file, unless it can't be read or is too long
abbrev pub kept_short : List ℕ → List ℕ → Result (List ℕ) Fault
kept_short name bytes = cond (nat_lt file_limit (length bytes)) (Err (FileLong name)) (Ok bytes)

abbrev pub file_bytes : Held → List ℕ → Result (List ℕ) Fault
file_bytes held name = ok_or (held name) (Unread name) >>= kept_short name

-- the statements that a text spells, or its first fault
pub data Parses (text : List ℕ) : Result (List StmtImage) Fault → Type 0 where
  spells : {stmts : List StmtImage} → AreStmts (tokens text) stmts → book_fault (tokens text) ≡ None → Parses text (Ok stmts)
  misspells : {fault : BookFault} → book_fault (tokens text) ≡ Some fault → Parses text (Err (Book fault))

-- what statements say, each dependency replaced, or their first fault of typing
abbrev pub said_or_fault : List (List ℕ) → Typed CatalogImage → Result BookSaid Fault
said_or_fault fds (Ok catalog) = Ok (record { catalog = catalog; fds = fds })
said_or_fault fds (Err fault) = Err (Types fault)

abbrev pub statements_say : List StmtImage → Result BookSaid Fault
statements_say stmts = said_or_fault (dependency_names stmts) (types (expanded stmts))

-- what the bytes of a book's file say, without the byte order marks at its start
pub data BookSays (bytes : List ℕ) : Result BookSaid Fault → Type 0 where
  unparsed : {fault : Fault} → Parses (after_marks bytes) (Err fault) → BookSays bytes (Err fault)
  parsed : {stmts : List StmtImage} {answer : Result BookSaid Fault} → Parses (after_marks bytes) (Ok stmts) → statements_say stmts ≡ answer → BookSays bytes answer

-- what a file says, by its bytes, or the file's fault
pub data FileSays {A : Type 0} (held : Held) (name : List ℕ) (says : List ℕ → Result A Fault → Type 0) : Result A Fault → Type 0 where
  unread : {fault : Fault} → file_bytes held name ≡ Err fault → FileSays held name says (Err fault)
  read : {bytes : List ℕ} {answer : Result A Fault} → file_bytes held name ≡ Ok bytes → says bytes answer → FileSays held name says answer

abbrev pub OpensBook : Held → List ℕ → Result BookSaid Fault → Type 0
OpensBook held name answer = FileSays held name BookSays answer

-- the name of a declared column
abbrev pub no_column : ColDecl
no_column = record { name = []; kind = Text; def = None }

abbrev pub column_name : List ColDecl → ℕ → List ℕ
column_name cols c = (slice_index_or cols c no_column).name

-- the name of the column that a table's fault is about, if any
abbrev pub faulty_column : List ColDecl → TableFault → Option (List ℕ)
faulty_column cols (table_faults.MissingColumn c) = Some (column_name cols c)
faulty_column cols (table_faults.RepeatedColumn c) = Some (column_name cols c)
faulty_column cols (table_faults.BadInt nth c) = Some (column_name cols c)
faulty_column cols _ = None

-- a table's fault as a fault of the run
abbrev pub fault_of_table : TableInfo → TableFault → Fault
fault_of_table table table_faults.TooManyRows = TableRows table.name
fault_of_table table fault = Table table.name (faulty_column table.cols fault) fault

abbrev pub or_table_fault : TableInfo → Result (List Row) TableFault → Result (List Row) Fault
or_table_fault table (Ok rows) = Ok rows
or_table_fault table (Err fault) = Err (fault_of_table table fault)

-- the rows of a table, from its file, or the first fault
abbrev pub load : Held → TableInfo → Result (List Row) Fault
load held table = file_bytes held table.file >>= λ bytes. or_table_fault table (table_of table.cols bytes)

-- the rows of each table in the book's order, or the first fault
abbrev pub load_all : Held → List TableInfo → Result (List (List Row)) Fault
load_all held tables = all_or_first (map (load held) tables)

-- what each line of a script says; a script's bytes are never at fault
pub data ScriptSays (bytes : List ℕ) : Result (List Reading) Fault → Type 0 where
  lines_read : {readings : List Reading} → AreReadingsOf bytes readings → ScriptSays bytes (Ok readings)

-- what each line of a run's script says; without a script there are no lines
pub data OpensScript (held : Held) : Option (List ℕ) → Result (List Reading) Fault → Type 0 where
  no_script : OpensScript held None (Ok [])
  a_script : {name : List ℕ} {answer : Result (List Reading) Fault} → FileSays held name ScriptSays answer → OpensScript held (Some name) answer

-- a table of a book, with another file
abbrev pub filed : List ℕ → TableInfo → TableInfo
filed file table = record { name = table.name; file = file; cols = table.cols }

-- the table that a line appends to, with the line's file, if the book has the table
abbrev pub appended_by : CatalogImage → AnyLineImage → Option TableInfo
appended_by catalog (AppendedLine table file) = option_map (filed file) (table_named catalog table)
appended_by catalog _ = None

abbrev pub appended_at : CatalogImage → Reading → Option TableInfo
appended_at catalog (Asks asked) = appended_by catalog asked
appended_at catalog _ = None

-- these tables, line by line
abbrev pub appended : CatalogImage → List Reading → List TableInfo
appended catalog readings = filter_map (appended_at catalog) readings

-- what a run reads: its workbook, the names of the dependencies, what its lines say, and the rows that they append
pub record Inputs : Type 0 where
  pub book : Workbook
  pub fds : List (List ℕ)
  pub readings : List Reading
  pub added : List (List Row)

-- what is read of the book and the script with these names, or the first fault, in this order: the book; the tables in the book's order; the script; the files that its lines append
pub data ReadsFiles (held : Held) (book : List ℕ) (script : Option (List ℕ)) : Result Inputs Fault → Type 0 where
  no_book : {fault : Fault} → OpensBook held book (Err fault) → ReadsFiles held book script (Err fault)
  no_tables : {said : BookSaid} {fault : Fault} → OpensBook held book (Ok said) → load_all held said.catalog.tables ≡ Err fault → ReadsFiles held book script (Err fault)
  no_readings : {said : BookSaid} {tables : List (List Row)} {fault : Fault} → OpensBook held book (Ok said)
      → load_all held said.catalog.tables ≡ Ok tables → OpensScript held script (Err fault) → ReadsFiles held book script (Err fault)
  no_rows : {said : BookSaid} {tables : List (List Row)} {readings : List Reading} {fault : Fault} → OpensBook held book (Ok said)
      → load_all held said.catalog.tables ≡ Ok tables → OpensScript held script (Ok readings) → load_all held (appended said.catalog readings) ≡ Err fault → ReadsFiles held book script (Err fault)
  inputs : {said : BookSaid} {tables : List (List Row)} {readings : List Reading} {added : List (List Row)} → OpensBook held book (Ok said)
      → load_all held said.catalog.tables ≡ Ok tables → OpensScript held script (Ok readings) → load_all held (appended said.catalog readings) ≡ Ok added
      → ReadsFiles held book script (Ok (record { book = record { catalog = said.catalog; tables = tables }; fds = said.fds; readings = readings; added = added }))

-- the bytes of the first file with this name
abbrev pub file_named : List DemoFile → Held
file_named files name = option_map (λ (file : DemoFile). file.bytes) (find (λ file. pointwise nat_eq file.name name) files)

-- the bytes of a demo's text with this name, as if it were a file
abbrev pub text_named : DemoTexts → Held
text_named texts name =
    cond (pointwise nat_eq name DEMO_BOOK_NAME.now) (Some texts.book)
    (cond (pointwise nat_eq name DEMO_SCRIPT_NAME.now) (Some texts.script)
    (file_named texts.files name))

-- where a run finds its texts, and under which names: in files, or in the demo
abbrev pub source_of : TextSource → Held → Held
source_of (Files book script) held = held
source_of (Demo n) held = text_named (demo_of n)

abbrev pub book_of : TextSource → List ℕ
book_of (Files book script) = book
book_of (Demo n) = DEMO_BOOK_NAME.now

abbrev pub script_of : TextSource → Option (List ℕ)
script_of (Files book script) = script
script_of (Demo n) = Some DEMO_SCRIPT_NAME.now

-- what a run reads, or its first fault
pub data ReadsInputs (words : List (List ℕ)) (held : Held) : Result Inputs Fault → Type 0 where
  unusable : words_of words ≡ None → ReadsInputs words held (Err Usage)
  usable : {ws : TextSource} {answer : Result Inputs Fault} → words_of words ≡ Some ws → ReadsFiles (source_of ws held) (book_of ws) (script_of ws) answer → ReadsInputs words held answer

-- the report of what was read, or the first fault of a view
abbrev pub unless_view_fault : Inputs → Option ViewFault → Result Report Fault
unless_view_fault given (Some found) = Err (fault_named given.book.catalog found)
unless_view_fault given None = Ok (report_of given.book given.fds given.added given.readings)

abbrev pub reported : Inputs → Result Report Fault
reported given = unless_view_fault given (first_view_fault given.book)

-- the most looks of a run with these inputs
abbrev pub run_looks : Inputs → ℕ
run_looks given = start_looks given.book + (script_told given.book given.fds given.added given.readings).looks

-- the outcome of a run: its report or the first fault
pub data Outcome (words : List (List ℕ)) (held : Held) : Result Report Fault → Type 0 where
  unreadable : {fault : Fault} → ReadsInputs words held (Err fault) → Outcome words held (Err fault)
  read : {inputs : Inputs} {answer : Result Report Fault} → ReadsInputs words held (Ok inputs) → reported inputs ≡ answer → Outcome words held answer

-- what a run writes of its report: the text, or the summary of a demo
abbrev pub written_for : Option TextSource → Report → List ℕ
written_for (Some (Files book script)) report = report.text
written_for (Some (Demo n)) report = summary_of n report
written_for None report = []

abbrev pub written_of : List (List ℕ) → Report → List ℕ
written_of words report = written_for (words_of words) report

-- a file that a run reads: nothing that is read before it has a fault
pub data IsAskedFor (held : Held) (book : List ℕ) (script : Option (List ℕ)) : List ℕ → Type 0 where
  the_book : IsAskedFor held book script book
  a_table : {said : BookSaid} {tables : List (List Row)} (before : List TableInfo) (table : TableInfo) (behind : List TableInfo) → OpensBook held book (Ok said)
      → said.catalog.tables ≡ before ++ table ∷ behind → load_all held before ≡ Ok tables → IsAskedFor held book script table.file
  the_script : {said : BookSaid} {tables : List (List Row)} {name : List ℕ} → OpensBook held book (Ok said)
      → load_all held said.catalog.tables ≡ Ok tables → script ≡ Some name → IsAskedFor held book script name
  of_a_line : {said : BookSaid} {tables added : List (List Row)} {readings : List Reading} (before : List TableInfo) (table : TableInfo) (behind : List TableInfo) → OpensBook held book (Ok said)
      → load_all held said.catalog.tables ≡ Ok tables → OpensScript held script (Ok readings)
      → appended said.catalog readings ≡ before ++ table ∷ behind → load_all held before ≡ Ok added → IsAskedFor held book script table.file

-- the fault of a read that failed: such a file can't be read
abbrev pub NamesAsked : Held → List ℕ → Option (List ℕ) → Fault → Type 0
NamesAsked held book script (Unread file) = IsAskedFor held book script file
NamesAsked held book script _ = ⊥

-- such a fault of a run; a demo reads no file
abbrev pub NamesRead : Option TextSource → Held → Fault → Type 0
NamesRead (Some (Files book script)) held fault = NamesAsked held book script fault
NamesRead _ held fault = ⊥

-- files that hold nothing
abbrev pub nothing_held : Held
nothing_held name = None

-- what is known of a run, by what the files hold: where they don't tell, only `rest` is known; a run that reads no file doesn't depend on them
abbrev pub WhereTold : Option Held → Option TextSource → Type 0 → (Held → Type 0) → Type 0
WhereTold (Some held) words rest is = is held
WhereTold None (Some (Files book script)) rest is = rest
WhereTold None _ rest is = is nothing_held

-- what is known of a fault where the files don't tell what they hold: it isn't one of usage, and an unread file is a failed read
abbrev pub UntoldCause : Type 0 → Fault → Type 0
UntoldCause rose Usage = ⊥
UntoldCause rose (Unread file) = rose
UntoldCause rose _ = ⊤

-- the cause of a fault: it is the run's outcome, or a read failed, which the count of faults shows
abbrev pub HasCause : List (List ℕ) → Option Held → Type 0 → Fault → Type 0
HasCause words held rose fault = WhereTold held (words_of words) (UntoldCause rose fault) (λ held. Outcome words held (Err fault) ⊎ (rose × NamesRead (words_of words) held fault))

-- this report is the run's outcome
abbrev pub IsReport : List (List ℕ) → Option Held → Report → Type 0
IsReport words held report = WhereTold held (words_of words) ⊤ (λ held. Outcome words held (Ok report))
