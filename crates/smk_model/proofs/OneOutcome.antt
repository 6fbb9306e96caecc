-- A run has one outcome, and a script one list of readings.
use Rattle.std.specs.Prelude.{Option, Some, Result, Ok}
use Rattle.std.proofs.Common.{◌≡◌, ℕ, List, ap, subst, refl}
use Rattle.smk_base.specs.{Trees.StmtImage, declared.fault.Fault.Fault}
use Rattle.smk_model.specs.{Readings.{Reading, Asks, IsReading, says_nothing, asks, leaves, AreReadings, no_line, one_line}, Words.TextSource, Reports.BookSaid, Outcome.{Held, Parses, spells, misspells, BookSays, unparsed, parsed, FileSays, unread, read, ScriptSays, lines_read, OpensBook, OpensScript, no_script, a_script, Inputs, ReadsFiles, no_book, no_tables, no_readings, no_rows, inputs, source_of, book_of, script_of, ReadsInputs, unusable, usable, unreadable}, OutcomeLaws.{OneReading, OneInputs, OneOutcome}}
use Rattle.smk_model.proofs.OneTree.{one_book, one_any_line}

pub same_reading : {text : List ℕ} {a b : Reading} → IsReading text a → IsReading text b → a ≡ b
same_reading (says_nothing h) (says_nothing k) = refl
same_reading (says_nothing h) (asks n w f) = absurd (n h)
same_reading (says_nothing h) (leaves n f p) = absurd (n h)
same_reading (asks n w f) (says_nothing k) = absurd (n k)
same_reading (asks n w f) (asks m v g) = ap Asks (one_any_line _ _ _ w v)
same_reading (asks n w f) (leaves m g q) = absurd (cc)
same_reading (leaves n f p) (says_nothing k) = absurd (n k)
same_reading (leaves n f p) (asks m v g) = absurd (cc)
same_reading (leaves n f p) (leaves m g q) = cc

pub same_readings : {texts : List (List ℕ)} {a b : List Reading} → AreReadings texts a → AreReadings texts b → a ≡ b
same_readings no_line no_line = refl
same_readings (one_line p l) (one_line q m) = let r = same_reading p q in let s = same_readings l m in cc

pub one_reading : OneReading
one_reading bytes a b p q = same_readings p q

same_parse : {text : List ℕ} {a b : Result (List StmtImage) Fault} → Parses text a → Parses text b → a ≡ b
same_parse (spells p h) (spells q k) = ap Ok (one_book _ _ _ p q)
same_parse (spells p h) (misspells k) = absurd (cc)
same_parse (misspells h) (spells q k) = absurd (cc)
same_parse (misspells h) (misspells k) = cc

same_book : {bytes : List ℕ} {a b : Result BookSaid Fault} → BookSays bytes a → BookSays bytes b → a ≡ b
same_book (unparsed p) (unparsed q) = let r = same_parse p q in cc
same_book (unparsed p) (parsed q k) = let r = same_parse p q in absurd (cc)
same_book (parsed p h) (unparsed q) = let r = same_parse p q in absurd (cc)
same_book (parsed p h) (parsed q k) = let r = same_parse p q in cc

same_script : {bytes : List ℕ} {a b : Result (List Reading) Fault} → ScriptSays bytes a → ScriptSays bytes b → a ≡ b
same_script (lines_read p) (lines_read q) = ap Ok (same_readings p q)

-- a file says one thing, where its bytes do
same_file : {A : Type 0} {held : Held} {name : List ℕ} {says : List ℕ → Result A Fault → Type 0} {a b : Result A Fault}
    → ((bytes : List ℕ) (x y : Result A Fault) → says bytes x → says bytes y → x ≡ y) → FileSays held name says a → FileSays held name says b → a ≡ b
same_file one (unread h) (unread k) = cc
same_file one (unread h) (read k q) = absurd (cc)
same_file one (read h p) (unread k) = absurd (cc)
same_file {A} {held} {name} {says} {a} {b} one (read {bytes} h p) (read {bytes = others} k q) =
    let e : others ≡ bytes = cc in
    one bytes a b p (subst (λ l. says l b) e q)

pub same_opened : {held : Held} {book : List ℕ} {a b : Result BookSaid Fault} → OpensBook held book a → OpensBook held book b → a ≡ b
same_opened p q = same_file (λ bytes x y h k. same_book h k) p q

same_read : {held : Held} {s : Option (List ℕ)} {a b : Result (List Reading) Fault} → OpensScript held s a → OpensScript held s b → a ≡ b
same_read no_script no_script = refl
same_read (a_script p) (a_script q) = same_file (λ bytes x y h k. same_script h k) p q

pub same_files : {held : Held} {book : List ℕ} {script : Option (List ℕ)} {a b : Result Inputs Fault} → ReadsFiles held book script a → ReadsFiles held book script b → a ≡ b
same_files (no_book b) (no_book c) = let o = same_opened b c in cc
same_files (no_book b) (no_tables c u) = let o = same_opened b c in absurd (cc)
same_files (no_book b) (no_readings c u r) = let o = same_opened b c in absurd (cc)
same_files (no_book b) (no_rows c u r d) = let o = same_opened b c in absurd (cc)
same_files (no_book b) (inputs c u r d) = let o = same_opened b c in absurd (cc)
same_files (no_tables b t) (no_book c) = let o = same_opened b c in absurd (cc)
same_files (no_tables b t) (no_tables c u) = let o = same_opened b c in cc
same_files (no_tables b t) (no_readings c u r) = let o = same_opened b c in absurd (cc)
same_files (no_tables b t) (no_rows c u r d) = let o = same_opened b c in absurd (cc)
same_files (no_tables b t) (inputs c u r d) = let o = same_opened b c in absurd (cc)
same_files (no_readings b t s) (no_book c) = let o = same_opened b c in absurd (cc)
same_files (no_readings b t s) (no_tables c u) = let o = same_opened b c in absurd (cc)
same_files (no_readings b t s) (no_readings c u r) = let o = same_opened b c in let f = same_read s r in cc
same_files (no_readings b t s) (no_rows c u r d) = let o = same_opened b c in let f = same_read s r in absurd (cc)
same_files (no_readings b t s) (inputs c u r d) = let o = same_opened b c in let f = same_read s r in absurd (cc)
same_files (no_rows b t s a) (no_book c) = let o = same_opened b c in absurd (cc)
same_files (no_rows b t s a) (no_tables c u) = let o = same_opened b c in absurd (cc)
same_files (no_rows b t s a) (no_readings c u r) = let o = same_opened b c in let f = same_read s r in absurd (cc)
same_files (no_rows b t s a) (no_rows c u r d) = let o = same_opened b c in let f = same_read s r in cc
same_files (no_rows b t s a) (inputs c u r d) = let o = same_opened b c in let f = same_read s r in absurd (cc)
same_files (inputs b t s a) (no_book c) = let o = same_opened b c in absurd (cc)
same_files (inputs b t s a) (no_tables c u) = let o = same_opened b c in absurd (cc)
same_files (inputs b t s a) (no_readings c u r) = let o = same_opened b c in let f = same_read s r in absurd (cc)
same_files (inputs b t s a) (no_rows c u r d) = let o = same_opened b c in let f = same_read s r in absurd (cc)
same_files (inputs b t s a) (inputs c u r d) = let o = same_opened b c in let f = same_read s r in cc

same_words : {read : Option TextSource} {u v : TextSource} → read ≡ Some u → read ≡ Some v → v ≡ u
same_words h k = cc

same_inputs : {words : List (List ℕ)} {held : Held} {a b : Result Inputs Fault} → ReadsInputs words held a → ReadsInputs words held b → a ≡ b
same_inputs (unusable w) (unusable v) = refl
same_inputs (unusable w) (usable v q) = absurd (cc)
same_inputs (usable w p) (unusable v) = absurd (cc)
same_inputs {held = held} {b = b} (usable w p) (usable v q) =
    same_files p (subst (λ (ws : TextSource). ReadsFiles (source_of ws held) (book_of ws) (script_of ws) b) (same_words w v) q)

pub one_inputs : OneInputs
one_inputs words held a b p q = same_inputs p q

pub one_outcome : OneOutcome
one_outcome words held a b (unreadable p) (unreadable q) = let e = same_inputs p q in cc
one_outcome words held a b (unreadable p) (read q k) = let e = same_inputs p q in absurd (cc)
one_outcome words held a b (read p h) (unreadable q) = let e = same_inputs p q in absurd (cc)
one_outcome words held a b (read p h) (read q k) = let e = same_inputs p q in cc
