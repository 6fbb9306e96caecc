-- Every run has an outcome, and every script a list of readings.
use Rattle.std.specs.Prelude.{Option, Some, None, Result, Ok, Err}
use Rattle.std.proofs.Common.{◌≡◌, ℕ, List, [], ◌∷◌, refl}
use Rattle.smk_base.specs.{Marks.after_marks, Trees.StmtImage, declared.book.token.TokenKind.TokenKind, declared.fault.Fault.Fault, declared.fault.Fault.TheVariants.Book, declared.fault.BookFault.BookFault}
use Rattle.smk_base.specs.declared.book.token.TokenKind.TheVariants as kinds
use Rattle.smk_model.specs.{Values.Row, Tokens.{tokens, head_of}, TokenReadings.{no_tally, book_fault, any_fault}, Lines.{lines, place_of}, Readings.{Reading, Nothing, Asks, Unread, IsReading, says_nothing, asks, leaves, AreReadings, no_line, one_line}, Reports.{BookSaid, Report}, Words.{TextSource, words_of}, Outcome.{Held, Parses, spells, misspells, BookSays, unparsed, parsed, FileSays, unread, read, ScriptSays, lines_read, OpensBook, OpensScript, no_script, a_script, Inputs, ReadsFiles, no_book, no_tables, no_readings, no_rows, inputs, source_of, book_of, script_of, ReadsInputs, unusable, usable, Outcome, unreadable, file_bytes, load_all, appended, statements_say, reported}, OutcomeLaws.{FaultlessTextsSpell, SomeReading, SomeOutcome}, Rules.{AStmts, AWholeAnyLine}}
use Rattle.smk_model.proofs.Shapes.{faultless_finish, faultless_have_trees}

pub faultless_texts_spell : FaultlessTextsSpell
faultless_texts_spell text e = faultless_have_trees.book (tokens text) (faultless_finish (AStmts no_tally) refl refl text e) e

pub some_line : (text : List ℕ) → (reading : Reading) × IsReading text reading
some_line text = by (head_of (tokens text)).kind refl (any_fault (tokens text)) refl
  where
    by : (k : TokenKind) → (head_of (tokens text)).kind ≡ k → (f : Option BookFault) → any_fault (tokens text) ≡ f → (reading : Reading) × IsReading text reading
    by kinds.End q f e = (Nothing, says_nothing q)
    by _ q (Some f) e = (Unread (place_of f), leaves (λ h. absurd (cc)) e refl)
    by _ q None e = let r = faultless_have_trees.any (tokens text) (faultless_finish AWholeAnyLine refl refl text e) e in (Asks r.0, asks (λ h. absurd (cc)) r.1 e)

some_lines : (texts : List (List ℕ)) → (readings : List Reading) × AreReadings texts readings
some_lines [] = ([], no_line)
some_lines (text ∷ texts) = let r = some_line text in let s = some_lines texts in (r.0 ∷ s.0, one_line r.1 s.1)

pub some_reading : SomeReading
some_reading bytes = some_lines (lines (after_marks bytes))

some_parse : (text : List ℕ) → (answer : Result (List StmtImage) Fault) × Parses text answer
some_parse text = by (book_fault (tokens text)) refl
  where
    by : (f : Option BookFault) → book_fault (tokens text) ≡ f → (answer : Result (List StmtImage) Fault) × Parses text answer
    by (Some f) e = (Err (Book f), misspells e)
    by None e = let r = faultless_texts_spell text e in (Ok r.0, spells r.1 e)

some_book : (bytes : List ℕ) → (answer : Result BookSaid Fault) × BookSays bytes answer
some_book bytes = let r = some_parse (after_marks bytes) in by r.0 r.1
  where
    by : (a : Result (List StmtImage) Fault) → Parses (after_marks bytes) a → (answer : Result BookSaid Fault) × BookSays bytes answer
    by (Ok stmts) p = (statements_say stmts, parsed p refl)
    by (Err fault) p = (Err fault, unparsed p)

-- a file says something, where all bytes do
some_file : {A : Type 0} (held : Held) (name : List ℕ) (says : List ℕ → Result A Fault → Type 0) → ((bytes : List ℕ) → (answer : Result A Fault) × says bytes answer) → (answer : Result A Fault) × FileSays held name says answer
some_file {A} held name says all = by (file_bytes held name) refl
  where
    by : (c : Result (List ℕ) Fault) → file_bytes held name ≡ c → (answer : Result A Fault) × FileSays held name says answer
    by (Ok bytes) e = let r = all bytes in (r.0, read e r.1)
    by (Err fault) e = (Err fault, unread e)

some_script : (held : Held) (s : Option (List ℕ)) → (answer : Result (List Reading) Fault) × OpensScript held s answer
some_script held None = (Ok [], no_script)
some_script held (Some name) = let r = some_file held name ScriptSays (λ bytes. let q = some_reading bytes in (Ok q.0, lines_read q.1)) in (r.0, a_script r.1)

pub some_files : (held : Held) (book : List ℕ) (script : Option (List ℕ)) → (answer : Result Inputs Fault) × ReadsFiles held book script answer
some_files held book script = let r = some_file held book BookSays some_book in opened r.0 r.1
  where
    added : (said : BookSaid) (tables : List (List Row)) (readings : List Reading) → OpensBook held book (Ok said) → load_all held said.catalog.tables ≡ Ok tables → OpensScript held script (Ok readings)
        → (a : Result (List (List Row)) Fault) → load_all held (appended said.catalog readings) ≡ a → (answer : Result Inputs Fault) × ReadsFiles held book script answer
    added said tables readings b t p (Ok rows) e = (_, inputs b t p e)
    added said tables readings b t p (Err fault) e = (_, no_rows b t p e)

    scripted : (said : BookSaid) (tables : List (List Row)) → OpensBook held book (Ok said) → load_all held said.catalog.tables ≡ Ok tables
        → (s : Result (List Reading) Fault) → OpensScript held script s → (answer : Result Inputs Fault) × ReadsFiles held book script answer
    scripted said tables b t (Ok readings) p = added said tables readings b t p (load_all held (appended said.catalog readings)) refl
    scripted said tables b t (Err fault) p = (_, no_readings b t p)

    loaded : (said : BookSaid) → OpensBook held book (Ok said)
        → (t : Result (List (List Row)) Fault) → load_all held said.catalog.tables ≡ t → (answer : Result Inputs Fault) × ReadsFiles held book script answer
    loaded said b (Ok tables) e = let r = some_script held script in scripted said tables b e r.0 r.1
    loaded said b (Err fault) e = (_, no_tables b e)

    opened : (b : Result BookSaid Fault) → OpensBook held book b → (answer : Result Inputs Fault) × ReadsFiles held book script answer
    opened (Ok said) p = loaded said p (load_all held said.catalog.tables) refl
    opened (Err fault) p = (_, no_book p)

some_inputs : (words : List (List ℕ)) (held : Held) → (answer : Result Inputs Fault) × ReadsInputs words held answer
some_inputs words held = by (words_of words) refl
  where
    by : (w : Option TextSource) → words_of words ≡ w → (answer : Result Inputs Fault) × ReadsInputs words held answer
    by None e = (_, unusable e)
    by (Some ws) e = let r = some_files (source_of ws held) (book_of ws) (script_of ws) in (r.0, usable e r.1)

pub some_outcome : SomeOutcome
some_outcome words held = let r = some_inputs words held in by r.0 r.1
  where
    by : (a : Result Inputs Fault) → ReadsInputs words held a → (answer : Result Report Fault) × Outcome words held answer
    by (Ok given) p = (reported given, read p refl)
    by (Err fault) p = (Err fault, unreadable p)
