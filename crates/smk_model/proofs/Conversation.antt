-- What a conversation says is what a run writes.
use Rattle.std.specs.{Prelude.{cond, Option, Some, None, option_map, Ok, is_some}, List.{concat, filter, cons_option, scan, flat_map}}
use Rattle.std.proofs.{Common.{◌≡◌, ◌+◌, ℕ, Bool, true, false, List, [], ◌∷◌, ◌++◌, map, refl, sym, ap, ◌∙◌, subst, append_assoc, append-nil}, lemmas.Bool.false≢true}
use Rattle.clap.proofs.RemoveLemmas.{find-none}
use Rattle.smk_base.specs.{CatalogImage.{CatalogImage, table_place}, Dicts.text_eq, Marks.after_marks, Trees.AppendedLine, declared.book.catalog.TableInfo.TableInfo}
use Rattle.smk_model.specs.{Values.Row, Appends.{turn_at, append_looks_at}, Conversation.{HeardLine, TalkTurn, Replied, Owned, Unbrought, ReadOnly, Forgone, OwnForgone, TooLong, TalkState, line_of, is_own_turn, text_read, FitsTalk, turn_after, turn_text, turn_block, block_of, opening_text, opening_block, turns_told, readings_of, rows_brought, brings, FilesBring, AreHeard, texts_read}, ConversationLaws.TalksAsReported, Lines.lines, Outcome.{Held, Inputs, ReadsFiles, inputs, a_script, read, lines_read, file_bytes, appended, appended_at, filed, load_all}, OwnLines.is_own, Readings.{Reading, Asks, AreReadings, no_line, one_line}, Reports.{BookSaid, followed_by, turn_answered, line_told, state_after, lines_told, answer_told, brings_rows, next_rows, rows_left, report_of, report_told}, ReplyTexts.table_named, Session.{Workbook, State, first_state}, ViewTexts.{text_of_view, views_text}}
use Rattle.smk_model.proofs.{OneOutcome.same_readings, RepliesFit.table_found}

-- the texts of turns, put together
pub texts_told : (said : BookSaid) (state : TalkState) (turns : List TalkTurn) → concat (scan (turn_after said) (turn_text said) state turns) ≡ (turns_told said state turns).text
texts_told said state [] = refl
texts_told said state (turn ∷ turns) = ap (λ l. turn_text said state turn ++ l) (texts_told said (turn_after said state turn) turns)

-- the blocks of turns are those of their texts
blocks_said : (said : BookSaid) (state : TalkState) (turns : List TalkTurn)
    → flat_map (λ texts. texts) (scan (turn_after said) (turn_block said) state turns) ≡ flat_map block_of (scan (turn_after said) (turn_text said) state turns)
blocks_said said state [] = refl
blocks_said said state (turn ∷ turns) = ap (λ l. turn_block said state turn ++ l) (blocks_said said (turn_after said state turn) turns)

-- texts put together, and a last one behind them
texts_joined : {A : Type 0} (text : A → List ℕ) (xs : List A) (last : List ℕ) → concat (map text xs ++ last ∷ []) ≡ flat_map text xs ++ last
texts_joined text [] last = append-nil last
texts_joined text (x ∷ xs) last = ap (λ l. text x ++ l) (texts_joined text xs last) ∙ sym (append_assoc (text x) (flat_map text xs) last)

opened_as : (brief : Bool) (book : Workbook) (fds : List (List ℕ)) → concat (opening_block brief book fds) ≡ opening_text brief book fds ++ 10 ∷ []
opened_as true book fds = refl
opened_as false book fds = texts_joined (text_of_view book) book.catalog.views (10 ∷ [])

-- an `append` to no table of the book comes to the same whatever rows it is given
unplaced : (catalog : CatalogImage) (state : State) (table : List ℕ) (more other : List Row) (place : Option ℕ) → is_some place ≡ false
    → turn_answered catalog table (turn_at catalog state more place) (append_looks_at catalog state more place) ≡ turn_answered catalog table (turn_at catalog state other place) (append_looks_at catalog state other place)
unplaced catalog state table more other None none = refl
unplaced catalog state table more other (Some t) none = absurd (cc)

-- and so does every line that brings no rows
told_alike : (said : BookSaid) (state : State) (number : ℕ) (more other : List Row) (reading : Reading) → brings_rows said.catalog reading ≡ false
    → (line_told said state number more reading ≡ line_told said state number other reading) × (state_after said state more reading ≡ state_after said state other reading)
told_alike said state number more other (Asks (AppendedLine table file)) none =
    let same = unplaced said.catalog state table more other (table_place said.catalog table) none in
    (ap answer_told same, ap (λ line. line.next) same)
told_alike said state number more other _ none = (refl, refl)

-- lines that are answered come to what the walk over a script has
pub lines_alike : (said : BookSaid) (state : State) (number : ℕ) (heard : List HeardLine)
    → turns_told said (record { session = state; heard = number }) (map Replied heard) ≡ lines_told said state (number + 1) (rows_brought said.catalog heard) (readings_of heard)
lines_alike said state number [] = refl
lines_alike said state number (line ∷ heard) =
    by (brings_rows said.catalog line.reading) refl (λ next. lines_alike said next (number + 1) heard)
  where
    by : (b : Bool) → brings_rows said.catalog line.reading ≡ b
        → ((next : State) → turns_told said (record { session = next; heard = number + 1 }) (map Replied heard) ≡ lines_told said next (number + 1 + 1) (rows_brought said.catalog heard) (readings_of heard))
        → followed_by (line_told said state (number + 1) line.rows line.reading) (turns_told said (record { session = state_after said state line.rows line.reading; heard = number + 1 }) (map Replied heard))
        ≡ followed_by (line_told said state (number + 1) (next_rows (map (λ (h : HeardLine). h.rows) (cond b (line ∷ filter (brings said.catalog) heard) (filter (brings said.catalog) heard)))) line.reading)
        (lines_told said (state_after said state (next_rows (map (λ (h : HeardLine). h.rows) (cond b (line ∷ filter (brings said.catalog) heard) (filter (brings said.catalog) heard)))) line.reading) (number + 1 + 1)
        (rows_left b (map (λ (h : HeardLine). h.rows) (cond b (line ∷ filter (brings said.catalog) heard) (filter (brings said.catalog) heard)))) (readings_of heard))
    by true is more = ap (λ l. followed_by (line_told said state (number + 1) line.rows line.reading) l) (more (state_after said state line.rows line.reading))
    by false is more =
        let same = told_alike said state (number + 1) line.rows (next_rows (rows_brought said.catalog heard)) line.reading is in
        ap (λ l. followed_by (line_told said state (number + 1) line.rows line.reading) l) (more (state_after said state line.rows line.reading))
        ∙ ap (λ l. followed_by l (lines_told said (state_after said state line.rows line.reading) (number + 1 + 1) (rows_brought said.catalog heard) (readings_of heard))) same.0
        ∙ ap (λ s. followed_by (line_told said state (number + 1) (next_rows (rows_brought said.catalog heard)) line.reading) (lines_told said s (number + 1 + 1) (rows_brought said.catalog heard) (readings_of heard))) same.1

-- a line brings rows where it appends to a table of the book
same_place : (catalog : CatalogImage) (reading : Reading) → is_some (appended_at catalog reading) ≡ brings_rows catalog reading
same_place catalog (Asks (AppendedLine table file)) = by (table_place catalog table) refl
  where
    by : (place : Option ℕ) → table_place catalog table ≡ place → is_some (option_map (filed file) (table_named catalog table)) ≡ is_some place
    by (Some t) is = ap (λ o. is_some (option_map (filed file) o)) (table_found catalog table t is)
    by None is = ap (λ o. is_some (option_map (filed file) o)) (find-none (λ (info : TableInfo). text_eq info.name table) catalog.tables is)
same_place catalog _ = refl

-- the files of lines bring their rows
rows_loaded : (held : Held) (catalog : CatalogImage) (number : ℕ) (heard : List HeardLine) → AreHeard held catalog number heard
    → load_all held (appended catalog (readings_of heard)) ≡ Ok (rows_brought catalog heard)
rows_loaded held catalog number [] is = refl
rows_loaded held catalog number (line ∷ heard) (plain, reads, brought, more) =
    by (appended_at catalog line.reading) (brings_rows catalog line.reading) (same_place catalog line.reading) brought (rows_loaded held catalog (number + 1) heard more)
  where
    by : (o : Option TableInfo) (b : Bool) → is_some o ≡ b → FilesBring held o (Ok line.rows) → load_all held (appended catalog (readings_of heard)) ≡ Ok (rows_brought catalog heard)
        → load_all held (cons_option o (appended catalog (readings_of heard))) ≡ Ok (map (λ (h : HeardLine). h.rows) (cond b (line ∷ filter (brings catalog) heard) (filter (brings catalog) heard)))
    by (Some table) true same loaded rest = rw loaded (rw rest refl)
    by (Some table) false same loaded rest = absurd (cc)
    by None true same loaded rest = absurd (cc)
    by None false same loaded rest = rest

-- and they say what their texts say
lines_said : (held : Held) (catalog : CatalogImage) (number : ℕ) (heard : List HeardLine) → AreHeard held catalog number heard → AreReadings (texts_read number heard) (readings_of heard)
lines_said held catalog number [] is = no_line
lines_said held catalog number (line ∷ heard) (plain, reads, brought, more) = one_line reads (lines_said held catalog (number + 1) heard more)

same_bytes : (a b name : List ℕ) (held : Held) → file_bytes held name ≡ Ok a → file_bytes held name ≡ Ok b → a ≡ b
same_bytes a b name held h k = cc

same_rows : (held : Held) (catalog : CatalogImage) (a b : List Reading) (x y : List (List Row)) → a ≡ b → load_all held (appended catalog a) ≡ Ok x → load_all held (appended catalog b) ≡ Ok y → y ≡ x
same_rows held catalog a b x y e h k = let f = ap (λ l. load_all held (appended catalog l)) e in cc

-- a run over the same files with a script of these lines
run_alike : {held : Held} {book script bytes : List ℕ} {given : Inputs} (heard : List HeardLine) → ReadsFiles held book (Some script) (Ok given) → file_bytes held script ≡ Ok bytes
    → lines (after_marks bytes) ≡ texts_read 0 heard → AreHeard held given.book.catalog 0 heard
    → (readings_of heard ≡ given.readings) × (rows_brought given.book.catalog heard ≡ given.added)
run_alike {held} heard (inputs {said = said} {readings = readings} b t (a_script (read {bytes = bytes} r (lines_read l))) a) content split are =
    let same = same_bytes _ _ _ held r content in
    let mine : AreReadings (lines (after_marks bytes)) (readings_of heard) = subst (λ texts. AreReadings texts (readings_of heard)) (sym (ap (λ l. lines (after_marks l)) same ∙ split)) (lines_said held said.catalog 0 heard are) in
    let one = same_readings l mine in
    (sym one, same_rows held said.catalog _ _ _ _ one a (rows_loaded held said.catalog 0 heard are))

-- a turn that fits is that of an own line only where its line is one
no_own_turn : (read_only : Bool) (catalog : CatalogImage) (held : Held) (state : TalkState) (turn : TalkTurn)
    → FitsTalk read_only catalog (FilesBring held) state turn → is_own (text_read state.heard (line_of turn)) ≡ false → is_own_turn turn ≡ false
no_own_turn read_only catalog held state (Owned heard) (short, own, reads) none = absurd (false≢true (sym none ∙ own))
no_own_turn read_only catalog held state (OwnForgone heard) (own, reads) none = absurd (false≢true (sym none ∙ own))
no_own_turn read_only catalog held state (Replied heard) fits none = refl
no_own_turn read_only catalog held state (Unbrought bytes fault) fits none = refl
no_own_turn read_only catalog held state (ReadOnly bytes) fits none = refl
no_own_turn read_only catalog held state (Forgone heard) fits none = refl
no_own_turn read_only catalog held state (TooLong bytes) fits none = refl

pub talks_as_reported : TalksAsReported
talks_as_reported = record {
  said = λ book fds turns. ap (λ l. views_text book ++ l) (texts_told (record { catalog = book.catalog; fds = fds }) (record { session = first_state book; heard = 0 }) turns);
  opening = opened_as;
  blocks = λ brief book fds turns. ap (λ l. opening_block brief book fds ++ l) (blocks_said (record { catalog = book.catalog; fds = fds }) (record { session = first_state book; heard = 0 }) turns);
  told = λ book fds heard. ap (report_told book) (lines_alike (record { catalog = book.catalog; fds = fds }) (first_state book) 0 heard);
  scripts = no_own_turn;
  run = λ held book script bytes given heard reads content split are.
      let same = run_alike heard reads content split are in
      ap (report_told given.book) (lines_alike (record { catalog = given.book.catalog; fds = given.fds }) (first_state given.book) 0 heard)
      ∙ ap (λ l. report_of given.book given.fds (rows_brought given.book.catalog heard) l) same.0
      ∙ ap (λ l. report_of given.book given.fds l given.readings) same.1;
}
