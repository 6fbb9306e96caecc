-- The answers to own lines: the replies to a script's lines, over the rows that brushes select, in other texts.
use Rattle.std.specs.{Prelude.{ℕ, Bool, true, false, nat_eq, List, [], ◌∷◌, length, Option, ok_or, Ok, Err}, List.{filter, list_all}}
use Rattle.smk_base.specs.{CatalogImage.{CatalogImage, table_place}, Places.{places, has}, Trees.{AskStepImage, AskImage}, declared.book.tree.Line.Line, declared.reply.AskReply.AskReply, declared.reply.Refusal.TheVariants.UnknownTable, declared.reply.Reply.Reply}
use Rattle.smk_base.specs.declared.book.tree.Marks.TheVariants as markings
use Rattle.smk_base.specs.declared.reply.Reply.TheVariants as replies
use Rattle.smk_model.specs.{Asks.{back_line, ask_over, is_ask_refused}, Help.help_text, Looks.looks_of_rows, Names.◌>>=◌, OwnLines.{RowsPart, OwnLine, Schema, Help, Selected, Narrowed, NarrowedAsk, Brief, BriefProfile, OwnReading, Owns, Misses}, OwnTexts.{part_of, narrowed_text, stepped_text, selected_words, selected_text, brief_text, brief_profile_text, schema_text}, Profiles.profile_reply, Readings.Unread, Replies.{Asked, known_pair, rows_reply, reply, is_refused}, ReplyTexts.{view_in, table_in}, Reports.{BookSaid, LinesTold, Answered, plain_answered, profile_answered, answer_told, line_told}, Session.{State, rows_of_table, selected_for}, Texts.ask_words}

-- the rows of a reply that are selected now for a view on a table; other replies stay as they are
abbrev pub among_selected : CatalogImage → State → Asked (ℕ × ℕ) → Reply → Reply
among_selected catalog state (Ok p) (replies.Back rids rows) = rows_reply catalog state p.1 (filter (has (selected_for catalog state p.0 p.1)) rids)
among_selected catalog state _ told = told

-- the reply to a line, or only its rows that are selected now for its view on its table
abbrev pub narrowed_reply : CatalogImage → State → Bool → Line → Reply
narrowed_reply catalog state false asked = (reply catalog state asked).0
narrowed_reply catalog state true asked = among_selected catalog state (known_pair catalog (view_in asked) (table_in asked)) (reply catalog state asked).0

-- a reply with only a part of its rows
abbrev pub reply_part : Option RowsPart → Reply → Reply
reply_part part (replies.Back rids rows) = replies.Back (part_of part rids) (record { kinds = rows.kinds; rows = part_of part rows.rows })
reply_part part told = told

-- the rids of a table that every brush on it selects; all rids if there is none
abbrev pub selected_on : State → ℕ → List ℕ
selected_on state t =
    places (λ rid. list_all (λ brush. has brush.rids rid) (filter (λ brush. nat_eq brush.table t) state.brushes)) (length (rows_of_table state t))

-- the reply with these rows, unless the table is unknown; and the `ask` line for steps over them, which names no view
abbrev pub selected_ask : List ℕ → List AskStepImage → AskImage
selected_ask table steps = record { view = []; marks = markings.All; table = table; steps = steps }

abbrev pub reply_or_refusal : Asked Reply → Reply
reply_or_refusal (Ok told) = told
reply_or_refusal (Err refusal) = replies.Refused refusal

abbrev pub selected_reply : CatalogImage → State → List ℕ → Reply
selected_reply catalog state table = reply_or_refusal (ok_or (table_place catalog table) UnknownTable >>= λ t. Ok (rows_reply catalog state t (selected_on state t)))

-- the answer to a line that doesn't change the state: rows, steps over rows, or words
abbrev pub rows_answered : State → List ℕ → Reply → Reply → Answered
rows_answered state text told looked = record { text = text; refused = is_refused told; looks = looks_of_rows looked; next = state }

abbrev pub steps_answered : State → List ℕ → AskReply → Reply → Answered
steps_answered state text told looked = record { text = text; refused = is_ask_refused told; looks = looks_of_rows looked; next = state }

abbrev pub words_answered : State → List ℕ → Answered
words_answered state text = record { text = text; refused = false; looks = 0; next = state }

-- the answers to lines after `.part` or `.now`: each row that is printed, or that steps read, is a look
abbrev pub narrowed_answered : CatalogImage → State → Option RowsPart → Bool → Line → Answered
narrowed_answered catalog state part now asked =
    let told = narrowed_reply catalog state now asked in
    rows_answered state (narrowed_text catalog part asked told) told (reply_part part told)

abbrev pub narrowed_ask_answered : CatalogImage → State → Option RowsPart → Bool → AskImage → Answered
narrowed_ask_answered catalog state part now asked =
    let rows = narrowed_reply catalog state now (back_line asked) in
    let told = ask_over catalog asked rows in
    steps_answered state (stepped_text part (ask_words asked.view asked.table) asked told) told rows

-- the rows that all brushes select of a table, or what steps make of them
abbrev pub selected_answered : CatalogImage → State → Option RowsPart → List ℕ → List AskStepImage → Answered
selected_answered catalog state part table [] =
    let told = selected_reply catalog state table in
    rows_answered state (selected_text catalog part (back_line (selected_ask table [])) told) told (reply_part part told)
selected_answered catalog state part table (step ∷ steps) =
    let asked = selected_ask table (step ∷ steps) in
    let rows = selected_reply catalog state table in
    let told = ask_over catalog asked rows in
    steps_answered state (stepped_text part (selected_words table) asked told) told rows

-- the answer to a line after `.brief`: the same next state, and a text without lists; rows of a dependency are no looks
abbrev pub brief_answered : CatalogImage → State → Line → Answered
brief_answered catalog state asked = record (plain_answered catalog state asked) { text = brief_text catalog asked (reply catalog state asked).0 }

abbrev pub brief_profile_answered : BookSaid → State → List ℕ → Answered
brief_profile_answered said state view =
    record (profile_answered said state view) { text = brief_profile_text view (profile_reply said.catalog state said.fds view); looks = 0 }

-- the answer to an own line
abbrev pub own_answered : BookSaid → State → OwnLine → Answered
own_answered said state Schema = words_answered state (schema_text said state)
own_answered said state Help = words_answered state help_text
own_answered said state (Selected part table steps) = selected_answered said.catalog state part table steps
own_answered said state (Narrowed part now asked) = narrowed_answered said.catalog state part now asked
own_answered said state (NarrowedAsk part now asked) = narrowed_ask_answered said.catalog state part now asked
own_answered said state (Brief asked) = brief_answered said.catalog state asked
own_answered said state (BriefProfile view) = brief_profile_answered said state view

-- what the report has of an own line, and the state after it; an unread one is told as in a script
abbrev pub own_told : BookSaid → State → ℕ → OwnReading → LinesTold
own_told said state number (Owns own) = answer_told (own_answered said state own)
own_told said state number (Misses at) = line_told said state number [] (Unread at)

abbrev pub own_after : BookSaid → State → OwnReading → State
own_after said state (Owns own) = (own_answered said state own).next
own_after said state (Misses at) = state
