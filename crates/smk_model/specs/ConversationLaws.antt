-- What a conversation says is what a run writes.
use Rattle.std.specs.{Prelude.{◌≡◌, ◌++◌, ◌∷◌, [], ℕ, Bool, false, List, Some, None, Result, Ok, map}, List.{concat, flat_map, scan}}
use Rattle.smk_base.specs.{Marks.after_marks, declared.fault.Fault.Fault, CatalogImage.CatalogImage}
use Rattle.smk_model.specs.{Conversation.{HeardLine, TalkTurn, TalkState, Replied, first_talk_state, line_of, is_own_turn, text_read, FilesBring, FitsTalk, turn_after, turn_block, opening_text, opening_block, talk_report, talk_texts, talk_said, readings_of, rows_brought, AreHeard, texts_read}, Lines.lines, Outcome.{Held, Inputs, ReadsFiles, file_bytes}, OwnLines.is_own, Reports.report_of, Session.Workbook, TalkStarts.StartsTalk}

-- what a conversation says, beside the report of a run with the same lines
pub record TalksAsReported : Type 0 where
  -- its texts, put together, are the text of its report
  pub said : (book : Workbook) (fds : List (List ℕ)) (turns : List TalkTurn) → concat (talk_texts book fds turns) ≡ (talk_report book fds turns).text
  -- what is said first, put together, is one text and an empty line
  pub opening : (brief : Bool) (book : Workbook) (fds : List (List ℕ)) → concat (opening_block brief book fds) ≡ opening_text brief book fds ++ 10 ∷ []
  -- what is said first, and then the block of each turn, is all that is said
  pub blocks : (brief : Bool) (book : Workbook) (fds : List (List ℕ)) (turns : List TalkTurn)
      → opening_block brief book fds ++ flat_map (λ texts. texts) (scan (turn_after (record { catalog = book.catalog; fds = fds })) (turn_block (record { catalog = book.catalog; fds = fds })) (first_talk_state book) turns)
      ≡ talk_said brief book fds turns
  -- if each line is answered as a script's, the report is that of a run over the same book and lines, which append the same rows
  pub told : (book : Workbook) (fds : List (List ℕ)) (heard : List HeardLine)
      → talk_report book fds (map Replied heard) ≡ report_of book fds (rows_brought book.catalog heard) (readings_of heard)
  -- a line that doesn't begin with a dot is never answered as an own line
  pub scripts : (read_only : Bool) (catalog : CatalogImage) (held : Held) (state : TalkState) (turn : TalkTurn)
      → FitsTalk read_only catalog (FilesBring held) state turn → is_own (text_read state.heard (line_of turn)) ≡ false → is_own_turn turn ≡ false
  -- so it is the report of a run over the same files, with a script of just these lines
  pub run : (held : Held) (book script bytes : List ℕ) (given : Inputs) (heard : List HeardLine)
      → ReadsFiles held book (Some script) (Ok given) → file_bytes held script ≡ Ok bytes → lines (after_marks bytes) ≡ texts_read 0 heard → AreHeard held given.book.catalog 0 heard
      → talk_report given.book given.fds (map Replied heard) ≡ report_of given.book given.fds given.added given.readings

-- words and files have one start of a conversation, and its workbook is that of a run over the same book
pub record OneTalkStart : Type 0 where
  pub one : (words : List (List ℕ)) (held : Held) (a b : Result Inputs Fault) → StartsTalk words held a → StartsTalk words held b → a ≡ b
  pub same : (held : Held) (book script : List ℕ) (first given : Inputs) → ReadsFiles held book None (Ok first) → ReadsFiles held book (Some script) (Ok given) → (first.book ≡ given.book) × (first.fds ≡ given.fds)

-- words and files have a start of a conversation
abbrev pub SomeTalkStart : Type 0
SomeTalkStart = (words : List (List ℕ)) (held : Held) → (answer : Result Inputs Fault) × StartsTalk words held answer
