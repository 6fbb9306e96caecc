-- The worked conversation, turn by turn, and why no line is heard ahead.
use Rattle.std.specs.{Prelude.{codes, take}, Fmt.digits}
use Rattle.std.proofs.Common.{◌≡◌, ◌<◌, ℕ, false, List, [], ◌∷◌, ◌++◌, Some, None, Ok, refl, sym, ap, ◌∙◌, subst, inl, arith, length}
use Rattle.clap.specs.{Walk.walked, Faults.{walk_fault, defaults_fault}}
use Rattle.csv.specs.{Writing.{fields_text, is_blank}, Reading.records_from, Machine.next_record}
use Rattle.smk_base.specs.{Ints.int_of, Trees.AppendedLine}
use Rattle.smk_base.specs.declared.book.tree.Line.TheVariants as lines
use Rattle.smk_model.specs.{Texts.record_line, Tables.table_of, Conversation.{line_limit, line_of, HeardLine, TalkTurn, Replied, TooLong, TalkState, turn_after, turn_block, FitsTalk, first_talk_state, opening_block, opening_texts}, WorkedExamples.{sales, readme_book_name, readme_files, readme_catalog, readme_workbook, readme_inputs, plain_settings}, Readings.{Asks, Unread, asks, leaves, plain_reading}, Reports.BookSaid, TalkStarts.{usable, read, started, TalkBrings}, TalkWords.{TalkCall, talk_call_of}, Words.Files}
use Rattle.smk_model.proofs.{Spelling.computed, WorkedExamples.readme}
use Rattle.smk_outside.specs.{Conversing.{Talks, Rules, last_state}, Outside.Rose, Told.says, declared.talk.event.Event.Event, declared.talk.event.Event.TheVariants.{Heard, End, Said}, declared.talk.ending.Ending.Ending, declared.talk.ending.Ending.TheVariants.{Ended, Unheard, Unsaid, Outlasted}}
use Rattle.smk_top.specs.{declared.status.Status.Status, Talking.talk_rules, TalkEndings.{Converses, TalkEnds, IsSilent, IsCutShort, said_by}, TalkExamples.{line_shown, line_appended, line_left, view_said, answers_said, answered_first, heard_ahead, told_first, told_last, TalksHold}}
use Rattle.smk_top.specs.TalkEndings as ends

-- the words
abbrev call : TalkCall
call = record { settings = plain_settings; texts = Files readme_book_name None; read_only = false; brief = false }

asked : talk_call_of (readme_book_name ∷ []) ≡ Some call
unfolding walked walk_fault defaults_fault int_of
asked = refl

begun : started (readme_inputs []) ≡ Ok (readme_inputs [])
begun = refl

-- the lines, and what fits a turn
abbrev shown : HeardLine
shown = record { bytes = line_shown; reading = plain_reading (lines.Show (codes "by_region")); rows = [] }

abbrev appended : HeardLine
appended = record { bytes = line_appended; reading = Asks (AppendedLine (codes "sales") (codes "sales.csv")); rows = sales }

abbrev left : HeardLine
left = record { bytes = line_left; reading = Unread 8; rows = [] }

abbrev turns : List ℕ → List TalkTurn
turns long = Replied shown ∷ Replied appended ∷ TooLong long ∷ Replied left ∷ []

abbrev rules : Rules TalkState TalkTurn
rules = talk_rules (said_by (readme_inputs []))

abbrev Fits : TalkState → TalkTurn → Type 0
Fits = FitsTalk false readme_catalog (TalkBrings (Files readme_book_name None) (Some readme_files) (Rose 0 0))

abbrev first : TalkState
first = first_talk_state readme_workbook

abbrev left_said : List Event
left_said = Said (codes "line 4 not read at byte 8\n") ∷ Said (codes "\n") ∷ End ∷ []

shown_fits : Fits first (Replied shown)
shown_fits = (omega arith, refl, asks (λ e. absurd (cc)) (computed refl) refl, refl, inl refl)

appended_fits : (state : TalkState) → state.heard ≡ 1 → Fits state (Replied appended)
unfolding table_of records_from next_record int_of
appended_fits state at = rw at (omega arith, refl, asks (λ e. absurd (cc)) (computed refl) refl, refl, inl refl)

left_fits : (state : TalkState) → state.heard ≡ 3 → Fits state (Replied left)
left_fits state at = rw at (omega arith, refl, leaves (λ e. absurd (cc)) refl refl, refl, inl refl)

abbrev refused_said : List Event
refused_said = Said (codes "refused line too long\n") ∷ Said (codes "\n") ∷ Heard line_left ∷ left_said

in_order : (long : List ℕ) → line_limit < length long → Talks rules Fits first (opening_block false readme_workbook (readme_inputs []).fds) Ended (turns long) (answered_first long)
unfolding digits record_line fields_text is_blank
in_order long over = (
  view_said (Heard line_appended ∷ answers_said long),
  shown_fits,
  refl,
  (
    answers_said long,
    appended_fits (rules.next first (Replied shown)) refl,
    refl,
    (refused_said, over, refl, (left_said, left_fits (last_state rules first (Replied shown ∷ Replied appended ∷ TooLong long ∷ [])) refl, refl, refl)),
  ),
)

converses : (long : List ℕ) → line_limit < length long → Converses (readme_book_name ∷ []) (Some readme_files) 0 0 (Rose 0 0) (told_first long) (told_last (answered_first long)) 0 0 Ended
converses long over = record {
  call = call;
  asked = asked;
  given = readme_inputs [];
  starts = read (usable asked readme.book_alone) begun;
  last = last_state rules first (turns long);
  talked = record {
    talk = record { turns = turns long; events = answered_first long; talks = in_order long over; state = refl; adds = (refl, refl); takes = refl };
    cause = tt;
  };
  misread = inl (omega arith);
  looks = omega arith;
}

-- a line that is heard where a block is to be said
said_first : (said : BookSaid) (Fits : TalkState → TalkTurn → Type 0) (state : TalkState) (text line : List ℕ) (texts : List (List ℕ)) (more : List Event) (ending : Ending) (turns : List TalkTurn)
    → Talks (talk_rules said) Fits state (text ∷ texts) ending turns (Heard line ∷ more) → ⊥
said_first said Fits state text line texts more Ended [] is = absurd (cc)
said_first said Fits state text line texts more Unheard [] is = absurd (cc)
said_first said Fits state text line texts more Unsaid [] ([], is, front) = absurd (cc)
said_first said Fits state text line texts more Unsaid [] (part ∷ parts, is, front) = absurd (cc)
said_first said Fits state text line texts more Outlasted [] is = absurd (cc)
said_first said Fits state text line texts more ending (turn ∷ turns) (next, fits, is, talks) = absurd (cc)

-- what is behind the first line that is heard
abbrev behind : List Event → List Event
behind [] = []
behind (Heard line ∷ events) = events
behind (Said bytes ∷ events) = behind events
behind (End ∷ events) = behind events

behind_said : (texts : List (List ℕ)) (events : List Event) → behind (says texts ++ events) ≡ behind events
behind_said [] events = refl
behind_said (text ∷ texts) events = behind_said texts events

only_said : (texts : List (List ℕ)) → behind (says texts) ≡ []
only_said [] = refl
only_said (text ∷ texts) = only_said texts

heard_twice : (said : BookSaid) (Fits : TalkState → TalkTurn → Type 0) (state : TalkState) (saying : List (List ℕ)) (next : List ℕ) (more events : List Event) (ending : Ending) (turns : List TalkTurn)
    → behind events ≡ Heard next ∷ more → Talks (talk_rules said) Fits state saying ending turns events → ⊥
heard_twice said Fits state saying next more events Ended [] twice is = let none = ap behind is ∙ behind_said saying (End ∷ []) in absurd (cc)
heard_twice said Fits state saying next more events Unheard [] twice is = let none = ap behind is ∙ only_said saying in absurd (cc)
heard_twice said Fits state saying next more events Unsaid [] twice (parts, is, front) = let none = ap behind is ∙ only_said parts in absurd (cc)
heard_twice said Fits state saying next more events Outlasted [] twice is = let none = ap behind is ∙ only_said saying in absurd (cc)
heard_twice said Fits state saying next more events ending (turn ∷ turns) twice (later, fits, is, talks) =
    let same = sym (ap behind is ∙ behind_said saying (Heard (line_of turn) ∷ later)) ∙ twice in
    said_first said Fits _ _ next _ more ending turns (subst (λ (l : List Event). Talks (talk_rules said) Fits (turn_after said state turn) (turn_block said state turn) ending turns l) same talks)

module _ (long : List ℕ) (files files_after : ℕ) (rose err : Type 0) (looks looks_after : ℕ) where
  not_ahead : (ending : Ending) → Converses (readme_book_name ∷ []) (Some readme_files) files files_after rose (told_first long) (told_last (heard_ahead long)) looks looks_after ending → ⊥
  not_ahead ending c = let t = c.talked.talk in heard_twice _ _ _ _ _ _ t.events ending t.turns (ap behind (sym t.adds.0)) t.talks

  not_silent : IsSilent (readme_book_name ∷ []) (Some readme_files) (told_first long) (told_last (heard_ahead long)) looks looks_after → ⊥
  not_silent silent = let none = silent.silent.0.0 in absurd (cc)

  not_cut : IsCutShort (readme_book_name ∷ []) (Some readme_files) (told_first long) (told_last (heard_ahead long)) looks looks_after → ⊥
  not_cut cut = let none = ap behind cut.few.2.0.0 ∙ only_said (take cut.few.0 (opening_texts cut.call.brief cut.given.book cut.given.fds)) in absurd (cc)

  no_ending : (status : Status) (said : List ℕ) → TalkEnds (readme_book_name ∷ []) (Some readme_files) files files_after rose err (told_first long) (told_last (heard_ahead long)) looks looks_after status said → ⊥
  no_ending _ _ (ends.ended talk) = not_ahead Ended talk
  no_ending _ _ (ends.outlasted talk) = not_ahead Outlasted talk
  no_ending _ _ (ends.unheard talk) = not_ahead Unheard talk
  no_ending _ _ (ends.unsaid talk) = not_ahead Unsaid talk
  no_ending _ _ (ends.faulted fault cause silent behind) = not_silent silent
  no_ending _ _ (ends.exhausted silent) = not_silent silent
  no_ending _ _ (ends.cut_short cut) = not_cut cut
  no_ending _ _ (ends.unheard_unsaid part talk front up) = not_ahead Unheard talk
  no_ending _ _ (ends.fault_unsaid fault part cause silent behind front up) = not_silent silent
  no_ending _ _ (ends.memory_unsaid part silent front up) = not_silent silent
  no_ending _ _ (ends.cut_unsaid part cut front up) = not_cut cut

pub talks : TalksHold
unfolding converses
talks = record {
  talks = λ long over. ([], refl, ends.ended (converses long over));
  none_ahead = λ long f f' t t' e e' l l' err_before err_after status (said, err_is, ending). no_ending long f f' _ _ l l' status said ending;
}
