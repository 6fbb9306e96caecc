-- A run has one outcome and a conversation one start, so that where there is no fault no other ending is left but being out of memory.
use Rattle.std.specs.{Prelude.{Result, ⊤, length, map}, List.concat}
use Rattle.std.specs.Io.KnownBytes as known
use Rattle.std.proofs.Common.{◌≡◌, ◌⊎◌, ℕ, List, [], Option, Some, None, Ok, Err, refl, ap, ◌∙◌, subst, inl, inr}
use Rattle.smk_base.specs.declared.fault.Fault.{Fault}
use Rattle.smk_model.specs.{Conversation.{line_of, talk_said}, Reports.Report, Outcome.{Held, Inputs, Outcome, NamesRead, UntoldCause, WhereTold, nothing_held, written_of}, TalkStarts.{StartsTalk, NamesReadFirst}, TalkWords.talk_source, Texts.no_memory_text, Words.{TextSource, Demo, words_of}}
use Rattle.smk_model.proofs.{Conversation.talks_as_reported, OneOutcome.one_outcome, TalkStarts.one_talk_start}
use Rattle.smk_outside.specs.{Outside.Rose, Told.{Told, AreAll}, declared.talk.ending.Ending.Ending, declared.talk.ending.Ending.TheVariants.{Ended, Outlasted, Unsaid}}
use Rattle.smk_outside.proofs.Said.{said_whole}
use Rattle.smk_top.specs.{declared.status.Status.Status, declared.status.Status.TheVariants.NoMemory, Statuses.status_of_report, Completeness.{Completeness, WritesWhole, AnswersAll, TalksWhole, TalkCompleteness}, Endings.{Ends, reported, faulted, unwritten, exhausted, fault_unsaid, memory_unsaid}, TalkEndings.{Converses, TalkEnds, IsUnopened, turns_of, report_by}}
use Rattle.smk_top.specs.TalkEndings as ends

-- what is so of these texts by what the files hold: one answer, and no fault beside it unless a count rose
record IsAlone {X : Type 0} (asked : Option TextSource) (is : Held → Result X Fault → Type 0) (named : Held → Fault → Type 0) (held : Option Held) (answer : X) : Type 1 where
  same : (other : X) → WhereTold held asked ⊤ (λ held. is held (Ok other)) → other ≡ answer
  faultless : (rose : Type 0) (fault : Fault) → WhereTold held asked (UntoldCause rose fault) (λ held. is held (Err fault) ⊎ (rose × named held fault)) → (rose → ⊥) → ⊥

module _ {X : Type 0} (asked : Option TextSource) (is : Held → Result X Fault → Type 0) (named : Held → Fault → Type 0) (answer : X) (one : (held : Held) (a b : Result X Fault) → is held a → is held b → a ≡ b) where
  one_answer : (held : Held) → is held (Ok answer) → (other : X) → is held (Ok other) → other ≡ answer
  one_answer held ok other there = let e = one held (Ok other) (Ok answer) there ok in cc

  no_fault : (held : Held) → is held (Ok answer) → (rose : Type 0) (fault : Fault) → is held (Err fault) ⊎ (rose × named held fault) → (rose → ⊥) → ⊥
  no_fault held ok rose fault (inl err) none = let e = one held (Err fault) (Ok answer) err ok in absurd (cc)
  no_fault held ok rose fault (inr (up, named)) none = none up

  told_alone : (held : Held) → is held (Ok answer) → IsAlone asked is named (Some held) answer
  told_alone held ok = record { same = one_answer held ok; faultless = no_fault held ok }

  -- what is so of a demo is so over files that hold nothing
  of_demo : (n : ℕ) (rest : Type 0) (so : Held → Type 0) → asked ≡ Some (Demo n) → WhereTold None asked rest so → so nothing_held
  of_demo n rest so demo told = subst (λ (ws : Option TextSource). WhereTold None ws rest so) demo told

  demo_alone : (n : ℕ) → asked ≡ Some (Demo n) → is nothing_held (Ok answer) → IsAlone asked is named None answer
  demo_alone n demo ok = record {
    same = λ other there. one_answer nothing_held ok other (of_demo n _ (λ held. is held (Ok other)) demo there);
    faultless = λ rose fault cause none. no_fault nothing_held ok rose fault (of_demo n (UntoldCause rose fault) (λ held. is held (Err fault) ⊎ (rose × named held fault)) demo cause) none;
  }

-- a run
abbrev RunAlone : List (List ℕ) → Option Held → Report → Type 1
RunAlone words held report = IsAlone (words_of words) (Outcome words) (NamesRead (words_of words)) held report

abbrev Whole : List (List ℕ) → Report → Status → List ℕ → List ℕ → Type 0
Whole words report status told said = ((status ≡ status_of_report report) × (told ≡ written_of words report) × (said ≡ [])) ⊎ (status ≡ NoMemory)

ending : (words : List (List ℕ)) (held : Option Held) (report : Report) (files out err : Type 0) (status : Status) (told said : List ℕ) → Ends words held files out err status told said
    → RunAlone words held report → (files → ⊥) → (out → ⊥) → (err → ⊥) → Whole words report status told said
ending words held report files out err _ _ _ (reported r is) alone f o e = inl (let same = alone.same r is in rw same (refl, refl, refl))
ending words held report files out err _ _ _ (faulted fault cause) alone f o e = absurd (alone.faultless files fault cause f)
ending words held report files out err _ _ _ (unwritten r part is front up) alone f o e = absurd (o up)
ending words held report files out err _ _ _ (exhausted part begun) alone f o e = inr refl
ending words held report files out err _ _ _ (fault_unsaid fault part cause front up) alone f o e = absurd (e up)
ending words held report files out err _ _ _ (memory_unsaid part said begun front up) alone f o e = absurd (e up)

writes_whole : (words : List (List ℕ)) (held : Option Held) (report : Report) → RunAlone words held report → WritesWhole words held report
writes_whole words held report alone f f' o o' e e' ob oa eb ea status (told, said, out_is, err_is, ends) files out err =
    elim (ending words held report _ _ _ status told said ends alone files out err) [
      | inl (is, text, nothing) ↦ inl (is, rw (← text) out_is, rw (← nothing) err_is)
      | inr is ↦ inr is
    ]

pub completes : Completeness
completes = record {
  told = λ words held report ok. writes_whole words (Some held) report (told_alone (words_of words) (Outcome words) (NamesRead (words_of words)) report (one_outcome words) held ok);
  demo = λ words n report demo ok. writes_whole words None report (demo_alone (words_of words) (Outcome words) (NamesRead (words_of words)) report (one_outcome words) n demo ok);
}

-- a conversation
module _ (words : List (List ℕ)) (held : Option Held) (given : Inputs) (alone : IsAlone (talk_source words) (StartsTalk words) (NamesReadFirst (talk_source words)) held given)
    (files files_after : ℕ) (rose err : Type 0) (before after : Told) (looks looks_after : ℕ) where
  answered : (end : Ending) → (end ≡ Unsaid → ⊥) → (talk : Converses words held files files_after rose before after looks looks_after end)
      → AreAll before (map line_of (turns_of talk)) ⊎ (length (turns_of talk) ≡ 18446744073709551615) → AnswersAll words held given files files_after rose before after looks looks_after (status_of_report (report_by talk))
  answered end whole talk heard =
      let over : talk.given ≡ given = alone.same talk.given talk.starts in
      let t = talk.talked.talk in
      let all = said_whole _ _ _ _ end t.turns t.events whole t.talks ∙ ap concat (talks_as_reported.blocks talk.call.brief talk.given.book talk.given.fds t.turns) in
      record {
        ending = end;
        talk = talk;
        over = over;
        heard = heard;
        answered = subst (λ (g : Inputs). known.Appends before.said after.said (concat (talk_said talk.call.brief g.book g.fds t.turns))) over (subst (known.Appends before.said after.said) all t.adds.1);
        ends = refl;
      }

  talk_ending : (status : Status) (said : List ℕ) → TalkEnds words held files files_after rose err before after looks looks_after status said → (Rose files files_after → ⊥) → (rose → ⊥) → (err → ⊥)
      → (AnswersAll words held given files files_after rose before after looks looks_after status × (said ≡ [])) ⊎ ((status ≡ NoMemory) × IsUnopened words held before after looks looks_after × (said ≡ no_memory_text))
  talk_ending _ _ (ends.ended talk) f t e = inl (answered Ended (λ h. absurd (cc)) talk (inl talk.talked.talk.takes), refl)
  talk_ending _ _ (ends.outlasted talk) f t e = inl (answered Outlasted (λ h. absurd (cc)) talk (inr talk.talked.cause), refl)
  talk_ending _ _ (ends.unheard talk) f t e = absurd (t talk.talked.cause)
  talk_ending _ _ (ends.unsaid talk) f t e = absurd (t talk.talked.cause)
  talk_ending _ _ (ends.faulted fault cause silent behind) f t e = absurd (alone.faultless _ fault cause f)
  talk_ending _ _ (ends.exhausted silent) f t e = inr (refl, inl silent, refl)
  talk_ending _ _ (ends.cut_short cut) f t e = inr (refl, inr cut, refl)
  talk_ending _ _ (ends.unheard_unsaid part talk front up) f t e = absurd (e up)
  talk_ending _ _ (ends.fault_unsaid fault part cause silent behind front up) f t e = absurd (e up)
  talk_ending _ _ (ends.memory_unsaid part silent front up) f t e = absurd (e up)
  talk_ending _ _ (ends.cut_unsaid part cut front up) f t e = absurd (e up)

talks_whole : (words : List (List ℕ)) (held : Option Held) (given : Inputs) → IsAlone (talk_source words) (StartsTalk words) (NamesReadFirst (talk_source words)) held given → TalksWhole words held given
talks_whole words held given alone f f' t t' e e' l l' before after eb ea status (said, err_is, ends) files talk err =
    elim (talk_ending words held given alone f f' _ _ before after l l' status said ends files talk err) [
      | inl (all, nothing) ↦ inl (all, rw (← nothing) err_is)
      | inr (is, unopened, text) ↦ inr (is, unopened, rw (← text) err_is)
    ]

pub talk_completes : TalkCompleteness
talk_completes = record {
  told = λ words held given ok. talks_whole words (Some held) given (told_alone (talk_source words) (StartsTalk words) (NamesReadFirst (talk_source words)) given (one_talk_start.one words) held ok);
  demo = λ words n given demo ok. talks_whole words None given (demo_alone (talk_source words) (StartsTalk words) (NamesReadFirst (talk_source words)) given (one_talk_start.one words) n demo ok);
}
