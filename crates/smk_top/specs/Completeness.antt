-- What a run and a conversation can't fail to do.
use Rattle.std.specs.{Prelude.{◌≡◌, ◌⊎◌, ℕ, List, [], length, map, Option, Some, None, Ok}, List.concat}
use Rattle.std.specs.Io.KnownBytes as known
use Rattle.smk_model.specs.{Conversation.{line_of, talk_said}, Reports.Report, Outcome.{Held, Inputs, Outcome, nothing_held, written_of}, TalkStarts.StartsTalk, TalkWords.talk_source, Texts.no_memory_text, Words.{Demo, words_of}}
use Rattle.smk_outside.specs.{Outside.{Appends, Rose}, Told.{Told, AreAll}, declared.talk.ending.Ending.Ending}
use Rattle.smk_top.specs.{declared.status.Status.Status, declared.status.Status.TheVariants.NoMemory, Statuses.status_of_report, Endings.RunEnds, TalkEndings.{Converses, ConverseEnds, IsUnopened, turns_of, report_by}}

-- if no count of faults rises in a run, what it writes of this report is written whole, nothing is said on `err`, and the status is the report's; or memory ran out
abbrev pub WritesWhole : List (List ℕ) → Option Held → Report → Type 0
WritesWhole words held report = (files files_after outs outs_after errs errs_after : ℕ) (out_before out_after err_before err_after : Option (List ℕ)) (status : Status)
    → RunEnds words held (Rose files files_after) (Rose outs outs_after) (Rose errs errs_after) out_before out_after err_before err_after status
    → (Rose files files_after → ⊥) → (Rose outs outs_after → ⊥) → (Rose errs errs_after → ⊥)
    → ((status ≡ status_of_report report) × Appends out_before out_after (written_of words report) × Appends err_before err_after []) ⊎ (status ≡ NoMemory)

-- a run that has a report writes it whole: over files that tell what they hold, and a demo, which reads no file, over files that don't
pub record Completeness : Type 0 where
  pub told : (words : List (List ℕ)) (held : Held) (report : Report) → Outcome words held (Ok report) → WritesWhole words (Some held) report
  pub demo : (words : List (List ℕ)) (n : ℕ) (report : Report) → words_of words ≡ Some (Demo n) → Outcome words nothing_held (Ok report) → WritesWhole words None report

-- a conversation over these inputs in which every line is heard and answered, or as many as can be counted: its opening and the text of each turn are said, and the status is that of its report
pub record AnswersAll (words : List (List ℕ)) (held : Option Held) (given : Inputs) (files files_after : ℕ) (rose : Type 0) (before after : Told) (looks looks_after : ℕ) (status : Status) : Type 0 where
  pub ending : Ending
  pub talk : Converses words held files files_after rose before after looks looks_after ending
  pub over : talk.given ≡ given
  pub heard : AreAll before (map line_of (turns_of talk)) ⊎ (length (turns_of talk) ≡ 18446744073709551615)
  pub answered : known.Appends before.said after.said (concat (talk_said talk.call.brief given.book given.fds (turns_of talk)))
  pub ends : status ≡ status_of_report (report_by talk)

-- if no count of faults rises in a conversation, all its lines are answered over these inputs, and nothing is said on `err`; or memory ran out before anything was said, or after the first few texts of the opening
abbrev pub TalksWhole : List (List ℕ) → Option Held → Inputs → Type 0
TalksWhole words held given = (files files_after talks talks_after errs errs_after looks looks_after : ℕ) (before after : Told) (err_before err_after : Option (List ℕ)) (status : Status)
    → ConverseEnds words held files files_after (Rose talks talks_after) (Rose errs errs_after) before after looks looks_after err_before err_after status
    → (Rose files files_after → ⊥) → (Rose talks talks_after → ⊥) → (Rose errs errs_after → ⊥)
    → (AnswersAll words held given files files_after (Rose talks talks_after) before after looks looks_after status × Appends err_before err_after [])
    ⊎ ((status ≡ NoMemory) × IsUnopened words held before after looks looks_after × Appends err_before err_after no_memory_text)

-- a conversation that starts goes on to its end
pub record TalkCompleteness : Type 0 where
  pub told : (words : List (List ℕ)) (held : Held) (given : Inputs) → StartsTalk words held (Ok given) → TalksWhole words (Some held) given
  pub demo : (words : List (List ℕ)) (n : ℕ) (given : Inputs) → talk_source words ≡ Some (Demo n) → StartsTalk words nothing_held (Ok given) → TalksWhole words None given
