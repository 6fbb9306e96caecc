-- A conversation over README's first example, worked by hand: what is heard and said in it, one after the other.
use Rattle.std.specs.Prelude.{◌<◌, ℕ, List, [], ◌∷◌, length, Option, Some, codes}
use Rattle.smk_model.specs.{Conversation.line_limit, WorkedExamples.{readme_book_name, readme_files}}
use Rattle.smk_outside.specs.{Outside.Rose, Told.{Told, said_in}, declared.talk.event.Event.Event, declared.talk.event.Event.TheVariants.{Heard, End, Said}}
use Rattle.smk_top.specs.{declared.status.Status.Status, declared.status.Status.TheVariants.DoneWithRefusals, TalkEndings.ConverseEnds}

-- the lines: one that shows a view, one that appends the file of the table once more, one that may be too long, and one that leaves the grammar
abbrev pub line_shown : List ℕ
line_shown = codes "show by_region"

abbrev pub line_appended : List ℕ
line_appended = codes "append sales \"sales.csv\""

abbrev pub line_left : List ℕ
line_left = codes "show it all"

abbrev pub talk_lines : List ℕ → List (List ℕ)
talk_lines long = line_shown ∷ line_appended ∷ long ∷ line_left ∷ []

-- what is said: the text of the view, and an empty line
abbrev pub view_said : List Event → List Event
view_said more = Said (codes "view by_region 3\nrow,region,n,total\n0,north,2,40\n1,south,1,20\n2,east,1,5\n") ∷ Said (codes "\n") ∷ more

-- what comes after the first two lines and the answer to the first
abbrev pub answers_said : List ℕ → List Event
answers_said long =
    Said (codes "append sales 4\nview by_region 3\nrow,region,n,total\n0,north,4,80\n1,south,2,40\n2,east,2,10\n") ∷ Said (codes "\n")
    ∷ Heard long ∷ Said (codes "refused line too long\n") ∷ Said (codes "\n")
    ∷ Heard line_left ∷ Said (codes "line 4 not read at byte 8\n") ∷ Said (codes "\n")
    ∷ End ∷ []

-- each line is heard after the answer to the one before it; and the same events, but the second line is heard before the first is answered
abbrev pub answered_first : List ℕ → List Event
answered_first long = view_said (Heard line_shown ∷ view_said (Heard line_appended ∷ answers_said long))

abbrev pub heard_ahead : List ℕ → List Event
heard_ahead long = view_said (Heard line_shown ∷ Heard line_appended ∷ view_said (answers_said long))

-- an object that tells these events, when none of them has happened and when all have
abbrev pub told_first : List ℕ → Told
told_first long = record { history = Some []; left = Some (talk_lines long); said = Some [] }

abbrev pub told_last : List Event → Told
told_last events = record { history = Some events; left = Some []; said = Some (said_in events) }

-- if the third line is too long, these events are a conversation of README's words and files, in which nothing fails, no look is needed and nothing is said on `err`; no line is heard ahead, whatever fails and however it ends
pub record TalksHold : Type 0 where
  pub talks : (long : List ℕ) → line_limit < length long
      → ConverseEnds (readme_book_name ∷ []) (Some readme_files) 0 0 (Rose 0 0) (Rose 0 0) (told_first long) (told_last (answered_first long)) 0 0 (Some []) (Some []) DoneWithRefusals
  pub none_ahead : (long : List ℕ) (files files_after talks talks_after errs errs_after looks looks_after : ℕ) (err_before err_after : Option (List ℕ)) (status : Status)
      → ConverseEnds (readme_book_name ∷ []) (Some readme_files) files files_after (Rose talks talks_after) (Rose errs errs_after) (told_first long) (told_last (heard_ahead long)) looks looks_after err_before err_after status → ⊥
