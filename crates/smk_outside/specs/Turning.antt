-- What one turn of a conversation does, for the body of a loop that makes them.
use Rattle.std.specs.Prelude.{◌≡◌, ℕ, List, [], length, Option, Some, None}
use Rattle.smk_outside.specs.{declared.talk.ending.Ending.Ending, declared.talk.ending.Ending.TheVariants.{Unsaid, Outlasted}, Told.Told, Saying.{Says, SaysFront}, Conversing.{Rules, Stretch, Cause}}

-- texts were said, or the object failed
abbrev pub ReplyGives : Type 0 → Told → Told → List (List ℕ) → Option Ending → Type 0
ReplyGives rose before after texts None = Says before after texts
ReplyGives rose before after texts (Some Unsaid) = SaysFront before after texts × rose
ReplyGives rose before after texts (Some _) = ⊥

-- a line was heard and answered, or the conversation ended with a cause
pub record WholeTurn {S T : Type 0} (rules : Rules S T) (Fits : S → T → Type 0) (first last : S) (before after : Told) : Type 0 where
  pub talk : Stretch rules Fits [] first last before after Outlasted
  pub one : length talk.turns ≡ 1

pub record LastTurn {S T : Type 0} (rules : Rules S T) (Fits : S → T → Type 0) (rose : Type 0) (first last : S) (before after : Told) (ending : Ending) : Type 0 where
  pub talk : Stretch rules Fits [] first last before after ending
  pub cause : (count : ℕ) → Cause ending rose count

abbrev pub TurnGives : {S T : Type 0} → Rules S T → (S → T → Type 0) → Type 0 → S → S → Told → Told → Option Ending → Type 0
TurnGives rules Fits rose first last before after None = WholeTurn rules Fits first last before after
TurnGives rules Fits rose first last before after (Some ending) = LastTurn rules Fits rose first last before after ending
