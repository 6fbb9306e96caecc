-- The rules of a conversation over a book, and stretches of such a conversation.
use Rattle.std.specs.Prelude.{◌≡◌, ◌≤◌, ◌<◌, ◌+◌, ℕ, Bool, ◌||◌, nat_lt, List, [], length, take, Option, Some, None}
use Rattle.smk_model.specs.{Conversation.{TalkTurn, TalkState, line_of, turn_after, turn_block, turn_told, turn_text, turns_told, session_after, FitsTalk}, Outcome.Held, Reports.{BookSaid, LinesTold}, Session.State, TalkStarts.{BringsBy, FailedReads, misreads}}
use Rattle.smk_outside.specs.{Conversing.{Rules, Stretch, Cause}, Outside.Rose, Saying.Says, Told.Told as ToldBy, declared.talk.ending.Ending.Ending, declared.talk.ending.Ending.TheVariants.Outlasted}
use Rattle.smk_top.specs.{declared.talking.Words.Words, declared.talking.Words.TheVariants.{Made, Ready}}

-- the line of each turn, what is said of it, and the state after it
abbrev pub talk_rules : BookSaid → Rules TalkState TalkTurn
talk_rules said = record { line = line_of; texts = turn_block said; next = turn_after said }

-- whether a line is refused or unread
abbrev pub is_down : LinesTold → Bool
is_down told = nat_lt 0 told.refused || nat_lt 0 told.unread

-- the first few of these texts were said, each of them whole: perhaps none, but not all
abbrev pub SaysFew : List (List ℕ) → ToldBy → ToldBy → Type 0
SaysFew texts before after = (count : ℕ) × (count < length texts) × Says before after (take count texts)

-- a line with these bytes is answered with a text, in a turn that may happen
pub record AnswersLine (said : BookSaid) (read_only : Bool) (held : Option Held) (rose : Type 0) (state : TalkState) (bytes : List ℕ) (after : State) (text : List ℕ) (down : Bool) (looks_before looks_after : ℕ) : Type 0 where
  pub turn : TalkTurn
  pub line : line_of turn ≡ bytes
  pub fits : FitsTalk read_only said.catalog (BringsBy held rose) state turn
  pub session : after ≡ session_after said state.session turn
  pub is : text ≡ turn_text said state turn
  pub turned : down ≡ is_down (turn_told said state turn)
  pub looks : looks_after ≤ looks_before + (turn_told said state turn).looks

-- a stretch of a conversation, with its looks, and whether one of its lines was refused or unread; at most as many lines are refused for failed reads as the count of faults shows
pub record TalkStretch (said : BookSaid) (read_only : Bool) (held : Option Held) (files_before files_after : ℕ) (saying : List (List ℕ)) (first last : TalkState) (before after : ToldBy) (ending : Ending) (down : Bool) (looks_before looks_after : ℕ) : Type 0 where
  pub talk : Stretch (talk_rules said) (FitsTalk read_only said.catalog (BringsBy held (Rose files_before files_after))) saying first last before after ending
  pub misread : FailedReads (misreads held talk.turns) files_before files_after
  pub turned : down ≡ is_down (turns_told said first talk.turns)
  pub looks : looks_after ≤ looks_before + (turns_told said first talk.turns).looks

-- one more turn, or the end with its cause
pub record TakesTurn (said : BookSaid) (read_only : Bool) (held : Option Held) (files_before files_after : ℕ) (first last : TalkState) (before after : ToldBy) (down : Bool) (looks_before looks_after : ℕ) : Type 0 where
  pub stretch : TalkStretch said read_only held files_before files_after [] first last before after Outlasted down looks_before looks_after
  pub one : length stretch.talk.turns ≡ 1

pub record EndsTurn (said : BookSaid) (read_only : Bool) (held : Option Held) (files_before files_after : ℕ) (talk_rose : Type 0) (first : TalkState) (before after : ToldBy) (ending : Ending) (down : Bool) (looks_before looks_after : ℕ) : Type 0 where
  pub last : TalkState
  pub stretch : TalkStretch said read_only held files_before files_after [] first last before after ending down looks_before looks_after
  pub cause : (count : ℕ) → Cause ending talk_rose count

abbrev pub TurnTaken : BookSaid → Bool → Option Held → ℕ → ℕ → Type 0 → TalkState → TalkState → ToldBy → ToldBy → Option Ending → Bool → ℕ → ℕ → Type 0
TurnTaken said read_only held files_before files_after talk_rose first next before after None down looks_before looks_after = TakesTurn said read_only held files_before files_after first next before after down looks_before looks_after
TurnTaken said read_only held files_before files_after talk_rose first next before after (Some ending) down looks_before looks_after = EndsTurn said read_only held files_before files_after talk_rose first before after ending down looks_before looks_after

-- a whole conversation over a book
pub record Talked (said : BookSaid) (read_only : Bool) (held : Option Held) (files_before files_after : ℕ) (talk_rose : Type 0) (saying : List (List ℕ)) (first : TalkState) (before after : ToldBy) (ending : Ending) (down : Bool) (looks_before looks_after : ℕ) : Type 0 where
  pub last : TalkState
  pub stretch : TalkStretch said read_only held files_before files_after saying first last before after ending down looks_before looks_after
  pub cause : Cause ending talk_rose (length stretch.talk.turns)

-- the state of a conversation, after so many lines
abbrev pub talk_at : State → ℕ → TalkState
talk_at state heard = record { session = state; heard = heard }

-- the bytes that are said
abbrev pub words_bytes : Words → List ℕ
words_bytes (Made text) = text.items
words_bytes (Ready text) = text.now
