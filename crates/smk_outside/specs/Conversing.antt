-- A conversation: something is said, a line is heard and answered, then the next, up to an end.
use Rattle.std.specs.{Prelude.{◌≡◌, ℕ, ⊤, List, [], ◌∷◌, ◌++◌, length, map, IfSome}, List.{concat, flat_map, fold, scan}}
use Rattle.std.specs.Io.KnownBytes as known
use Rattle.smk_outside.specs.{declared.talk.event.Event.Event, declared.talk.event.Event.TheVariants.{Heard, End}, declared.talk.ending.Ending.Ending, declared.talk.ending.Ending.TheVariants.{Ended, Unheard, Unsaid, Outlasted}, Outside.{IsPrefix, Rose}, Told.{Told, said_in, Adds, Takes, AreAll, says}, Saying.AreFront}

-- what a conversation goes by, over states and turns: the line that was heard in a turn, the texts that are said of it in a state, one after the other, and the state after it
pub record Rules (S T : Type 0) : Type 0 where
  pub line : T → List ℕ
  pub texts : S → T → List (List ℕ)
  pub next : S → T → S

-- the state after turns, and all texts that are said of them
abbrev pub last_state : {S T : Type 0} → Rules S T → S → List T → S
last_state rules state turns = fold rules.next state turns

abbrev pub texts_of : {S T : Type 0} → Rules S T → S → List T → List (List ℕ)
texts_of rules state turns = flat_map (λ texts. texts) (scan rules.next rules.texts state turns)

-- what comes last: all is said, and then no line comes or none can be heard, or what is to be said breaks off
abbrev pub ComesLast : Ending → List (List ℕ) → List Event → Type 0
ComesLast Ended saying events = events ≡ says saying ++ End ∷ []
ComesLast Unsaid saying events = AreFront saying events
ComesLast _ saying events = events ≡ says saying

-- From a state, where these texts are to be said first: they are said, a line is heard, what is to be said of it is said, and so on to the end. Each turn is one that fits the state in which its line is heard.
abbrev pub Talks : {S T : Type 0} → Rules S T → (S → T → Type 0) → S → List (List ℕ) → Ending → List T → List Event → Type 0
Talks rules Fits state saying ending [] events = ComesLast ending saying events
Talks rules Fits state saying ending (turn ∷ turns) events =
    (more : List Event) × Fits state turn × (events ≡ says saying ++ Heard (rules.line turn) ∷ more)
    × Talks rules Fits (rules.next state turn) (rules.texts state turn) ending turns more

-- the lines that were heard are the first that were left, and at the end all of them; after a failure to hear nothing is said of those behind them
abbrev pub TakesBy : Ending → Told → Told → List (List ℕ) → Type 0
TakesBy Ended before after lines = AreAll before lines
TakesBy Unheard before after lines = IfSome before.left (λ left. (rest : List (List ℕ)) × (left ≡ lines ++ rest))
TakesBy _ before after lines = Takes before after lines

-- a stretch of a conversation, from one state and one moment to another
pub record Stretch {S T : Type 0} (rules : Rules S T) (Fits : S → T → Type 0) (saying : List (List ℕ)) (first last : S) (before after : Told) (ending : Ending) : Type 0 where
  pub turns : List T
  pub events : List Event
  pub talks : Talks rules Fits first saying ending turns events
  pub state : last ≡ last_state rules first turns
  pub adds : Adds before after events
  pub takes : TakesBy ending before after (map rules.line turns)

-- why it ends otherwise than by its last line: the object failed, or as many turns were made as can be counted
abbrev pub Cause : Ending → Type 0 → ℕ → Type 0
Cause Ended rose count = ⊤
Cause Outlasted rose count = count ≡ 18446744073709551615
Cause _ rose count = rose

-- a whole conversation, in which these texts are said first
pub record Conversation {S T : Type 0} (rules : Rules S T) (Fits : S → T → Type 0) (opening : List (List ℕ)) (first last : S) (before after : Told) (rose : Type 0) (ending : Ending) : Type 0 where
  pub talk : Stretch rules Fits opening first last before after ending
  pub cause : Cause ending rose (length talk.turns)

-- every turn fits; so does a turn that fits in any other way
abbrev pub AnyFits : {S T : Type 0} → S → T → Type 0
AnyFits state turn = ⊤

-- what a conversation says, put together: the opening, and then the texts of its turns in order; if it breaks off, only the beginning of this
pub record SaysAll (S T : Type 0) : Type 0 where
  pub whole : (rules : Rules S T) (first : S) (opening : List (List ℕ)) (ending : Ending) (turns : List T) (events : List Event)
      → (ending ≡ Unsaid → ⊥) → Talks rules AnyFits first opening ending turns events → said_in events ≡ concat (opening ++ texts_of rules first turns)
  pub front : (rules : Rules S T) (first : S) (opening : List (List ℕ)) (turns : List T) (events : List Event)
      → Talks rules AnyFits first opening Unsaid turns events → IsPrefix (said_in events) (concat (opening ++ texts_of rules first turns))
  -- a conversation that has ended has heard all lines that were left, in order, and has said all
  pub ended : (rules : Rules S T) (opening : List (List ℕ)) (first last : S) (before after : Told) (faults faults_after : ℕ)
      → (talked : Conversation rules AnyFits opening first last before after (Rose faults faults_after) Ended)
      → IfSome before.left (λ left. left ≡ map rules.line talked.talk.turns)
      × known.Appends before.said after.said (concat (opening ++ texts_of rules first talked.talk.turns))
