-- What an object with two ends tells of itself, and what may be added to it.
use Rattle.std.specs.Prelude.{◌≡◌, ℕ, ⊤, List, [], ◌∷◌, ◌++◌, map, Option, Some, None, IfSome}
use Rattle.std.specs.Io.KnownBytes as known
use Rattle.smk_outside.specs.{declared.talk.event.Event.Event, declared.talk.event.Event.TheVariants.{Heard, End, Said}}

-- what has happened so far, which lines are still to come, and all that was said so far, each where the object tells it
pub record Told : Type 0 where
  pub history : Option (List Event)
  pub left : Option (List (List ℕ))
  pub said : Option (List ℕ)

-- what was said in events, put together
abbrev pub said_in : List Event → List ℕ
said_in [] = []
said_in (Heard line ∷ events) = said_in events
said_in (End ∷ events) = said_in events
said_in (Said bytes ∷ events) = bytes ++ said_in events

-- these events have happened, and no more, where the history is told
abbrev pub Follow : Option (List Event) → Option (List Event) → List Event → Type 0
Follow None after events = ⊤
Follow (Some before) None events = ⊥
Follow (Some before) (Some after) events = after ≡ before ++ events

abbrev pub Adds : Told → Told → List Event → Type 0
Adds before after events = Follow before.history after.history events × known.Appends before.said after.said (said_in events)

-- these lines were taken, which were the first of those left, where they are told
abbrev pub AreFirst : Option (List (List ℕ)) → Option (List (List ℕ)) → List (List ℕ) → Type 0
AreFirst None after lines = ⊤
AreFirst (Some before) None lines = ⊥
AreFirst (Some before) (Some after) lines = before ≡ lines ++ after

abbrev pub Takes : Told → Told → List (List ℕ) → Type 0
Takes before after lines = AreFirst before.left after.left lines

-- these lines are all that are left, where they are told
abbrev pub AreAll : Told → List (List ℕ) → Type 0
AreAll told lines = IfSome told.left (λ left. left ≡ lines)

-- texts that are said one after the other
abbrev pub says : List (List ℕ) → List Event
says texts = map Said texts
