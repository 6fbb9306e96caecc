-- What a call of `hear` may return.
use Rattle.std.specs.Prelude.{ℕ, ◌<◌, ◌≤◌, List, [], ◌∷◌, length, Result, Ok, Err}
use Rattle.smk_outside.specs.declared.talk.event.Event.TheVariants as events
use Rattle.smk_outside.specs.{declared.talk.heard.Heard.Heard, declared.talk.heard.Heard.TheVariants.{Line, Long, End}, declared.talk.heard.TalkFault.TalkFault, declared.talk.heard.TalkFault.TheVariants.{Failed, NoMemory}, Told.{Told, Adds, Takes, AreAll}}

-- this line came, and was taken
abbrev pub Hears : Told → Told → List ℕ → Type 0
Hears before after line = Adds before after (events.Heard line ∷ []) × Takes before after (line ∷ [])

-- a line of at most `limit` bytes, a longer one, or the end; without memory for it the line was taken too, and where the object failed none was heard
abbrev pub Gives : ℕ → Told → Told → Result Heard TalkFault → Type 0
Gives limit before after (Ok (Line line)) = Hears before after line.items × (length line.items ≤ limit)
Gives limit before after (Ok Long) = (line : List ℕ) × Hears before after line × (limit < length line)
Gives limit before after (Ok End) = Adds before after (events.End ∷ []) × AreAll before []
Gives limit before after (Err NoMemory) = (line : List ℕ) × Hears before after line
Gives limit before after (Err Failed) = Adds before after []
