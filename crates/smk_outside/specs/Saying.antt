-- What is said when something is to be said.
use Rattle.std.specs.{Prelude.{◌≡◌, ℕ, List, []}, List.concat}
use Rattle.smk_outside.specs.{declared.talk.event.Event.Event, Outside.IsPrefix, Told.{Told, Adds, Takes, says}}

-- these texts were said
abbrev pub Says : Told → Told → List (List ℕ) → Type 0
Says before after texts = Adds before after (says texts) × Takes before after []

-- nothing but `say` happened in these events, and the texts begin with what was said
abbrev pub AreFront : List (List ℕ) → List Event → Type 0
AreFront texts events = (parts : List (List ℕ)) × (events ≡ says parts) × IsPrefix (concat parts) (concat texts)

-- something was said that these texts begin with
abbrev pub SaysFront : Told → Told → List (List ℕ) → Type 0
SaysFront before after texts = (events : List Event) × AreFront texts events × Adds before after events × Takes before after []
