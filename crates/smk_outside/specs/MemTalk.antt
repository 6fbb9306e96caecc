-- An object in memory, as contracts see it.
use Rattle.std.specs.{Prelude.{ℕ, List, Some, None, Bool, is_some, nat_eq}, List.{list_any, find}, Option.option_map}
use Rattle.smk_outside.specs.{declared.talk.event.Event.Event, Told.Told}

-- the lines still to come and what has happened, the numbers of the calls that are to fail, a failing `say` with the count of bytes that it says, how many calls of each kind were made, and how many failed
pub record StoredTalk : Type 0 where
  pub left : List (List ℕ)
  pub events : List Event
  pub hear_fails : List ℕ
  pub say_fails : List (ℕ × ℕ)
  pub hears : ℕ
  pub says : ℕ
  pub faults : ℕ

-- it tells what happened, which tells what was said, and the lines still to come
abbrev pub told_of : StoredTalk → Told
told_of store = record { history = Some store.events; left = Some store.left; said = None }

-- whether the next call of `hear` is to fail, and whether the next of `say` is
abbrev pub fails_to_hear : StoredTalk → Bool
fails_to_hear store = list_any (nat_eq store.hears) store.hear_fails

abbrev pub fails_to_say : StoredTalk → Bool
fails_to_say store = is_some (option_map (λ fail. fail.1) (find (λ fail. nat_eq fail.0 store.says) store.say_fails))
