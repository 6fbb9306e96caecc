-- A sink in memory, as contracts see it.
use Rattle.std.specs.{Prelude.{ℕ, ◌-◌, min, nat_eq, nat_le, Bool, ◌&&◌, is_none, List, ◌++◌, length, take, Option, unwrap_or, if◌then◌else◌}, List.find, Option.option_map}
use Rattle.smk_outside.specs.Outside.{next_count}

-- the bytes so far, the numbers of the calls that are to fail with the count of bytes that they take, how many bytes fit in all,
-- and how many calls were made and how many failed
pub record StoredBytes : Type 0 where
  pub written : List ℕ
  pub fails : List (ℕ × ℕ)
  pub room : ℕ
  pub calls : ℕ
  pub faults : ℕ

-- after how many bytes the next call is to fail, if it is to fail
abbrev pub next_failure : StoredBytes → Option ℕ
next_failure store = option_map (λ fail. fail.1) (find (λ fail. nat_eq fail.0 store.calls) store.fails)

-- how many more bytes fit
abbrev pub room_left : StoredBytes → ℕ
room_left store = store.room - length store.written

-- what the next call takes of these bytes: those before its failure, as far as they fit
abbrev pub taken : StoredBytes → List ℕ → List ℕ
taken store bytes = take (min (unwrap_or (next_failure store) (length bytes)) (room_left store)) bytes

-- whether the next call isn't to fail and all these bytes fit
abbrev pub takes_all : StoredBytes → List ℕ → Bool
takes_all store bytes = is_none (next_failure store) && nat_le (length bytes) (room_left store)

-- what was taken is appended, and a call that didn't take all counts as a fault
abbrev pub after_put : StoredBytes → List ℕ → StoredBytes
after_put store bytes = record store {
  written = store.written ++ taken store bytes;
  calls = next_count store.calls;
  faults = if takes_all store bytes then store.faults else next_count store.faults;
}
