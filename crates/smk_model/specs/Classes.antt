-- Keys in classes of equal ones, which are numbered by first occurrence.
use Rattle.std.specs.{Prelude.{ℕ, not, List, ◌++◌, length, map, take}, List.{list_any, position_or_len}}
use Rattle.smk_model.specs.{Values.Row, Plain.{row_eq, firsts}, Lineage.{places, row_at}}

-- for each of these rows its first place among those
abbrev pub places_in : List Row → List Row → List ℕ
places_in found rows = map (λ row. position_or_len (row_eq row) found) rows

-- the class of each key: its place among the keys at their first occurrence
abbrev pub classes : List Row → List ℕ
classes keys = places_in (firsts keys) keys

-- for each class the place where its key comes first
abbrev pub first_places : List Row → List ℕ
first_places keys = places_in keys (firsts keys)

-- the places of the right rows that equal no left row and no earlier right one
abbrev pub new_places : List Row → List Row → List ℕ
new_places L R = places (λ j. not (list_any (row_eq (row_at R j)) (L ++ take j R))) (length R)
