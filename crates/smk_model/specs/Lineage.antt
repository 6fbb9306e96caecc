-- One-step lineage: the places of the inputs that an output row comes from. Every list of places is a filter of places by a test.
use Rattle.std.specs.{Prelude.{ℕ, ◌-◌, Bool, cond, List, [], ◌∷◌, ◌++◌, length, map, slice_index_or, nat_lt}, List.flat_map}
pub use Rattle.smk_base.specs.Places.{upto, places, has}
use Rattle.smk_base.specs.{Rels.{row_in, rows_at}, Plans.{Formula, Unary, Selection, Projection, Distinction, Grouping, Binary, Equijoin, ThetaJoin, CrossProduct, BagUnion, SetUnion}}
use Rattle.smk_model.specs.{Values.{Row, meets}, Plain.{row_eq, image, key_of, firsts, agree, meets_together, always}}

-- row i
abbrev pub row_at : List Row → ℕ → Row
row_at L i = row_in L i

-- the rows at these places
abbrev pub sub : List Row → List ℕ → List Row
sub L A = rows_at L A

-- the places of the right rows that pass the test with left row i
abbrev pub partners : (Row → Row → Bool) → List Row → List Row → ℕ → List ℕ
partners test L R i = places (λ j. test (row_at L i) (row_at R j)) (length R)

-- the pairs of places that pass the test of a nested loop, in its order
abbrev pub matching : (Row → Row → Bool) → List Row → List Row → List (ℕ × ℕ)
matching test L R = flat_map (λ i. map (λ j. (i, j)) (partners test L R i)) (upto (length L))

-- their left and their right places
abbrev pub lefts_of : List (ℕ × ℕ) → List ℕ
lefts_of pairs = map (λ p. p.0) pairs

abbrev pub rights_of : List (ℕ × ℕ) → List ℕ
rights_of pairs = map (λ p. p.1) pairs

abbrev pub match_at : (Row → Row → Bool) → List Row → List Row → ℕ → ℕ × ℕ
match_at test L R o = slice_index_or (matching test L R) o (0, 0)

-- the places of the rows that meet a formula
abbrev pub meeting : Formula → List Row → List ℕ
meeting formula L = places (λ i. meets formula (row_at L i)) (length L)

-- the places that output row o of a step comes from
abbrev pub from1 : Unary → List Row → ℕ → List ℕ
from1 (Selection formula) L o = slice_index_or (meeting formula L) o 0 ∷ []
from1 (Projection items) L o = o ∷ []
from1 (Distinction items) L o = places (λ i. row_eq (row_at (firsts (map (image items) L)) o) (image items (row_at L i))) (length L)
from1 (Grouping keys aggs) L o = places (λ i. row_eq (row_at (firsts (map (key_of keys) L)) o) (key_of keys (row_at L i))) (length L)

-- the places in the left input, and in the right one, that output row o of a step comes from
abbrev pub from_left : Binary → List Row → List Row → ℕ → List ℕ
from_left (Equijoin pairs) L R o = (match_at (agree pairs) L R o).0 ∷ []
from_left (ThetaJoin formula) L R o = (match_at (meets_together formula) L R o).0 ∷ []
from_left CrossProduct L R o = (match_at always L R o).0 ∷ []
from_left BagUnion L R o = cond (nat_lt o (length L)) (o ∷ []) []
from_left SetUnion L R o = places (λ i. row_eq (row_at (firsts (L ++ R)) o) (row_at L i)) (length L)

abbrev pub from_right : Binary → List Row → List Row → ℕ → List ℕ
from_right (Equijoin pairs) L R o = (match_at (agree pairs) L R o).1 ∷ []
from_right (ThetaJoin formula) L R o = (match_at (meets_together formula) L R o).1 ∷ []
from_right CrossProduct L R o = (match_at always L R o).1 ∷ []
from_right BagUnion L R o = cond (nat_lt o (length L)) [] ((o - length L) ∷ [])
from_right SetUnion L R o = places (λ j. row_eq (row_at (firsts (L ++ R)) o) (row_at R j)) (length R)
