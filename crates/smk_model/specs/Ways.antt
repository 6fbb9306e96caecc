-- How the rows of a side and those of a step belong together: each is its own, each output row comes from one input row, or each input row reaches one output row.
use Rattle.std.specs.Prelude.{◌≡◌, ℕ, ◌+◌, List, ◌++◌, length, map}
use Rattle.smk_base.specs.{Places.{Lists, inverted, own_lists, upto}, Plans.{Unary, Selection, Projection, Distinction, Grouping, Binary, BagUnion, SetUnion}}
use Rattle.smk_model.specs.{Values.Row, Plain.{image, key_of, firsts, joins}, Lineage.{meeting, matching, lefts_of, rights_of}, Locals.{singles, back1, fwd1, back_left, fwd_left, back_right, fwd_right}, Classes.{places_in, classes}}

-- each of so many rows its own; the source of each output row, among so many; or the target of each input row, among so many
pub data Way : Type 0 where
  Own : ℕ → Way
  Sources : List ℕ → ℕ → Way
  Targets : List ℕ → ℕ → Way

-- its lists backward and forward
abbrev pub back_of : Way → Lists
back_of (Own n) = own_lists n
back_of (Sources of inputs) = singles of inputs
back_of (Targets of outputs) = inverted (singles of outputs)

abbrev pub fwd_of : Way → Lists
fwd_of (Own n) = own_lists n
fwd_of (Sources of inputs) = inverted (singles of inputs)
fwd_of (Targets of outputs) = singles of outputs

-- each row reaches the row of its key, in the order in which the keys come first
abbrev pub reaches : List Row → Way
reaches keys = Targets (classes keys) (length (firsts keys))

-- the way of a step with one input, one line a step
abbrev pub way : Unary → List Row → Way
way (Selection formula) L = Sources (meeting formula L) (length L)
way (Projection items) L = Own (length L)
way (Distinction items) L = reaches (map (image items) L)
way (Grouping keys aggs) L = reaches (map (key_of keys) L)

-- the ways of the two sides of a step: the left rows of a union of all rows come first, the right ones after them
abbrev pub left_way : Binary → List Row → List Row → Way
left_way BagUnion L R = Targets (upto (length L)) (length L + length R)
left_way SetUnion L R = Targets (places_in (firsts (L ++ R)) L) (length (firsts (L ++ R)))
left_way join L R = Sources (lefts_of (matching (joins join) L R)) (length L)

abbrev pub right_way : Binary → List Row → List Row → Way
right_way BagUnion L R = Targets (map (λ j. length L + j) (upto (length R))) (length L + length R)
right_way SetUnion L R = Targets (places_in (firsts (L ++ R)) R) (length (firsts (L ++ R)))
right_way join L R = Sources (rights_of (matching (joins join) L R)) (length R)

-- the lineage of a side is a fact of its way
pub record IsOf (way : Way) (back fwd : Lists) : Type 0 where
  pub backward : back ≡ back_of way
  pub forward : fwd ≡ fwd_of way

pub record LineageOfWays : Type 0 where
  pub one : (op : Unary) (L : List Row) → IsOf (way op L) (back1 op L) (fwd1 op L)
  pub left : (op : Binary) (L R : List Row) → IsOf (left_way op L R) (back_left op L R) (fwd_left op L R)
  pub right : (op : Binary) (L R : List Row) → IsOf (right_way op L R) (back_right op L R) (fwd_right op L R)
  -- where each row is its own, it is its own source and its own target
  pub own : (n : ℕ) → inverted (own_lists n) ≡ own_lists n
