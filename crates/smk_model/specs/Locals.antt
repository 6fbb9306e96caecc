-- The lists of one-step lineage: which input places each output row comes from, and which output places each input row reaches.
use Rattle.std.specs.Prelude.{ℕ, List, [], ◌∷◌, length, map}
use Rattle.smk_base.specs.{Places.{Lists, upto, places, has}, Plans.{Unary, Binary}}
use Rattle.smk_model.specs.{Values.Row, Plain.{step1, step2}, Lineage.{from1, from_left, from_right}}

-- one list for each of these places, of it alone
abbrev pub singles : List ℕ → ℕ → Lists
singles of bound = record { lists = map (λ r. r ∷ []) of; bound = bound }

-- one list for each of the outputs, the places below inputs that it comes from
abbrev pub back_lists : (ℕ → List ℕ) → ℕ → ℕ → Lists
back_lists from outputs inputs = record { lists = map from (upto outputs); bound = inputs }

-- one list for each of the inputs, the places of the outputs that come from it
abbrev pub fwd_lists : (ℕ → List ℕ) → ℕ → ℕ → Lists
fwd_lists from outputs inputs = record { lists = map (λ i. places (λ o. has (from o) i) outputs) (upto inputs); bound = outputs }

-- the lists of a step with one input, backward and forward
abbrev pub back1 : Unary → List Row → Lists
back1 op L = back_lists (from1 op L) (length (step1 op L)) (length L)

abbrev pub fwd1 : Unary → List Row → Lists
fwd1 op L = fwd_lists (from1 op L) (length (step1 op L)) (length L)

-- the lists of a step with two inputs, on its left and on its right
abbrev pub back_left : Binary → List Row → List Row → Lists
back_left op L R = back_lists (from_left op L R) (length (step2 op L R)) (length L)

abbrev pub fwd_left : Binary → List Row → List Row → Lists
fwd_left op L R = fwd_lists (from_left op L R) (length (step2 op L R)) (length L)

abbrev pub back_right : Binary → List Row → List Row → Lists
back_right op L R = back_lists (from_right op L R) (length (step2 op L R)) (length R)

abbrev pub fwd_right : Binary → List Row → List Row → Lists
fwd_right op L R = fwd_lists (from_right op L R) (length (step2 op L R)) (length R)
