-- Plans that grow with their table: which they are, and how their rows over old and over new rows are put together.
use Rattle.std.specs.{Prelude.{ℕ, ◌+◌, Bool, true, false, not, List, [], ◌∷◌, ◌++◌, length, map, take, drop}, List.{list_any, filter, fold}}
use Rattle.smk_base.specs.{Aggregates.over_parts, Places.{upto, places}, declared.value.Value.Value, declared.book.plan.Agg.Agg, Plans.{Unary, Selection, Projection, Grouping, Expr, Leaf, Apply}}
use Rattle.smk_model.specs.{Values.Row, Plain.{row_eq, key_of, aggregate}, Lineage.{row_at, sub}}

-- whether a plan is a chain of selections and projections over a scan
abbrev pub is_chain : Expr → Bool
is_chain (Leaf table) = true
is_chain (Apply (Selection formula) input) = is_chain input
is_chain (Apply (Projection items) input) = is_chain input
is_chain _ = false

-- whether a plan is a growing chain: selections and projections over a scan, with at most a grouping over them
abbrev pub is_growing : Expr → Bool
is_growing (Apply (Grouping keys aggs) input) = is_chain input
is_growing plan = is_chain plan

-- the aggregates over the groups of parts, where those of each group are in its columns from c on
abbrev pub all_over_parts : ℕ → List Agg → List Agg
all_over_parts c [] = []
all_over_parts c (agg ∷ aggs) = over_parts c agg ∷ all_over_parts (c + 1) aggs

-- the grouping of the groups of parts, by their first columns, which are the keys
abbrev pub regrouping : List ℕ → List Agg → Unary
regrouping keys aggs = Grouping (upto (length keys)) (all_over_parts (length keys) aggs)

-- the keys of groups: their first k values
abbrev pub keys_in : ℕ → List Row → List Row
keys_in k groups = map (key_of (upto k)) groups

-- the places of the new keys that aren't among the old ones
abbrev pub fresh : List Row → List Row → List ℕ
fresh old new = places (λ j. not (list_any (row_eq (row_at new j)) old)) (length new)

-- the aggregate of a group from that of its old rows and that of its new ones
abbrev pub joint : Agg → Value → Value → Value
joint agg a b = aggregate ((a ∷ []) ∷ (b ∷ []) ∷ []) (over_parts 0 agg)

-- each aggregate of a group, from those of its old rows and those of its new ones
abbrev pub joint_values : List Agg → Row → Row → Row
joint_values (agg ∷ aggs) (a ∷ old) (b ∷ new) = joint agg a b ∷ joint_values aggs old new
joint_values _ _ _ = []

-- an old group, joined with the new one of its key
abbrev pub joint_group : ℕ → List Agg → Row → Row → Row
joint_group k aggs old new = take k old ++ joint_values aggs (drop k old) (drop k new)

-- each old group, joined with the new one of its key if there is one; then the new groups whose key no old one has
abbrev pub regrouped : ℕ → List Agg → List Row → List Row → List Row
regrouped k aggs old new =
    map (λ group. fold (joint_group k aggs) group (filter (λ other. row_eq (key_of (upto k) group) (key_of (upto k) other)) new)) old
    ++ sub new (fresh (keys_in k old) (keys_in k new))
