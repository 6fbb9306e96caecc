-- The rows of a growing chain fit its kinds.
use Rattle.std.proofs.{Common.{◌≡◌, ℕ, suc, ◌+◌, ◌<◌, ◌≤◌, ℤ, pos, ◌≤ℤ◌, Bool, true, List, [], ◌∷◌, ◌++◌, length, map, refl, ap, sym, ◌∙◌, subst, arith, get_or}, lemmas.List.{length-map, get_or-map}, lemmas.List.Elements.{All-map, All-filter, All-weaker}, lemmas.Bool.{cond_both, false≢true}}
use Rattle.std.specs.List.{filter, All}
use Rattle.smk_base.specs.{Rels.{RowFits, Fits, kind_in}, declared.rel.TheConstants.ROW_LIMIT, declared.value.Kind.Kind, declared.value.Value.Value, declared.book.plan.Item.Item, declared.book.plan.Item.TheVariants.{Col, Bin}, declared.book.plan.Agg.Agg, Plans.{Unary, Selection, Projection, Distinction, Grouping, Expr, Leaf, Apply, Combine}}
use Rattle.smk_base.specs.declared.value.Kind.TheVariants as kinds
use Rattle.smk_base.specs.declared.value.Value.TheVariants as values
use Rattle.smk_base.proofs.{Kept.Within-bin, Places.map_map}
use Rattle.smk_body.proofs.{Aggregating.agg_fits, Fitting.{value_fits, All-rest, All-head}}
use Rattle.smk_model.specs.{Values.{Row, value_at, bin, meets}, Plain.{row_eq, item_at, image, key_of, number_of, aggregate, grouped, step1}, Kinds.{IsInt, ItemFits, AggFits, Fits1, kind_of_item, kind_of_agg, kinds1}, Selection.{PlanFits, plan_kinds, leaf_kinds}, Lineage.row_at, Classes.first_places, Composed.{table_at, rows_over}, LineageLaws.selected_table, Growth.is_growing}
use Rattle.smk_model.proofs.{Firsts.{holds, holds_at, key_there}, Classes.first_below, Comes.{rows_in, rows_whole}, Regroups.{of_key, group_rows}, Thin.{below, few_rows}}

-- values that are made each from one thing
made_fits : {X : Type 0} (f : X → Kind) (g : X → Value) (xs : List X) → All (λ x. Fits (f x) (g x)) xs → RowFits (map f xs) (map g xs)
made_fits f g [] h = tt
made_fits f g (x ∷ xs) h = (All-head (λ x. Fits (f x) (g x)) x xs h, made_fits f g xs (All-rest (λ x. Fits (f x) (g x)) x xs h))

both_fit : (ks js : List Kind) (vs ws : Row) → RowFits ks vs → RowFits js ws → RowFits (ks ++ js) (vs ++ ws)
both_fit [] js [] ws h f = f
both_fit (k ∷ ks) js (v ∷ vs) ws h f = (h.0, both_fit ks js vs ws h.1 f)
both_fit _ js _ ws h f = absurd h

bin_fits : (k : Kind) (v : Value) (w : ℤ) → Fits k v → IsInt k → pos 1 ≤ℤ w → Fits k (values.Int (bin (number_of v) w))
bin_fits (kinds.Int level) (values.Int n) w f i h = Within-bin level n w f h
bin_fits (kinds.Int level) (values.Text t) w f i h = absurd f
bin_fits kinds.Text v w f i h = absurd i

item_fits : (ks : List Kind) (row : Row) → RowFits ks row → (item : Item) → ItemFits ks item → Fits (kind_of_item ks item) (item_at row item)
item_fits ks row r (Col c) f = value_fits ks row c r f
item_fits ks row r (Bin c w) f = bin_fits (kind_in ks c) (value_at row c) w (value_fits ks row c r f.0) f.1 f.2

length-filter-le : {X : Type 0} (f : X → Bool) (xs : List X) → length (filter f xs) ≤ length xs
length-filter-le f [] = omega arith
length-filter-le f (x ∷ xs) = cond_both (f x) (x ∷ filter f xs) (filter f xs) (λ z. length z ≤ suc (length xs)) (λ e. omega (arith, length-filter-le f xs)) (λ e. omega (arith, length-filter-le f xs))

-- an aggregate over the rows of a key that is there
key_fits : (ks : List Kind) (keys : List ℕ) (L : List Row) → All (RowFits ks) L → length L ≤ ROW_LIMIT → (k : Row) → holds (map (key_of keys) L) k ≡ true
    → (rows : List Row) → of_key keys k L ≡ rows → (agg : Agg) → AggFits ks agg → Fits (kind_of_agg ks agg) (aggregate rows agg)
key_fits ks keys L all few k there [] e agg h =
    let none : holds (map (key_of keys) []) k ≡ true = subst (λ (z : List Row). holds (map (key_of keys) z) k ≡ true) e (key_there (key_of keys) L k there) in
    absurd (false≢true none)
key_fits ks keys L all few k there (x ∷ xs) e agg h =
    agg_fits ks x xs agg (subst (All (RowFits ks)) e (All-filter (λ other. row_eq k (key_of keys other)) (RowFits ks) L all)) (omega (arith, ap length e, length-filter-le (λ other. row_eq k (key_of keys other)) L, few)) h

group_fits : (ks : List Kind) (keys : List ℕ) (aggs : List Agg) (L : List Row) → Fits1 (Grouping keys aggs) ks → All (RowFits ks) L → length L ≤ ROW_LIMIT → (i : ℕ) → i < length L
    → RowFits (kinds1 (Grouping keys aggs) ks) (grouped keys aggs L (key_of keys (row_at L i)))
group_fits ks keys aggs L fits all few i l =
    let row = row_at L i in
    let k = key_of keys row in
    let rows = of_key keys k L in
    let there : holds (map (key_of keys) L) k ≡ true = subst (λ (z : Row). holds (map (key_of keys) L) z ≡ true) (get_or-map (key_of keys) L i [] [] l) (holds_at (map (key_of keys) L) i (omega (arith, l, length-map L (key_of keys)))) in
    both_fit (map (kind_in ks) keys) (map (kind_of_agg ks) aggs) k (map (aggregate rows) aggs)
    (made_fits (kind_in ks) (value_at row) keys (All-weaker (λ c. c < length ks) (λ c. Fits (kind_in ks c) (value_at row c)) (λ c h. value_fits ks row c (all i [] l) h) keys fits.keyed))
    (made_fits (kind_of_agg ks) (aggregate rows) aggs (All-weaker (AggFits ks) (λ agg. Fits (kind_of_agg ks agg) (aggregate rows agg)) (λ agg h. key_fits ks keys L all few k there rows refl agg h) aggs fits.each))

step_fits : (op : Unary) (input : Expr) (ks : List Kind) (L : List Row) → is_growing (Apply op input) ≡ true → Fits1 op ks → All (RowFits ks) L → length L ≤ ROW_LIMIT → All (RowFits (kinds1 op ks)) (step1 op L)
step_fits (Selection formula) input ks L c fits all few = All-filter (meets formula) (RowFits ks) L all
step_fits (Projection items) input ks L c fits all few = All-map (RowFits (map (kind_of_item ks) items)) (image items) L (λ i d l.
    made_fits (kind_of_item ks) (item_at (get_or L i d)) items (All-weaker (ItemFits ks) (λ item. Fits (kind_of_item ks item) (item_at (get_or L i d) item)) (λ item h. item_fits ks (get_or L i d) (all i d l) item h) items fits.each))
step_fits (Distinction items) input ks L c fits all few = absurd (false≢true c)
step_fits (Grouping keys aggs) input ks L c fits all few =
    let P = RowFits (kinds1 (Grouping keys aggs) ks) in
    let places = first_places (map (key_of keys) L) in
    let made = λ (row : Row). grouped keys aggs L (key_of keys row) in
    subst (All P) (sym (group_rows keys aggs L ∙ map_map made (row_at L) places))
    (All-map P (λ i. made (row_at L i)) places (λ i d l. group_fits ks keys aggs L fits all few (get_or places i d) (omega (arith, first_below (map (key_of keys) L) i d l, length-map L (key_of keys)))))

fits_in : (plan : Expr) (K : List (List Kind)) (tables : List (List Row)) → is_growing plan ≡ true → PlanFits plan (leaf_kinds plan K)
    → All (RowFits (get_or K (selected_table plan) [])) (table_at tables (selected_table plan)) → length (table_at tables (selected_table plan)) ≤ ROW_LIMIT
    → All (RowFits (plan_kinds plan (leaf_kinds plan K))) (rows_in plan tables)
fits_in (Leaf table) K tables c fits all few = all
fits_in (Apply op input) K tables c fits all few =
    let d = below op input c in
    step_fits op input (plan_kinds input (leaf_kinds input K)) (rows_in input tables) c fits.1 (fits_in input K tables d fits.0 all few) (omega (arith, few_rows input tables d, few))
fits_in (Combine op left right) K tables c fits all few = absurd (false≢true c)

-- the rows of a growing chain fit its kinds where those of its table fit theirs and are few
pub growing_fits : (plan : Expr) (K : List (List Kind)) (tables : List (List Row)) → is_growing plan ≡ true → PlanFits plan (leaf_kinds plan K)
    → All (RowFits (get_or K (selected_table plan) [])) (table_at tables (selected_table plan)) → length (table_at tables (selected_table plan)) ≤ ROW_LIMIT
    → All (RowFits (plan_kinds plan (leaf_kinds plan K))) (rows_over plan tables)
growing_fits plan K tables c fits all few = subst (All (RowFits (plan_kinds plan (leaf_kinds plan K)))) (sym (rows_whole plan tables)) (fits_in plan K tables c fits all few)
