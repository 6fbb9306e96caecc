-- What is proved of each aggregate: over another column of other rows that has the values of its own, and over the aggregates of parts.
use Rattle.std.proofs.{Common.{◌≡◌, ◌∙◌, ◌<◌, ◌+◌, ℕ, zero, suc, ℤ, pos, ◌+ℤ◌, Bool, true, false, cond, Some, List, [], ◌∷◌, length, map, refl, sym, ap, subst, arith, All, inl, inr}, lemmas.Bool.{cases_Bool, false≢true}, lemmas.Cmp.upto as above_upto, lemmas.Int.ints, lemmas.List.Sums.fold-append, lemmas.List.{length-append, length-map, map-append}, lemmas.Option.none-some, Props.props}
use Rattle.std.specs.{List.{flat_map, fold}, declared.cmp.Ordering.Ordering, declared.cmp.Ordering.TheVariants.Less, Ordering.{is_lt, is_gt, ordering_reverse}}
use Rattle.smk_base.specs.{Aggregates.{moved_to, over_parts, read_by}, Rels.kind_in, declared.book.plan.Agg.Agg, declared.book.plan.Agg.TheVariants.{Count, Sum, Min, Max}, declared.value.Kind.Kind, declared.value.Kind.TheVariants.{Int, Text}, declared.value.Value.Value}
use Rattle.smk_base.specs.declared.value.Value.TheVariants as values
use Rattle.smk_model.specs.{Kinds.{AggFits, IsSummed, kind_of_agg, summed}, Plain.{aggregate, combined, greater, lesser, number_of, total}, Tables.IsBase, Values.{Row, value_at, value_cmp}}
use Rattle.smk_model.proofs.{Parts.map_agree, Spread.value_order}
use Rattle.smk_base.proofs.Places.{map_map}

-- over its own column it is itself
pub moved_to_own : (agg : Agg) (place : ℕ) → ((c : ℕ) → read_by agg ≡ Some c → place ≡ c) → moved_to place agg ≡ agg
moved_to_own Count place own = refl
moved_to_own (Sum c) place own = ap Sum (own c refl)
moved_to_own (Min c) place own = ap Min (own c refl)
moved_to_own (Max c) place own = ap Max (own c refl)

-- its value, over as many rows
pub aggregate_moved : (agg : Agg) (place : ℕ) (others rows : List Row) → length others ≡ length rows
    → ((c : ℕ) → read_by agg ≡ Some c → map (λ row. value_at row place) others ≡ map (λ row. value_at row c) rows) → aggregate others (moved_to place agg) ≡ aggregate rows agg
aggregate_moved Count place others rows long same = ap (λ n. values.Int (pos n)) long
aggregate_moved (Sum c) place others rows long same =
    ap (λ ns. values.Int (total ns)) (sym (map_map number_of (λ (row : Row). value_at row place) others) ∙ ap (map number_of) (same c refl) ∙ map_map number_of (λ (row : Row). value_at row c) rows)
aggregate_moved (Min c) place others rows long same = ap (combined lesser) (same c refl)
aggregate_moved (Max c) place others rows long same = ap (combined greater) (same c refl)

-- its value over rows that are made of rows, each of one
pub aggregate_of_made : (agg : Agg) (place : ℕ) (made : Row → Row) (rows : List Row) → ((c : ℕ) → read_by agg ≡ Some c → (row : Row) → value_at (made row) place ≡ value_at row c)
    → aggregate (map made rows) (moved_to place agg) ≡ aggregate rows agg
aggregate_of_made agg place made rows same =
    aggregate_moved agg place (map made rows) rows (length-map rows made)
    (λ c reads. map_map (λ (row : Row). value_at row place) made rows ∙ map_agree (λ row. value_at (made row) place) (λ row. value_at row c) (same c reads) rows)

-- its kind
pub kind_of_moved : (agg : Agg) (place : ℕ) (others kinds : List Kind) → ((c : ℕ) → read_by agg ≡ Some c → kind_in others place ≡ kind_in kinds c) → kind_of_agg others (moved_to place agg) ≡ kind_of_agg kinds agg
kind_of_moved Count place others kinds same = refl
kind_of_moved (Sum c) place others kinds same = ap summed (same c refl)
kind_of_moved (Min c) place others kinds same = same c refl
kind_of_moved (Max c) place others kinds same = same c refl

-- it fits
pub moved_fits : (agg : Agg) (place : ℕ) (others kinds : List Kind) → ((c : ℕ) → read_by agg ≡ Some c → (place < length others) × (kind_in others place ≡ kind_in kinds c)) → ((c : ℕ) → read_by agg ≡ Some c → AggFits kinds agg)
    → AggFits others (moved_to place agg)
moved_fits Count place others kinds there fits = tt
moved_fits (Sum c) place others kinds there fits = ((there c refl).0, rw ((there c refl).1) ((fits c refl).1))
moved_fits (Min c) place others kinds there fits = (there c refl).0
moved_fits (Max c) place others kinds there fits = (there c refl).0

-- the column that it reads is there
pub column_there : (agg : Agg) (kinds : List Kind) (c : ℕ) → AggFits kinds agg → read_by agg ≡ Some c → c < length kinds
column_there Count kinds c fits reads = absurd (none-some c reads)
column_there (Sum x) kinds c fits reads = let e : x ≡ c = cc in rw (sym e) fits.0
column_there (Min x) kinds c fits reads = let e : x ≡ c = cc in rw (sym e) fits
column_there (Max x) kinds c fits reads = let e : x ≡ c = cc in rw (sym e) fits

-- the kind of a column of a table
pub base_at : (kinds : List Kind) → All IsBase kinds → (c : ℕ) → IsBase (kind_in kinds c)
base_at [] all c = tt
base_at (k ∷ ks) all zero = all 0 k (omega arith)
base_at (k ∷ ks) all (suc c) = base_at ks (λ i d h. all (suc i) d (omega arith)) c

summed_low : (k : Kind) → IsBase k → IsSummed k → IsSummed (summed k)
summed_low (Int level) b s = omega (arith, b)
summed_low Text b s = absurd s

-- taken once more over groups of rows of level 0, it fits
pub parts_fit : (agg : Agg) (place : ℕ) (groups kinds : List Kind) → All IsBase kinds → place < length groups → kind_in groups place ≡ kind_of_agg kinds agg → AggFits kinds agg → AggFits groups (over_parts place agg)
parts_fit Count place groups kinds all low is fits = let none : IsSummed (Int 0) = omega arith in (low, subst IsSummed (sym is) none)
parts_fit (Sum c) place groups kinds all low is fits = (low, subst IsSummed (sym is) (summed_low (kind_in kinds c) (base_at kinds all c) fits.1))
parts_fit _ place groups kinds all low is fits = low

-- it fits in one way at most
summed_prop : (k : Kind) → IsProp (IsSummed k)
summed_prop (Int level) = hlevel props
summed_prop Text = hlevel props

pub agg_prop : (kinds : List Kind) (agg : Agg) → IsProp (AggFits kinds agg)
agg_prop kinds Count = hlevel props
agg_prop kinds (Sum c) = hlevel (summed_prop, props)
agg_prop kinds (Min c) = hlevel props
agg_prop kinds (Max c) = hlevel props

-- the order of values

reversed : (o : Ordering) → is_lt (ordering_reverse o) ≡ is_gt o
reversed Less = refl
reversed _ = refl

less_is : (o : Ordering) → is_lt o ≡ true → o ≡ Less
less_is Less h = refl
less_is _ h = absurd (false≢true h)

-- less one way is greater the other way
lt_gt : (x y : Value) → is_lt (value_cmp x y) ≡ is_gt (value_cmp y x)
lt_gt x y = ap is_lt (value_order.antisymm x y) ∙ reversed (value_cmp y x)

lt_trans : (x y z : Value) → is_lt (value_cmp x y) ≡ true → is_lt (value_cmp y z) ≡ true → is_lt (value_cmp x z) ≡ true
lt_trans x y z p q = ap is_lt (value_order.trans x y z (less_is _ p) (less_is _ q))

-- taking the better of two in turn, where no less good one is better than a better one

better_assoc : {X : Type 0} (t : X → X → Bool) → ((x y z : X) → t x y ≡ true → t y z ≡ true → t x z ≡ true) → ((x y z : X) → t x y ≡ false → t y z ≡ false → t x z ≡ false)
    → (a b c : X) → cond (t c (cond (t b a) b a)) c (cond (t b a) b a) ≡ cond (t (cond (t c b) c b) a) (cond (t c b) c b) a
better_assoc t trans neg a b c = elim (cases_Bool (t b a)) [
  | inl p ↦ elim (cases_Bool (t c b)) [
    | inl q ↦ rw (p, q, trans c b a q p) refl
    | inr q ↦ rw (p, q, p) refl
  ]
  | inr p ↦ elim (cases_Bool (t c b)) [
    | inl q ↦ rw (p, q) refl
    | inr q ↦ rw (p, q, neg c b a q p, p) refl
  ]
]

lesser_assoc : (a b c : Value) → lesser (lesser a b) c ≡ lesser a (lesser b c)
lesser_assoc = better_assoc (λ x y. is_lt (value_cmp x y)) lt_trans (λ x y z p q. lt_gt x z ∙ above_upto value_order z y x (sym (lt_gt y z) ∙ q) (sym (lt_gt x y) ∙ p))

greater_assoc : (a b c : Value) → greater (greater a b) c ≡ greater a (greater b c)
greater_assoc = better_assoc (λ x y. is_gt (value_cmp x y)) (λ x y z p q. sym (lt_gt z x) ∙ lt_trans z y x (lt_gt z y ∙ q) (lt_gt y x ∙ p)) (above_upto value_order)

-- folds over parts

fold_after : {X : Type 0} (f : X → X → X) → ((a b c : X) → f (f a b) c ≡ f a (f b c)) → (m b : X) (xs : List X) → fold f (f m b) xs ≡ f m (fold f b xs)
fold_after f assoc m b [] = refl
fold_after f assoc m b (x ∷ xs) = ap (λ z. fold f z xs) (assoc m b x) ∙ fold_after f assoc m (f b x) xs

-- the rows of a part that has some
abbrev pub rows_in_part : Row × List Row → List Row
rows_in_part part = part.0 ∷ part.1

abbrev pub all_rows : List (Row × List Row) → List Row
all_rows parts = flat_map rows_in_part parts

counts : (z : ℕ) (parts : List (Row × List Row)) → fold ◌+ℤ◌ (pos z) (map (λ p. pos (length (rows_in_part p))) parts) ≡ pos (z + length (all_rows parts))
counts z [] = ap pos (omega arith)
counts z (p ∷ ps) = counts (z + length (rows_in_part p)) ps ∙ ap pos (omega (arith, length-append (rows_in_part p) (all_rows ps)))

sums : (n : Row → ℤ) (z : ℤ) (parts : List (Row × List Row)) → fold ◌+ℤ◌ z (map (λ p. total (map n (rows_in_part p))) parts) ≡ fold ◌+ℤ◌ z (map n (all_rows parts))
sums n z [] = refl
sums n z (p ∷ ps) =
    let ns = map n (rows_in_part p) in
    let none : z +ℤ pos 0 ≡ z = omega (arith, ints) in
    let here : fold ◌+ℤ◌ z ns ≡ z +ℤ total ns = ap (λ m. fold ◌+ℤ◌ m ns) (sym none) ∙ fold_after ◌+ℤ◌ (λ a b c. omega (arith, ints)) z (pos 0) ns in
    sums n (z +ℤ total ns) ps
    ∙ ap (λ m. fold ◌+ℤ◌ m (map n (all_rows ps))) (sym here)
    ∙ sym (ap (fold ◌+ℤ◌ z) (map-append n (rows_in_part p) (all_rows ps)) ∙ fold-append ◌+ℤ◌ z ns (map n (all_rows ps)))

bests_from : (f : Value → Value → Value) → ((a b c : Value) → f (f a b) c ≡ f a (f b c)) → (v : Row → Value) (a : Value) (parts : List (Row × List Row))
    → fold f a (map (λ p. combined f (map v (rows_in_part p))) parts) ≡ fold f a (map v (all_rows parts))
bests_from f assoc v a [] = refl
bests_from f assoc v a (p ∷ ps) =
    ap (λ m. fold f m (map (λ p. combined f (map v (rows_in_part p))) ps)) (sym (fold_after f assoc a (v p.0) (map v p.1)))
    ∙ bests_from f assoc v (fold f (f a (v p.0)) (map v p.1)) ps
    ∙ sym (ap (fold f a) (map-append v (rows_in_part p) (all_rows ps)) ∙ fold-append f a (map v (rows_in_part p)) (map v (all_rows ps)))

bests : (f : Value → Value → Value) → ((a b c : Value) → f (f a b) c ≡ f a (f b c)) → (v : Row → Value) (parts : List (Row × List Row))
    → combined f (map (λ p. combined f (map v (rows_in_part p))) parts) ≡ combined f (map v (all_rows parts))
bests f assoc v [] = refl
bests f assoc v (p ∷ ps) =
    bests_from f assoc v (fold f (v p.0) (map v p.1)) ps
    ∙ sym (ap (fold f (v p.0)) (map-append v p.1 (all_rows ps)) ∙ fold-append f (v p.0) (map v p.1) (map v (all_rows ps)))

-- an aggregate over the aggregates of parts

pub once_more : (agg : Agg) (n : ℕ) (row : Row × List Row → Row) (parts : List (Row × List Row)) → ((p : Row × List Row) → value_at (row p) n ≡ aggregate (rows_in_part p) agg)
    → aggregate (map row parts) (over_parts n agg) ≡ aggregate (all_rows parts) agg
once_more Count n row parts at =
    ap (λ ns. values.Int (total ns)) (map_map (λ r. number_of (value_at r n)) row parts ∙ map_agree (λ p. number_of (value_at (row p) n)) (λ p. pos (length (rows_in_part p))) (λ p. ap number_of (at p)) parts)
    ∙ ap values.Int (counts 0 parts ∙ ap pos (omega arith))
once_more (Sum c) n row parts at =
    ap (λ ns. values.Int (total ns)) (map_map (λ r. number_of (value_at r n)) row parts ∙ map_agree (λ p. number_of (value_at (row p) n)) (λ p. total (map (λ r. number_of (value_at r c)) (rows_in_part p))) (λ p. ap number_of (at p)) parts)
    ∙ ap values.Int (sums (λ r. number_of (value_at r c)) (pos 0) parts)
once_more (Min c) n row parts at =
    ap (combined lesser) (map_map (λ r. value_at r n) row parts ∙ map_agree (λ p. value_at (row p) n) (λ p. combined lesser (map (λ r. value_at r c) (rows_in_part p))) at parts)
    ∙ bests lesser lesser_assoc (λ r. value_at r c) parts
once_more (Max c) n row parts at =
    ap (combined greater) (map_map (λ r. value_at r n) row parts ∙ map_agree (λ p. value_at (row p) n) (λ p. combined greater (map (λ r. value_at r c) (rows_in_part p))) at parts)
    ∙ bests greater greater_assoc (λ r. value_at r c) parts
