-- The rows of a grouping, class by class.
use Rattle.std.proofs.{Common.{◌≡◌, ◌∙◌, ◌<◌, ◌≤◌, ℕ, ℤ, pos, suc, ◌+◌, true, false, Bool, List, [], ◌∷◌, ◌++◌, length, map, refl, sym, ap, subst, arith, All, get_or, nat_eq, filter}, lemmas.List.{length-map, get_or-map, get_or_default, append-nil}, lemmas.List.Elements.{All-map, All-weaker}, lemmas.Bool.{cond_both, eq-eqb, ne_eqb}, lemmas.Int.ints}
use Rattle.std.specs.List.{fold}
use Rattle.smk_keys.specs.Classes.{ClassesImage}
use Rattle.smk_base.specs.{declared.value.Value.Value, declared.value.Kind.Kind, declared.book.plan.Agg.Agg, declared.book.plan.Agg.TheVariants.{Count, Sum, Min, Max}, Places.{upto, places}, declared.rel.TheConstants.ROW_LIMIT, Rels.{Fits, RowFits, IsWithin, kind_in, column_values, picked, rows_at}}
use Rattle.smk_base.specs.declared.value.Value.TheVariants as values
use Rattle.smk_base.specs.declared.value.Kind.TheVariants as kinds
use Rattle.smk_model.specs.{Values.{Row, value_at}, Plain.{row_eq, key_of, firsts, aggregate, grouped, number_of, total, combined, lesser, greater}, Lineage.{row_at, sub}, Kinds.{AggFits, IsSummed, kind_of_agg, summed}, Classes.{classes, first_places}}
use Rattle.smk_base.proofs.Places.{map_map, map_upto, map_upto_agree, same_below, places_below, few_places}
use Rattle.smk_model.proofs.{Firsts.sub_key, Classes.{classes_are, first_below}}
use Rattle.smk_body.specs.Halves.{AreNumbered, best_place, better, class_places, class_sizes}
use Rattle.smk_body.proofs.{Fitting.{value_fits, within_more, total_within, All-head, All-rest}, Folding.{int_at, best_of_class}, Classing.{first_at, length_firsts}}

-- the sizes of classes, as a column
pub counted_rows : (rows : List Row) (classes : ClassesImage) (n : ℕ) → length classes.of ≡ n
    → map (λ (m : ℕ). values.Int (pos m) ∷ []) (class_sizes classes) ≡ map (λ p. aggregate (sub rows (class_places classes.of n p)) Count ∷ []) (upto (length classes.firsts))
counted_rows rows classes n long =
    map_map (λ (m : ℕ). values.Int (pos m) ∷ []) (λ p. length (class_places classes.of (length classes.of) p)) (upto (length classes.firsts))
    ∙ map_upto_agree (λ p. values.Int (pos (length (class_places classes.of (length classes.of) p))) ∷ []) (λ p. aggregate (sub rows (class_places classes.of n p)) Count ∷ []) (length classes.firsts) (λ p h.
    ap (λ m. values.Int (pos (length (class_places classes.of m p))) ∷ []) long ∙ ap (λ m. values.Int (pos m) ∷ []) (sym (length-map (class_places classes.of n p) (row_at rows))))

pub summed_rows : (rows : List Row) (c : ℕ) (of : List ℕ) (n k : ℕ) → map (λ (z : ℤ). values.Int z ∷ []) (map (λ p. total (map (λ i. number_of (value_at (row_at rows i) c)) (class_places of n p))) (upto k)) ≡ map (λ p. aggregate (sub rows (class_places of n p)) (Sum c) ∷ []) (upto k)
summed_rows rows c of n k =
    let sum = λ (p : ℕ). total (map (λ i. number_of (value_at (row_at rows i) c)) (class_places of n p)) in
    map_map (λ (z : ℤ). values.Int z ∷ []) sum (upto k) ∙ map_upto_agree (λ p. values.Int (sum p) ∷ []) (λ p. aggregate (sub rows (class_places of n p)) (Sum c) ∷ []) k
    (λ p h. ap (λ (ns : List ℤ). values.Int (total ns) ∷ []) (sym (map_map (λ (row : Row). number_of (value_at row c)) (row_at rows) (class_places of n p))))

-- the ints of a column
pub value_is : (rows : List Row) (c : ℕ) (numbers : List ℤ) (i : ℕ) → map values.Int numbers ≡ column_values c rows → i < length rows → values.Int (int_at numbers i) ≡ value_at (row_at rows i) c
value_is rows c numbers i e h =
    let long : length numbers ≡ length rows = sym (length-map numbers values.Int) ∙ ap length e ∙ length-map rows (λ row. value_at row c) in
    sym (get_or-map values.Int numbers i (pos 0) (values.Int (pos 0)) (omega (arith, long))) ∙ ap (λ z. get_or z i (values.Int (pos 0))) e ∙ get_or-map (λ (row : Row). value_at row c) rows i [] (values.Int (pos 0)) h

pub int_is : (rows : List Row) (c : ℕ) (numbers : List ℤ) (i : ℕ) → map values.Int numbers ≡ column_values c rows → i < length rows → int_at numbers i ≡ number_of (value_at (row_at rows i) c)
int_is rows c numbers i e h = ap number_of (value_is rows c numbers i e h)

pub ints_long : (rows : List Row) (c : ℕ) (numbers : List ℤ) → map values.Int numbers ≡ column_values c rows → length numbers ≡ length rows
ints_long rows c numbers e = sym (length-map numbers values.Int) ∙ ap length e ∙ length-map rows (λ row. value_at row c)

pub int_fits : (level : ℕ) (v : Value) → Fits (kinds.Int level) v → IsWithin level (number_of v)
int_fits level (values.Int n) f = f
int_fits level (values.Text t) f = absurd f

pub ints_within : (columns : List Kind) (rows : List Row) (c level : ℕ) (numbers : List ℤ) → map values.Int numbers ≡ column_values c rows → c < length columns → kind_in columns c ≡ kinds.Int level → All (RowFits columns) rows → All (IsWithin level) numbers
ints_within columns rows c level numbers e l k all i d h =
    let low : i < length rows = omega (arith, h, ints_long rows c numbers e) in
    rw (get_or_default numbers i d (pos 0) h, int_is rows c numbers i e low) (int_fits level (value_at (row_at rows i) c) (subst (λ (z : Kind). Fits z (value_at (row_at rows i) c)) k (value_fits columns (row_at rows i) c (all i [] low) l)))

-- the level of a column that is summed
pub level_of : (k : Kind) → IsSummed k → (level : ℕ) × (k ≡ kinds.Int level) × (level ≤ 2)
level_of (kinds.Int level) s = (level, refl, s)
level_of kinds.Text s = absurd s

-- the rows of classes are those with their keys
class_rows : (keys : List ℕ) (L : List Row) (p : ℕ) → p < length (firsts (map (key_of keys) L)) → sub L (class_places (classes (map (key_of keys) L)) (length L) p) ≡ filter (λ row. row_eq (row_at (firsts (map (key_of keys) L)) p) (key_of keys row)) L
class_rows keys L p h =
    let K = map (key_of keys) L in
    let k = row_at (firsts K) p in
    let long : length K ≡ length L = length-map L (key_of keys) in
    ap (sub L) (ap (λ n. class_places (classes K) n p) (sym long) ∙ sym (classes_are.members K p h) ∙ ap (places (λ i. row_eq k (row_at K i))) long
    ∙ same_below (λ i. row_eq k (row_at K i)) (λ i. row_eq k (key_of keys (row_at L i))) (length L) (λ i l. ap (row_eq k) (get_or-map (key_of keys) L i [] [] l)))
    ∙ sub_key (key_of keys) L k

-- the groups, class by class
pub groups_are : (keys : List ℕ) (aggs : List Agg) (L : List Row)
    → map (λ p. key_of keys (row_at L (get_or (first_places (map (key_of keys) L)) p 0)) ++ map (aggregate (sub L (class_places (classes (map (key_of keys) L)) (length L) p))) aggs) (upto (length (first_places (map (key_of keys) L))))
    ≡ map (grouped keys aggs L) (firsts (map (key_of keys) L))
groups_are keys aggs L =
    let K = map (key_of keys) L in
    let F = firsts K in
    let one = λ (p : ℕ). key_of keys (row_at L (get_or (first_places K) p 0)) ++ map (aggregate (sub L (class_places (classes K) (length L) p))) aggs in
    ap (λ n. map one (upto n)) (length_firsts K)
    ∙ map_upto_agree one (λ p. grouped keys aggs L (row_at F p)) (length F) (λ p h.
    let low : get_or (first_places K) p 0 < length L = subst (λ (n : ℕ). get_or (first_places K) p 0 < n) (length-map L (key_of keys)) (first_low K p h) in
    let key : key_of keys (row_at L (get_or (first_places K) p 0)) ≡ row_at F p = sym (get_or-map (key_of keys) L (get_or (first_places K) p 0) [] [] low) ∙ first_at K p h in
    rw (key, class_rows keys L p h) refl)
    ∙ sym (map_map (grouped keys aggs L) (row_at F) (upto (length F))) ∙ ap (map (grouped keys aggs L)) (map_upto F [])
  where
    first_low : (K : List Row) (p : ℕ) → p < length (firsts K) → get_or (first_places K) p 0 < length K
    first_low K p h = first_below K p 0 (omega (arith, h, length_firsts K))

-- the keys at the first places, class by class
pub keys_at_firsts : (keys : List ℕ) (L : List Row) (places_of : List ℕ) → map (key_of keys) (sub L places_of) ≡ map (λ p. key_of keys (row_at L (get_or places_of p 0)) ++ []) (upto (length places_of))
keys_at_firsts keys L A =
    ap (λ z. map (key_of keys) (sub L z)) (sym (map_upto A 0)) ∙ ap (map (key_of keys)) (map_map (row_at L) (λ p. get_or A p 0) (upto (length A)))
    ∙ map_map (key_of keys) (λ p. row_at L (get_or A p 0)) (upto (length A))
    ∙ map_upto_agree (λ p. key_of keys (row_at L (get_or A p 0))) (λ p. key_of keys (row_at L (get_or A p 0)) ++ []) (length A) (λ p h. sym (append-nil (key_of keys (row_at L (get_or A p 0)))))

-- the ints of a column that is summed
pub ints_low : (columns : List Kind) (rows : List Row) (c : ℕ) (numbers : List ℤ) → map values.Int numbers ≡ column_values c rows → c < length columns → IsSummed (kind_in columns c) → All (RowFits columns) rows → All (IsWithin 2) numbers
ints_low columns rows c numbers e l s all =
    let level = level_of (kind_in columns c) s in
    All-weaker (IsWithin level.0) (IsWithin 2) (λ n w. within_more level.0 2 n level.2 w) numbers (ints_within columns rows c level.0 numbers e l level.1 all)

pub map_where : {X Y : Type 0} (F G : X → Y) (P : X → Type 0) (xs : List X) → ((x : X) → P x → F x ≡ G x) → All P xs → map F xs ≡ map G xs
map_where F G P [] h all = refl
map_where F G P (x ∷ xs) h all = rw (h x (All-head P x xs all), map_where F G P xs h (All-rest P x xs all)) refl

-- sums of numbers are sums of a column's ints
pub sums_are : (rows : List Row) (c : ℕ) (numbers : List ℤ) (of : List ℕ) (n : ℕ) → map values.Int numbers ≡ column_values c rows → length of ≡ length rows
    → map (λ p. total (map (int_at numbers) (class_places of (length of) p))) (upto n) ≡ map (λ p. total (map (λ i. number_of (value_at (row_at rows i) c)) (class_places of (length rows) p))) (upto n)
sums_are rows c numbers of n e long =
    map_upto_agree (λ p. total (map (int_at numbers) (class_places of (length of) p))) (λ p. total (map (λ i. number_of (value_at (row_at rows i) c)) (class_places of (length rows) p))) n (λ p h.
    ap (λ k. total (map (int_at numbers) (class_places of k p))) long
    ∙ ap total (map_where (int_at numbers) (λ i. number_of (value_at (row_at rows i) c)) (λ i. i < length rows) (class_places of (length rows) p) (λ i l. int_is rows c numbers i e l) (places_below (λ j. nat_eq (get_or of j 0) p) (length rows))))

-- the sums of a column are of the next level
pub sums_within : (columns : List Kind) (rows : List Row) (c level : ℕ) (of : List ℕ) (n : ℕ) → c < length columns → kind_in columns c ≡ kinds.Int level → All (RowFits columns) rows → length rows ≤ 1048576
    → All (IsWithin (suc level)) (map (λ p. total (map (λ i. number_of (value_at (row_at rows i) c)) (class_places of (length rows) p))) (upto n))
sums_within columns rows c level of n l k all few =
    All-map (IsWithin (suc level)) (λ p. total (map (λ i. number_of (value_at (row_at rows i) c)) (class_places of (length rows) p))) (upto n) (λ j d h.
    let p = get_or (upto n) j d in
    let A = class_places of (length rows) p in
    total_within level (map (λ i. number_of (value_at (row_at rows i) c)) A)
    (All-map (IsWithin level) (λ i. number_of (value_at (row_at rows i) c)) A (All-weaker (λ i. i < length rows) (λ i. IsWithin level (number_of (value_at (row_at rows i) c)))
    (λ i low. int_fits level (value_at (row_at rows i) c) (subst (λ (z : Kind). Fits z (value_at (row_at rows i) c)) k (value_fits columns (row_at rows i) c (all i [] low) l))) A (places_below (λ j. nat_eq (get_or of j 0) p) (length rows))))
    (rw length-map (omega (arith, few, few_places (λ j. nat_eq (get_or of j 0) p) (length rows)))))

-- the best rows of classes
pub best_rows : (g : Bool) (rows : List Row) (c : ℕ) (classes : ClassesImage) → AreNumbered (length rows) classes
    → map (picked (c ∷ [])) (rows_at rows (map (λ p. best_place g (λ i. value_at (row_at rows i) c) (get_or classes.firsts p 0) (class_places classes.of (length rows) p)) (upto (length classes.firsts))))
    ≡ map (λ p. combined (better g) (map (λ i. value_at (row_at rows i) c) (class_places classes.of (length rows) p)) ∷ []) (upto (length classes.firsts))
best_rows g rows c classes are =
    let V = λ (i : ℕ). value_at (row_at rows i) c in
    let B = λ (p : ℕ). best_place g V (get_or classes.firsts p 0) (class_places classes.of (length rows) p) in
    map_map (picked (c ∷ [])) (row_at rows) (map B (upto (length classes.firsts))) ∙ map_map (λ (i : ℕ). V i ∷ []) B (upto (length classes.firsts))
    ∙ map_upto_agree (λ p. V (B p) ∷ []) (λ p. combined (better g) (map V (class_places classes.of (length rows) p)) ∷ []) (length classes.firsts) (λ p h.
    let a = get_or classes.firsts p 0 in
    ap (λ (v : Value). v ∷ []) (best_of_class g V (λ i. nat_eq (get_or classes.of i 0) p) a (length rows) (eq-eqb (get_or classes.of a 0) p (are.first p h)) (λ j l. ne_eqb (get_or classes.of j 0) p (are.none p j h l)) (are.within p 0 h)))

-- sums by the numbers of classes that a caller has
pub sums_is : (rows : List Row) (c : ℕ) (classes : ClassesImage) (of firsts : List ℕ) → of ≡ classes.of → firsts ≡ classes.firsts
    → map (λ p. total (map (λ i. number_of (value_at (row_at rows i) c)) (class_places of (length rows) p))) (upto (length firsts)) ≡ map (λ p. total (map (λ i. number_of (value_at (row_at rows i) c)) (class_places classes.of (length rows) p))) (upto (length classes.firsts))
sums_is rows c classes of firsts e f =
    ap (λ (z : List ℕ). map (λ p. total (map (λ i. number_of (value_at (row_at rows i) c)) (class_places z (length rows) p))) (upto (length firsts))) e
    ∙ ap (λ (z : List ℕ). map (λ p. total (map (λ i. number_of (value_at (row_at rows i) c)) (class_places classes.of (length rows) p))) (upto (length z))) f

pub level_up : (k : Kind) (level up : ℕ) → k ≡ kinds.Int level → kinds.Int up ≡ summed k → up ≡ suc level
level_up k level up e h = let same : kinds.Int up ≡ kinds.Int (level + 1) = h ∙ ap summed e in let is : up ≡ level + 1 = cc in omega arith

pub least_rows : (rows : List Row) (c : ℕ) (of : List ℕ) (n k : ℕ) → map (λ p. combined (better false) (map (λ i. value_at (row_at rows i) c) (class_places of n p)) ∷ []) (upto k) ≡ map (λ p. aggregate (sub rows (class_places of n p)) (Min c) ∷ []) (upto k)
least_rows rows c of n k = map_upto_agree (λ p. combined (better false) (map (λ i. value_at (row_at rows i) c) (class_places of n p)) ∷ []) (λ p. aggregate (sub rows (class_places of n p)) (Min c) ∷ []) k (λ p h.
    ap (λ (vs : List Value). combined (better false) vs ∷ []) (sym (map_map (λ (row : Row). value_at row c) (row_at rows) (class_places of n p))))

pub greatest_rows : (rows : List Row) (c : ℕ) (of : List ℕ) (n k : ℕ) → map (λ p. combined (better true) (map (λ i. value_at (row_at rows i) c) (class_places of n p)) ∷ []) (upto k) ≡ map (λ p. aggregate (sub rows (class_places of n p)) (Max c) ∷ []) (upto k)
greatest_rows rows c of n k = map_upto_agree (λ p. combined (better true) (map (λ i. value_at (row_at rows i) c) (class_places of n p)) ∷ []) (λ p. aggregate (sub rows (class_places of n p)) (Max c) ∷ []) k (λ p h.
    ap (λ (vs : List Value). combined (better true) vs ∷ []) (sym (map_map (λ (row : Row). value_at row c) (row_at rows) (class_places of n p))))

-- aggregates of rows that fit

sum_fits : (k : Kind) (vs : List Value) → IsSummed k → All (Fits k) vs → length vs ≤ ROW_LIMIT → Fits (summed k) (values.Int (total (map number_of vs)))
sum_fits (kinds.Int level) vs s all few =
    let e : level + 1 ≡ suc level = omega arith in
    rw e (total_within level (map number_of vs) (All-map (IsWithin level) number_of vs (λ i d l. int_fits level (get_or vs i d) (all i d l))) (omega (arith, length-map vs number_of, few)))
sum_fits kinds.Text vs s all few = absurd s

best_fits : (k : Kind) (f : Value → Value → Value) → ((a b : Value) → Fits k a → Fits k b → Fits k (f a b)) → (v : Value) (vs : List Value) → Fits k v → All (Fits k) vs → Fits k (fold f v vs)
best_fits k f keeps v [] h all = h
best_fits k f keeps v (w ∷ vs) h all = best_fits k f keeps (f v w) vs (keeps v w h (All-head (Fits k) w vs all)) (All-rest (Fits k) w vs all)

column_fits : (ks : List Kind) (rows : List Row) (c : ℕ) → All (RowFits ks) rows → c < length ks → All (Fits (kind_in ks c)) (map (λ row. value_at row c) rows)
column_fits ks rows c all l = All-map (Fits (kind_in ks c)) (λ row. value_at row c) rows (λ i d h. value_fits ks (get_or rows i d) c (all i d h) l)

pub agg_fits : (ks : List Kind) (x : Row) (xs : List Row) (agg : Agg) → All (RowFits ks) (x ∷ xs) → length (x ∷ xs) ≤ ROW_LIMIT → AggFits ks agg → Fits (kind_of_agg ks agg) (aggregate (x ∷ xs) agg)
agg_fits ks x xs Count all few f = omega (arith, ints, few)
agg_fits ks x xs (Sum c) all few f =
    let column = map (λ row. value_at row c) (x ∷ xs) in
    subst (λ (ns : List ℤ). Fits (summed (kind_in ks c)) (values.Int (total ns))) (map_map number_of (λ row. value_at row c) (x ∷ xs))
    (sum_fits (kind_in ks c) column f.1 (column_fits ks (x ∷ xs) c all f.0) (omega (arith, length-map (x ∷ xs) (λ row. value_at row c), few)))
agg_fits ks x xs (Min c) all few f =
    let column = column_fits ks (x ∷ xs) c all f in
    best_fits (kind_in ks c) lesser (λ a b h i. cond_both _ b a (Fits (kind_in ks c)) (λ e. i) (λ e. h)) (value_at x c) (map (λ row. value_at row c) xs)
    (All-head (Fits (kind_in ks c)) (value_at x c) (map (λ row. value_at row c) xs) column) (All-rest (Fits (kind_in ks c)) (value_at x c) (map (λ row. value_at row c) xs) column)
agg_fits ks x xs (Max c) all few f =
    let column = column_fits ks (x ∷ xs) c all f in
    best_fits (kind_in ks c) greater (λ a b h i. cond_both _ b a (Fits (kind_in ks c)) (λ e. i) (λ e. h)) (value_at x c) (map (λ row. value_at row c) xs)
    (All-head (Fits (kind_in ks c)) (value_at x c) (map (λ row. value_at row c) xs) column) (All-rest (Fits (kind_in ks c)) (value_at x c) (map (λ row. value_at row c) xs) column)
