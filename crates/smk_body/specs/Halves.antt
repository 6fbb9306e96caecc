-- The first halves of steps: the places that make the output rows.
use Rattle.std.specs.{Prelude.{◌≡◌, ◌≢◌, ℕ, ◌<◌, ◌≤◌, nat_eq, Bool, cond, List, [], ◌∷◌, length, map, slice_index, slice_index_or, All}, List.{flat_map, fold}, Ordering.{is_lt, is_gt}}
use Rattle.smk_base.specs.{declared.rel.TheConstants.ROW_LIMIT, Places.{upto, places}, Plans.Formula, declared.book.plan.Agg.Agg, declared.value.Value.Value}
use Rattle.smk_model.specs.{Values.{Row, meets, value_cmp}, Plain.{aggregate, lesser, greater}, Lineage.{row_at, sub, lefts_of, rights_of}}
use Rattle.smk_keys.specs.Classes.{ClassesImage}

-- the places below n whose rows meet a formula
abbrev pub meeting_below : Formula → List Row → ℕ → List ℕ
meeting_below formula L n = places (λ i. meets formula (row_at L i)) n

-- each left place below n with each of its partners on the right, in order
abbrev pub pairs_below : (ℕ → List ℕ) → ℕ → List (ℕ × ℕ)
pairs_below partners_of n = flat_map (λ i. map (λ j. (i, j)) (partners_of i)) (upto n)

-- the left and the right columns of pairs of columns
abbrev pub left_columns_of : List (ℕ × ℕ) → List ℕ
left_columns_of pairs = map (λ pair. pair.0) pairs

abbrev pub right_columns_of : List (ℕ × ℕ) → List ℕ
right_columns_of pairs = map (λ pair. pair.1) pairs

-- pairs of places as the list of the left and that of the right ones
pub record PlacePairs : Type 0 where
  pub lefts : List ℕ
  pub rights : List ℕ

abbrev pub halves_of : List (ℕ × ℕ) → PlacePairs
halves_of pairs = record { lefts = lefts_of pairs; rights = rights_of pairs }

-- at most 1,048,576 pairs of a place below m and one below n
pub record AreWithin (m n : ℕ) (pairs : PlacePairs) : Type 0 where
  pub few : length pairs.lefts ≤ ROW_LIMIT
  pub long : length pairs.rights ≡ length pairs.lefts
  pub lefts : All (λ i. i < m) pairs.lefts
  pub rights : All (λ j. j < n) pairs.rights

-- the numbers of the classes of n places, and for each class the first of its places
pub record AreNumbered (n : ℕ) (classes : ClassesImage) : Type 0 where
  pub long : length classes.of ≡ n
  pub few : length classes.firsts ≤ n
  pub below : All (λ p. p < length classes.firsts) classes.of
  pub within : All (λ i. i < n) classes.firsts
  pub first : (p : ℕ) → p < length classes.firsts → slice_index classes.of (slice_index classes.firsts p) ≡ p
  pub none : (p i : ℕ) → p < length classes.firsts → i < slice_index classes.firsts p → slice_index classes.of i ≢ p

-- the places among the first n that are in class p
abbrev pub class_places : List ℕ → ℕ → ℕ → List ℕ
class_places of n p = places (λ i. nat_eq (slice_index of i) p) n

-- how many places each class has
abbrev pub class_sizes : ClassesImage → List ℕ
class_sizes classes = map (λ p. length (class_places classes.of (length classes.of) p)) (upto (length classes.firsts))

-- an aggregate over the rows of each class, in a row of its own
abbrev pub class_values : ClassesImage → List Row → Agg → List Row
class_values classes rows agg = map (λ p. aggregate (sub rows (class_places classes.of (length rows) p)) agg ∷ []) (upto (length classes.firsts))

-- the greater or the lesser of two values
abbrev pub better : Bool → Value → Value → Value
better greatest a b = cond greatest (greater a b) (lesser a b)

-- whether a value is greater, or less, than another
abbrev pub improves_on : Bool → Value → Value → Bool
improves_on greatest a b = cond greatest (is_gt (value_cmp a b)) (is_lt (value_cmp a b))

-- the place of the best value among a first place and more, the first of equal ones
abbrev pub best_place : Bool → (ℕ → Value) → ℕ → List ℕ → ℕ
best_place greatest value_of first more = fold (λ best i. cond (improves_on greatest (value_of i) (value_of best)) i best) first more

-- the best places of all classes among the first n places
abbrev pub bests_of : Bool → (ℕ → Value) → ClassesImage → ℕ → List ℕ
bests_of greatest value_of classes n = map (λ p. best_place greatest value_of (slice_index_or classes.firsts p 0) (class_places classes.of n p)) (upto (length classes.firsts))
