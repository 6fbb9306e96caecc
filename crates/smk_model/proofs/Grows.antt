-- The lists of a growing chain over old rows and over new ones.
use Rattle.std.proofs.{Common.{◌≡◌, ℕ, ◌+◌, ◌-◌, ◌<◌, Bool, true, false, cond, List, [], ◌∷◌, ◌++◌, length, map, refl, ap, sym, ◌∙◌, subst, arith, get_or, ◌&&◌, ◌||◌, nat_eq, nat_lt, inl, inr}, lemmas.List.{map-append, append-nil, length-append, length-map, get_or_append_left, get_or-append-add, get_or-map}, lemmas.List.Elements.filter-append, lemmas.List.Folds.list_any-append, lemmas.Bool.{cases_Bool, cases_lt, eq-eqb, ne_eqb, eqb-true, lt-ltb, le-ltb, false≢true}}
use Rattle.std.specs.List.{list_any, filter, All}
use Rattle.smk_base.specs.{Places.{composed, followed}, declared.book.plan.Item.Item, declared.book.plan.Agg.Agg, Plans.{Formula, Unary, Selection, Projection, Grouping, Expr, Leaf, Apply}}
use Rattle.smk_model.specs.{Values.{Row, meets}, Plain.{row_eq, image, key_of, firsts, grouped, step1}, Lineage.{upto, places, row_at, meeting, from1}, Locals.{back1, fwd1}, Composed.{table_at, rows_over, backs, forwards}, LineageLaws.selected_table, Growth.{is_chain, regrouping}, GrowthLaws.{HasGrown, ChainGrows, GroupGrows, both_rows}}
use Rattle.smk_base.proofs.{Places.{map_map, same_below, places_below, places_false}, Texts.list_any-map}
use Rattle.smk_model.proofs.{Anys.{any_same, any_below, any_false, or_false, and_false}, CuiWidom.{length_selected, from1_below}, Locals.at_each, Parts.places_add, Comes.{rows_in, comes, rows_whole}, Composed.{lists_by, bounded, lists_agree, compose_by, forward_by, backs_by, forwards_by}, Keyed.{at_key, by_keys, key_again}, Regroups.{both_keys, groups_regroup, regrouped_two}}

-- whether a test of two numbers is one below k and n, another one behind k and n, and holds nowhere else
pub record AreBlocks (f g h : ℕ → ℕ → Bool) (k n k' n' : ℕ) : Type 0 where
  pub first : (o r : ℕ) → o < k → r < n → h o r ≡ f o r
  pub second : (o r : ℕ) → o < k' → r < n' → h (k + o) (n + r) ≡ g o r
  pub above : (o r : ℕ) → o < k → r < n' → h o (n + r) ≡ false
  pub below : (o r : ℕ) → o < k' → r < n → h (k + o) r ≡ false

turned_blocks : (f g h : ℕ → ℕ → Bool) (k n k' n' : ℕ) → AreBlocks f g h k n k' n' → AreBlocks (λ r o. f o r) (λ r o. g o r) (λ r o. h o r) n k n' k'
turned_blocks f g h k n k' n' b = record { first = λ r o l m. b.first o r m l; second = λ r o l m. b.second o r m l; above = λ r o l m. b.below o r m l; below = λ r o l m. b.above o r m l }

followed_by : (f g h : ℕ → ℕ → Bool) (k n k' n' : ℕ) → AreBlocks f g h k n k' n' → followed (lists_by f k n) (lists_by g k' n') ≡ lists_by h (k + k') (n + n')
followed_by f g h k n k' n' b =
    let old : (o : ℕ) → o < k → places (h o) (n + n') ≡ places (f o) n = λ o l.
    places_add (h o) n n'
    ∙ rw (same_below (h o) (f o) n (λ r m. b.first o r l m), same_below (λ r. h o (n + r)) (λ r. false) n' (λ r m. b.above o r l m), places_false n') (append-nil (places (f o) n)) in
    let new : (o : ℕ) → o < k' → places (h (k + o)) (n + n') ≡ map (λ i. n + i) (places (g o) n') = λ o l.
    places_add (h (k + o)) n n'
    ∙ rw (same_below (h (k + o)) (λ r. false) n (λ r m. b.below o r l m), same_below (λ r. h (k + o) (n + r)) (g o) n' (λ r m. b.second o r l m), places_false n) refl in
    ap (bounded (n + n'))
    (ap (λ z. map (λ o. places (f o) n) (upto k) ++ z) (map_map (map (λ i. n + i)) (λ o. places (g o) n') (upto k'))
    ∙ sym (at_each (λ o. places (h o) (n + n')) (λ o. places (f o) n) k k' (λ o. map (λ i. n + i) (places (g o) n')) old new))

any_none : (f : ℕ → Bool) (n : ℕ) (A : List ℕ) → All (λ i. i < n) A → ((i : ℕ) → i < n → f i ≡ false) → list_any f A ≡ false
any_none f n A all none = any_below f (λ i. false) n A all none ∙ any_false A

-- the places of the rows that pass, of old rows and new ones
passing_two : (t : Row → Bool) (X Y : List Row) → places (λ i. t (row_at (X ++ Y) i)) (length (X ++ Y)) ≡ places (λ i. t (row_at X i)) (length X) ++ map (λ i. length X + i) (places (λ i. t (row_at Y i)) (length Y))
passing_two t X Y =
    let f = λ (i : ℕ). t (row_at (X ++ Y) i) in
    ap (places f) (length-append X Y) ∙ places_add f (length X) (length Y)
    ∙ rw (
      same_below f (λ i. t (row_at X i)) (length X) (λ i l. ap t (get_or_append_left X Y [] i l)),
      same_below (λ i. f (length X + i)) (λ i. t (row_at Y i)) (length Y) (λ i l. ap t (get_or-append-add X Y i [])),
    ) refl

-- chains

-- that a step makes of rows after each other what it makes of each, from the same places
record IsRowwise (op : Unary) (X Y : List Row) : Type 0 where
  rows : step1 op (X ++ Y) ≡ step1 op X ++ step1 op Y
  old : (o : ℕ) → o < length (step1 op X) → from1 op (X ++ Y) o ≡ from1 op X o
  new : (o : ℕ) → o < length (step1 op Y) → from1 op (X ++ Y) (length (step1 op X) + o) ≡ map (λ i. length X + i) (from1 op Y o)

rowwise_selection : (formula : Formula) (X Y : List Row) → IsRowwise (Selection formula) X Y
rowwise_selection formula X Y =
    let A = meeting formula X in
    let B = map (λ i. length X + i) (meeting formula Y) in
    let long : length A ≡ length (filter (meets formula) X) = length_selected (meets formula) X in
    record {
      rows = filter-append (meets formula) X Y;
      old = λ o l. ap (λ P. get_or P o 0 ∷ []) (passing_two (meets formula) X Y) ∙ ap (λ i. i ∷ []) (get_or_append_left A B 0 o (omega (arith, long, l)));
      new = λ o l.
          ap (λ P. get_or P (length (filter (meets formula) X) + o) 0 ∷ []) (passing_two (meets formula) X Y)
          ∙ ap (λ n. get_or (A ++ B) (n + o) 0 ∷ []) (sym long)
          ∙ ap (λ i. i ∷ []) (get_or-append-add A B o 0 ∙ get_or-map (λ i. length X + i) (meeting formula Y) o 0 0 (omega (arith, l, length_selected (meets formula) Y)));
    }

rowwise_projection : (items : List Item) (X Y : List Row) → IsRowwise (Projection items) X Y
rowwise_projection items X Y = record { rows = map-append (image items) X Y; old = λ o l. refl; new = λ o l. ap (λ n. (n + o) ∷ []) (length-map X (image items)) }

-- the rows below and the places that they come from are those of old rows and of new ones
pub record AreChained (plan : Expr) (old new grown : List (List Row)) (table : ℕ) : Type 0 where
  pub rows : rows_in plan grown ≡ rows_in plan old ++ rows_in plan new
  pub blocks : AreBlocks (comes plan old table) (comes plan new table) (comes plan grown table) (length (rows_in plan old)) (length (table_at old table)) (length (rows_in plan new)) (length (table_at new table))

same_moved : (n a b : ℕ) → nat_eq (n + a) (n + b) ≡ nat_eq a b
same_moved n a b = elim (cases_Bool (nat_eq a b)) [
  | inl p ↦ eq-eqb (n + a) (n + b) (ap (λ z. n + z) (eqb-true a b p)) ∙ sym p
  | inr p ↦ ne_eqb (n + a) (n + b) (λ e. let same : a ≡ b = omega arith in false≢true (sym p ∙ eq-eqb a b same)) ∙ sym p
]

chained_scan : (table : ℕ) (old new grown : List (List Row)) → HasGrown table old new grown → AreChained (Leaf table) old new grown table
chained_scan table old new grown e = record {
  rows = e;
  blocks = record {
    first = λ o r l m. refl;
    second = λ o r l m. ap (λ b. nat_eq table table && b) (same_moved (length (table_at old table)) o r);
    above = λ o r l m. ap (λ b. nat_eq table table && b) (ne_eqb o (length (table_at old table) + r) (λ q. absurd (omega arith))) ∙ and_false (nat_eq table table);
    below = λ o r l m. ap (λ b. nat_eq table table && b) (ne_eqb (length (table_at old table) + o) r (λ q. absurd (omega arith))) ∙ and_false (nat_eq table table);
  };
}

chained_step : (op : Unary) (input : Expr) (old new grown : List (List Row)) (table : ℕ) → IsRowwise op (rows_in input old) (rows_in input new) → AreChained input old new grown table → AreChained (Apply op input) old new grown table
chained_step op input old new grown table step below =
    let X = rows_in input old in
    let Y = rows_in input new in
    let n = length (table_at old table) in
    let f = comes input old table in
    let g = comes input new table in
    let h = comes input grown table in
    let here : (o r : ℕ) → comes (Apply op input) grown table o r ≡ list_any (λ i. h i r) (from1 op (X ++ Y) o) = λ o r. ap (λ W. list_any (λ i. h i r) (from1 op W o)) below.rows in
    let left : (o r : ℕ) → o < length (step1 op X) → comes (Apply op input) grown table o r ≡ list_any (λ i. h i r) (from1 op X o) = λ o r l. here o r ∙ ap (list_any (λ i. h i r)) (step.old o l) in
    let right : (o r : ℕ) → o < length (step1 op Y) → comes (Apply op input) grown table (length (step1 op X) + o) r ≡ list_any (λ i. h (length X + i) r) (from1 op Y o) = λ o r l.
    here (length (step1 op X) + o) r ∙ ap (list_any (λ i. h i r)) (step.new o l) ∙ list_any-map (λ i. h i r) (λ i. length X + i) (from1 op Y o) in
    record {
      rows = ap (step1 op) below.rows ∙ step.rows;
      blocks = record {
        first = λ o r l m. left o r l ∙ any_below (λ i. h i r) (λ i. f i r) (length X) (from1 op X o) (from1_below op X o l) (λ i q. below.blocks.first i r q m);
        second = λ o r l m. right o (n + r) l ∙ any_below (λ i. h (length X + i) (n + r)) (λ i. g i r) (length Y) (from1 op Y o) (from1_below op Y o l) (λ i q. below.blocks.second i r q m);
        above = λ o r l m. left o (n + r) l ∙ any_none (λ i. h i (n + r)) (length X) (from1 op X o) (from1_below op X o l) (λ i q. below.blocks.above i r q m);
        below = λ o r l m. right o r l ∙ any_none (λ i. h (length X + i) r) (length Y) (from1 op Y o) (from1_below op Y o l) (λ i q. below.blocks.below i r q m);
      };
    }

chained : (plan : Expr) (old new grown : List (List Row)) → is_chain plan ≡ true → HasGrown (selected_table plan) old new grown → AreChained plan old new grown (selected_table plan)
chained (Leaf table) old new grown c e = chained_scan table old new grown e
chained (Apply (Selection formula) input) old new grown c e =
    chained_step (Selection formula) input old new grown (selected_table input) (rowwise_selection formula (rows_in input old) (rows_in input new)) (chained input old new grown c e)
chained (Apply (Projection items) input) old new grown c e =
    chained_step (Projection items) input old new grown (selected_table input) (rowwise_projection items (rows_in input old) (rows_in input new)) (chained input old new grown c e)
chained _ old new grown c e = absurd (false≢true c)

-- the lists of a plan whose places are in blocks

pub table_length : (table : ℕ) (old new grown : List (List Row)) → HasGrown table old new grown → length (table_at grown table) ≡ length (table_at old table) + length (table_at new table)
table_length table old new grown e = ap length e ∙ length-append (table_at old table) (table_at new table)

pub chain_grows : ChainGrows
chain_grows = record {
  rows = λ plan old new grown c e. rows_whole plan grown ∙ (chained plan old new grown c e).rows ∙ rw (sym (rows_whole plan old), sym (rows_whole plan new)) refl;
  backs = λ plan old new grown c e.
      let table = selected_table plan in
      let is = chained plan old new grown c e in
      let X = rows_in plan old in
      let Y = rows_in plan new in
      backs_by plan grown table
      ∙ ap (λ k. lists_by (comes plan grown table) k (length (table_at grown table))) (ap length is.rows ∙ length-append X Y)
      ∙ ap (lists_by (comes plan grown table) (length X + length Y)) (table_length table old new grown e)
      ∙ sym (followed_by (comes plan old table) (comes plan new table) (comes plan grown table) (length X) (length (table_at old table)) (length Y) (length (table_at new table)) is.blocks)
      ∙ ap (λ z. followed z (lists_by (comes plan new table) (length Y) (length (table_at new table)))) (sym (backs_by plan old table))
      ∙ ap (followed (backs plan old table)) (sym (backs_by plan new table));
  forwards = λ plan old new grown c e.
      let table = selected_table plan in
      let is = chained plan old new grown c e in
      let X = rows_in plan old in
      let Y = rows_in plan new in
      let f = λ (r o : ℕ). comes plan old table o r in
      let g = λ (r o : ℕ). comes plan new table o r in
      let h = λ (r o : ℕ). comes plan grown table o r in
      forwards_by plan grown table
      ∙ ap (lists_by h (length (table_at grown table))) (ap length is.rows ∙ length-append X Y)
      ∙ ap (λ k. lists_by h k (length X + length Y)) (table_length table old new grown e)
      ∙ sym (followed_by f g h (length (table_at old table)) (length X) (length (table_at new table)) (length Y)
      (turned_blocks (comes plan old table) (comes plan new table) (comes plan grown table) (length X) (length (table_at old table)) (length Y) (length (table_at new table)) is.blocks))
      ∙ ap (λ z. followed z (lists_by g (length (table_at new table)) (length Y))) (sym (forwards_by plan old table))
      ∙ ap (followed (forwards plan old table)) (sym (forwards_by plan new table));
}

-- groupings

-- going over the places of a key among those of both, below or behind the first bound, is going over those among the first or among the second
module _ (f g h : ℕ → ℕ → Bool) (xs ys : List Row) (n n' : ℕ) (b : AreBlocks f g h (length xs) n (length ys) n') (k : Row) where
  both_places : (t : ℕ → Bool) → list_any t (at_key k (xs ++ ys)) ≡ (list_any t (at_key k xs) || list_any (λ i. t (length xs + i)) (at_key k ys))
  both_places t =
      ap (list_any t) (passing_two (row_eq k) xs ys) ∙ list_any-append t (at_key k xs) (map (λ i. length xs + i) (at_key k ys))
      ∙ ap (λ z. list_any t (at_key k xs) || z) (list_any-map t (λ i. length xs + i) (at_key k ys))

  over_first : (r : ℕ) → r < n → list_any (λ i. h i r) (at_key k (xs ++ ys)) ≡ list_any (λ i. f i r) (at_key k xs)
  over_first r m =
      both_places (λ i. h i r)
      ∙ rw (
        any_below (λ i. h i r) (λ i. f i r) (length xs) (at_key k xs) (places_below (λ i. row_eq k (row_at xs i)) (length xs)) (λ i l. b.first i r l m),
        any_none (λ i. h (length xs + i) r) (length ys) (at_key k ys) (places_below (λ i. row_eq k (row_at ys i)) (length ys)) (λ i l. b.below i r l m),
      ) (or_false (list_any (λ i. f i r) (at_key k xs)))

  over_second : (r : ℕ) → r < n' → list_any (λ i. h i (n + r)) (at_key k (xs ++ ys)) ≡ list_any (λ i. g i r) (at_key k ys)
  over_second r m =
      both_places (λ i. h i (n + r))
      ∙ rw (
        any_none (λ i. h i (n + r)) (length xs) (at_key k xs) (places_below (λ i. row_eq k (row_at xs i)) (length xs)) (λ i l. b.above i r l m),
        any_below (λ i. h (length xs + i) (n + r)) (λ i. g i r) (length ys) (at_key k ys) (places_below (λ i. row_eq k (row_at ys i)) (length ys)) (λ i l. b.second i r l m),
      ) refl

-- two tests in blocks
abbrev in_blocks : (ℕ → ℕ → Bool) → (ℕ → ℕ → Bool) → ℕ → ℕ → ℕ → ℕ → Bool
in_blocks f g k n o r = cond (nat_lt o k) (cond (nat_lt r n) (f o r) false) (cond (nat_lt r n) false (g (o - k) (r - n)))

blocks_are : (f g : ℕ → ℕ → Bool) (k n k' n' : ℕ) → AreBlocks f g (in_blocks f g k n) k n k' n'
blocks_are f g k n k' n' = record {
  first = λ o r l m. rw (lt-ltb o k l, lt-ltb r n m) refl;
  second = λ o r l m.
      let e : (k + o) - k ≡ o = omega arith in
      let d : (n + r) - n ≡ r = omega arith in
      rw (le-ltb (k + o) k (omega arith), le-ltb (n + r) n (omega arith), e, d) refl;
  above = λ o r l m. rw (lt-ltb o k l, le-ltb (n + r) n (omega arith)) refl;
  below = λ o r l m. rw (le-ltb (k + o) k (omega arith), lt-ltb r n m) refl;
}

-- the places of a group are those of its key
pub from_group : (keys : List ℕ) (aggs : List Agg) (L : List Row) (o : ℕ) → from1 (Grouping keys aggs) L o ≡ at_key (row_at (firsts (map (key_of keys) L)) o) (map (key_of keys) L)
from_group keys aggs L o = by_keys (key_of keys) L (row_at (firsts (map (key_of keys) L)) o)

-- whether a row with a key comes from row r of a table
abbrev pub came_by : List ℕ → Expr → List (List Row) → ℕ → Row → ℕ → Bool
came_by keys input tables table k r = list_any (λ i. comes input tables table i r) (at_key k (map (key_of keys) (rows_in input tables)))

pub group_came : (keys : List ℕ) (aggs : List Agg) (input : Expr) (tables : List (List Row)) (table : ℕ) (k : Row) (r : ℕ)
    → list_any (λ o. comes (Apply (Grouping keys aggs) input) tables table o r) (at_key k (firsts (map (key_of keys) (rows_in input tables)))) ≡ came_by keys input tables table k r
group_came keys aggs input tables table k r =
    let found = map (key_of keys) (rows_in input tables) in
    let F = λ (i : ℕ). comes input tables table i r in
    any_same (λ o. comes (Apply (Grouping keys aggs) input) tables table o r) (λ o. list_any F (at_key (row_at (firsts found) o) found)) (at_key k (firsts found)) (λ o. ap (list_any F) (from_group keys aggs (rows_in input tables) o))
    ∙ key_again F found k

module _ (keys : List ℕ) (aggs : List Agg) (input : Expr) (old new grown : List (List Row)) (c : is_chain input ≡ true) (e : HasGrown (selected_table input) old new grown) where
  abbrev pub table : ℕ
  table = selected_table input

  abbrev pub plan : Expr
  plan = Apply (Grouping keys aggs) input

  abbrev pub again : Unary
  again = regrouping keys aggs

  -- the keys of the old rows and of the new ones
  abbrev pub old_keys : List Row
  old_keys = map (key_of keys) (rows_in input old)

  abbrev pub new_keys : List Row
  new_keys = map (key_of keys) (rows_in input new)

  -- the groups of the old rows and behind them those of the new ones
  abbrev pub groups : List Row
  groups = rows_in plan old ++ rows_in plan new

  abbrev pub n : ℕ
  n = length (table_at old table)

  abbrev pub n' : ℕ
  n' = length (table_at new table)

  abbrev pub k : ℕ
  k = length (firsts old_keys)

  abbrev pub k' : ℕ
  k' = length (firsts new_keys)

  -- where the groups come from
  abbrev sources : ℕ → ℕ → Bool
  sources = in_blocks (comes plan old table) (comes plan new table) k n

  pub is : AreChained input old new grown table
  is = chained input old new grown c e

  below : AreBlocks (comes input old table) (comes input new table) (comes input grown table) (length old_keys) n (length new_keys) n'
  below = rw (length-map (rows_in input old) (key_of keys), length-map (rows_in input new) (key_of keys)) is.blocks

  groups_blocks : AreBlocks (comes plan old table) (comes plan new table) sources k n k' n'
  groups_blocks = blocks_are (comes plan old table) (comes plan new table) k n k' n'

  -- the key of group o of all rows
  abbrev pub key_at : ℕ → Row
  key_at o = row_at (firsts (map (key_of keys) (rows_in input old ++ rows_in input new))) o

  from_groups : (o : ℕ) → from1 again groups o ≡ at_key (key_at o) (firsts old_keys ++ firsts new_keys)
  from_groups o =
      let found = λ (z : List Row). row_at (firsts z) o in
      let first = key_of (upto (length keys)) in
      by_keys first groups (found (map first groups)) ∙ ap (at_key (found (map first groups))) (both_keys keys aggs (rows_in input old) (rows_in input new))
      ∙ ap (λ z. at_key (row_at z o) (firsts old_keys ++ firsts new_keys)) (regrouped_two keys aggs (rows_in input old) (rows_in input new))

  from_rows : (o r : ℕ) → comes plan grown table o r ≡ list_any (λ i. comes input grown table i r) (at_key (key_at o) (old_keys ++ new_keys))
  from_rows o r =
      ap (λ W. list_any (λ i. comes input grown table i r) (from1 (Grouping keys aggs) W o)) is.rows
      ∙ ap (list_any (λ i. comes input grown table i r)) (from_group keys aggs (rows_in input old ++ rows_in input new) o ∙ ap (at_key (key_at o)) (map-append (key_of keys) (rows_in input old) (rows_in input new)))

  pub from_old : (o r : ℕ) → r < n → comes plan grown table o r ≡ came_by keys input old table (key_at o) r
  from_old o r m = from_rows o r ∙ over_first (comes input old table) (comes input new table) (comes input grown table) old_keys new_keys n n' below (key_at o) r m

  pub from_new : (o r : ℕ) → r < n' → comes plan grown table o (n + r) ≡ came_by keys input new table (key_at o) r
  from_new o r m = from_rows o (n + r) ∙ over_second (comes input old table) (comes input new table) (comes input grown table) old_keys new_keys n n' below (key_at o) r m

  same_first : (o r : ℕ) → r < n → list_any (λ i. sources i r) (from1 again groups o) ≡ comes plan grown table o r
  same_first o r m =
      ap (list_any (λ i. sources i r)) (from_groups o)
      ∙ over_first (comes plan old table) (comes plan new table) sources (firsts old_keys) (firsts new_keys) n n' groups_blocks (key_at o) r m
      ∙ group_came keys aggs input old table (key_at o) r ∙ sym (from_old o r m)

  same_second : (o r : ℕ) → r < n' → list_any (λ i. sources i (n + r)) (from1 again groups o) ≡ comes plan grown table o (n + r)
  same_second o r m =
      ap (list_any (λ i. sources i (n + r))) (from_groups o)
      ∙ over_second (comes plan old table) (comes plan new table) sources (firsts old_keys) (firsts new_keys) n n' groups_blocks (key_at o) r m
      ∙ group_came keys aggs input new table (key_at o) r ∙ sym (from_new o r m)

  same_sources : (o r : ℕ) → r < n + n' → list_any (λ i. sources i r) (from1 again groups o) ≡ comes plan grown table o r
  same_sources o r m = elim (cases_lt r n) [
    | inl l ↦ same_first o r l
    | inr g ↦ (let e : n + (r - n) ≡ r = omega arith in
        subst (λ (z : ℕ). list_any (λ i. sources i z) (from1 again groups o) ≡ comes plan grown table o z) e (same_second o (r - n) (omega (arith, m, g))))
  ]

  -- sizes
  grown_rows : rows_in plan grown ≡ step1 again groups
  grown_rows = ap (step1 (Grouping keys aggs)) is.rows ∙ groups_regroup.two keys aggs (rows_in input old) (rows_in input new)

  all_groups : length groups ≡ k + k'
  all_groups = omega (arith, length-append (rows_in plan old) (rows_in plan new), length-map (firsts old_keys) (grouped keys aggs (rows_in input old)), length-map (firsts new_keys) (grouped keys aggs (rows_in input new)))

  whole_groups : groups ≡ both_rows plan old new
  whole_groups = rw (sym (rows_whole plan old), sym (rows_whole plan new)) refl

  pub old_backs : lists_by (comes plan old table) k n ≡ backs plan old table
  old_backs = sym (backs_by plan old table ∙ ap (λ z. lists_by (comes plan old table) z n) (length-map (firsts old_keys) (grouped keys aggs (rows_in input old))))

  pub new_backs : lists_by (comes plan new table) k' n' ≡ backs plan new table
  new_backs = sym (backs_by plan new table ∙ ap (λ z. lists_by (comes plan new table) z n') (length-map (firsts new_keys) (grouped keys aggs (rows_in input new))))

  pub old_forwards : lists_by (λ r o. comes plan old table o r) n k ≡ forwards plan old table
  old_forwards = sym (forwards_by plan old table ∙ ap (lists_by (λ r o. comes plan old table o r) n) (length-map (firsts old_keys) (grouped keys aggs (rows_in input old))))

  pub new_forwards : lists_by (λ r o. comes plan new table o r) n' k' ≡ forwards plan new table
  new_forwards = sym (forwards_by plan new table ∙ ap (lists_by (λ r o. comes plan new table o r) n') (length-map (firsts new_keys) (grouped keys aggs (rows_in input new))))

  group_backs : backs plan grown table ≡ composed (back1 again (both_rows plan old new)) (followed (backs plan old table) (backs plan new table))
  group_backs =
      let q = length (step1 again groups) in
      backs_by plan grown table
      ∙ ap (λ z. lists_by (comes plan grown table) (length z) (length (table_at grown table))) grown_rows
      ∙ ap (lists_by (comes plan grown table) q) (table_length table old new grown e)
      ∙ sym (lists_agree (λ o r. list_any (λ i. sources i r) (from1 again groups o)) (comes plan grown table) q (n + n') (λ o r l m. same_sources o r m))
      ∙ sym (compose_by sources (from1 again groups) q (length groups) (n + n') (from1_below again groups))
      ∙ ap (composed (back1 again groups))
      (ap (λ z. lists_by sources z (n + n')) all_groups
      ∙ sym (followed_by (comes plan old table) (comes plan new table) sources k n k' n' groups_blocks)
      ∙ ap (λ z. followed z (lists_by (comes plan new table) k' n')) old_backs ∙ ap (followed (backs plan old table)) new_backs)
      ∙ ap (λ z. composed (back1 again z) (followed (backs plan old table) (backs plan new table))) whole_groups

  group_forwards : forwards plan grown table ≡ composed (followed (forwards plan old table) (forwards plan new table)) (fwd1 again (both_rows plan old new))
  group_forwards =
      let q = length (step1 again groups) in
      let turned = λ (r o : ℕ). sources o r in
      forwards_by plan grown table
      ∙ ap (λ z. lists_by (λ r o. comes plan grown table o r) (length (table_at grown table)) (length z)) grown_rows
      ∙ ap (λ z. lists_by (λ r o. comes plan grown table o r) z q) (table_length table old new grown e)
      ∙ sym (lists_agree (λ r o. list_any (λ i. sources i r) (from1 again groups o)) (λ r o. comes plan grown table o r) (n + n') q (λ r o m l. same_sources o r m))
      ∙ sym (forward_by sources (from1 again groups) q (length groups) (n + n') (from1_below again groups))
      ∙ ap (λ z. composed z (fwd1 again groups))
      (ap (lists_by turned (n + n')) all_groups
      ∙ sym (followed_by (λ r o. comes plan old table o r) (λ r o. comes plan new table o r) turned n k n' k' (turned_blocks (comes plan old table) (comes plan new table) sources k n k' n' groups_blocks))
      ∙ ap (λ z. followed z (lists_by (λ r o. comes plan new table o r) n' k')) old_forwards ∙ ap (followed (forwards plan old table)) new_forwards)
      ∙ ap (λ z. composed (followed (forwards plan old table) (forwards plan new table)) (fwd1 again z)) whole_groups

  group_rows_grow : rows_over plan grown ≡ step1 again (both_rows plan old new)
  group_rows_grow = rows_whole plan grown ∙ grown_rows ∙ ap (step1 again) whole_groups

pub group_grows : GroupGrows
group_grows = record { rows = group_rows_grow; backs = group_backs; forwards = group_forwards }
