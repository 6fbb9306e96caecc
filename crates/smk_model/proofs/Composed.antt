-- Lists of lineage: composed, merged and inverted, node by node.
use Rattle.std.proofs.{Common.{◌≡◌, ℕ, zero, suc, ◌+◌, ◌<◌, Bool, true, false, List, [], ◌∷◌, ◌++◌, length, map, refl, ap, sym, ◌∙◌, get_or, ◌&&◌, ◌||◌, nat_eq}, Math.ListN.replicate, lemmas.List.{length-map, map-append}, lemmas.List.Elements.All-map, lemmas.List.Folds.list_any_at, lemmas.List.Sums.sum_by-cons, lemmas.Bool.{eqb-true, eq-eqb, false≢true, false_from_ne_true}}
use Rattle.std.specs.List.{list_any, sum_by, All}
use Rattle.smk_base.specs.{Plans.{Expr, Leaf, Apply, Combine}, Places.{Lists, IsPlaces, list_at, own_lists, empty_lists, members_at, composed, merged, inverted}}
use Rattle.smk_model.specs.{Values.Row, Plain.{step1, step2, leaves, whole}, Lineage.{upto, places, has, from1, from_left, from_right}, Annotated.{mark_at, ann, reaches, relates}, Locals.{fwd_lists, back1, fwd1, back_left, fwd_left, back_right, fwd_right}, Composed.{table_at, rows_over, backs, forwards}, ComposedLaws.{BacksCompose, ForwardsCompose, ListsStand}}
use Rattle.smk_base.proofs.Places.{map_map, same_below, length_upto, get_or_map_upto, map_upto_agree, upto_below, places_below, places_false, places_own, has_places, places_are, nat_eq-sym}
use Rattle.smk_model.proofs.{Anys.{any_same, any_below, any_false, any_swap, or_false}, CuiWidom.{from1_below, left_below, right_below}, Comes.{rows_in, comes, rows_whole, relates_comes}}

-- lists of places by a test of two numbers

-- the list of each o below k: the places below n that f has with o
abbrev pub lists_by : (ℕ → ℕ → Bool) → ℕ → ℕ → Lists
lists_by f k n = record { lists = map (λ o. places (f o) n) (upto k); bound = n }

abbrev pub bounded : ℕ → List (List ℕ) → Lists
bounded n lists = record { lists = lists; bound = n }

pub length_lists : (f : ℕ → ℕ → Bool) (k n : ℕ) → length (lists_by f k n).lists ≡ k
length_lists f k n = length-map (upto k) (λ o. places (f o) n) ∙ length_upto k

pub lists_agree : (f g : ℕ → ℕ → Bool) (k n : ℕ) → ((o r : ℕ) → o < k → r < n → f o r ≡ g o r) → lists_by f k n ≡ lists_by g k n
lists_agree f g k n h = ap (bounded n) (map_upto_agree (λ o. places (f o) n) (λ o. places (g o) n) k (λ o l. same_below (f o) (g o) n (λ r m. h o r l m)))

pub list_at_by : (f : ℕ → ℕ → Bool) (k n o : ℕ) → o < k → list_at (lists_by f k n) o ≡ places (f o) n
list_at_by f k n o h = get_or_map_upto (λ o. places (f o) n) k o [] h

pub has_at : (f : ℕ → ℕ → Bool) (k n o r : ℕ) → o < k → r < n → has (list_at (lists_by f k n) o) r ≡ f o r
has_at f k n o r h low = ap (λ t. has t r) (list_at_by f k n o h) ∙ has_places (f o) n r low

pub members_by : (f : ℕ → ℕ → Bool) (m n : ℕ) (A : List ℕ) → All (λ i. i < m) A → members_at (lists_by f m n) A ≡ places (λ r. list_any (λ i. f i r) A) n
members_by f m n A all = same_below (λ r. list_any (λ i. has (list_at (lists_by f m n) i) r) A) (λ r. list_any (λ i. f i r) A) n (λ r low.
    any_below (λ i. has (list_at (lists_by f m n) i) r) (λ i. f i r) m A all (λ i l. has_at f m n i r l low))

pub compose_by : (f : ℕ → ℕ → Bool) (from : ℕ → List ℕ) (k m n : ℕ) → ((o : ℕ) → o < k → All (λ i. i < m) (from o))
    → composed (bounded m (map from (upto k))) (lists_by f m n) ≡ lists_by (λ o r. list_any (λ i. f i r) (from o)) k n
compose_by f from k m n below =
    ap (bounded n) (map_map (members_at (lists_by f m n)) from (upto k)
    ∙ map_upto_agree (λ o. members_at (lists_by f m n) (from o)) (λ o. places (λ r. list_any (λ i. f i r) (from o)) n) k (λ o h. members_by f m n (from o) (below o h)))

pub merge_by : (f g : ℕ → ℕ → Bool) (k n : ℕ) → merged (lists_by f k n) (lists_by g k n) ≡ lists_by (λ o r. f o r || g o r) k n
merge_by f g k n =
    ap (λ c. bounded n (map (λ i. places (λ r. has (list_at (lists_by f k n) i) r || has (list_at (lists_by g k n) i) r) n) (upto c))) (length_lists f k n)
    ∙ lists_agree (λ o r. has (list_at (lists_by f k n) o) r || has (list_at (lists_by g k n) o) r) (λ o r. f o r || g o r) k n (λ o r h low. rw (has_at f k n o r h low, has_at g k n o r h low) refl)

pub invert_by : (f : ℕ → ℕ → Bool) (k n : ℕ) → inverted (lists_by f k n) ≡ lists_by (λ r o. f o r) n k
invert_by f k n =
    ap (λ c. bounded c (map (λ r. places (λ i. has (list_at (lists_by f k n) i) r) c) (upto n))) (length_lists f k n)
    ∙ lists_agree (λ r o. has (list_at (lists_by f k n) o) r) (λ r o. f o r) n k (λ r o low h. has_at f k n o r h low)

-- two lists of places meet, whichever is gone over
any_meets : (g : ℕ → Bool) (m : ℕ) (A : List ℕ) → All (λ i. i < m) A → list_any (has A) (places g m) ≡ list_any g A
any_meets g m A all =
    any_swap (λ j. true) (λ i j. nat_eq j i) (places g m) A
    ∙ any_same (λ i. list_any (λ j. nat_eq j i) (places g m)) (has (places g m)) A (λ i. any_same (λ j. nat_eq j i) (nat_eq i) (places g m) (λ j. nat_eq-sym j i))
    ∙ any_below (has (places g m)) g m A all (λ i l. has_places g m i l)

-- forward: a composition of the other direction
pub forward_by : (f : ℕ → ℕ → Bool) (from : ℕ → List ℕ) (k m n : ℕ) → ((o : ℕ) → o < k → All (λ i. i < m) (from o))
    → composed (lists_by (λ r i. f i r) n m) (fwd_lists from k m) ≡ lists_by (λ r o. list_any (λ i. f i r) (from o)) n k
forward_by f from k m n below =
    compose_by (λ i o. has (from o) i) (λ r. places (λ i. f i r) m) n m k (λ r low. places_below (λ i. f i r) m)
    ∙ lists_agree (λ r o. list_any (λ i. has (from o) i) (places (λ i. f i r) m)) (λ r o. list_any (λ i. f i r) (from o)) n k (λ r o low h. any_meets (λ i. f i r) m (from o) (below o h))

-- equal lists, and none

replicate_last : {X : Type 0} (x : X) (n : ℕ) → replicate n x ++ x ∷ [] ≡ x ∷ replicate n x
replicate_last x zero = refl
replicate_last x (suc n) = ap (λ t. x ∷ t) (replicate_last x n)

map_replicate : {X : Type 0} (x : X) (n : ℕ) → map (λ i. x) (upto n) ≡ replicate n x
map_replicate x zero = refl
map_replicate x (suc n) = map-append (λ i. x) (upto n) (n ∷ []) ∙ ap (λ t. t ++ x ∷ []) (map_replicate x n) ∙ replicate_last x n

own_by : (f : ℕ → ℕ → Bool) (n : ℕ) → ((o r : ℕ) → f o r ≡ nat_eq o r) → lists_by f n n ≡ own_lists n
own_by f n is = ap (bounded n) (map_upto_agree (λ o. places (f o) n) (λ o. o ∷ []) n (λ o h. same_below (f o) (nat_eq o) n (λ r low. is o r) ∙ places_own o n h))

none_by : (f : ℕ → ℕ → Bool) (k n : ℕ) → ((o r : ℕ) → f o r ≡ false) → lists_by f k n ≡ empty_lists k n
none_by f k n none = ap (bounded n) (map_upto_agree (λ o. places (f o) n) (λ o. []) k (λ o h. same_below (f o) (λ r. false) n (λ r low. none o r) ∙ places_false n) ∙ map_replicate [] k)

-- the lists of a plan

pub backs_by : (plan : Expr) (tables : List (List Row)) (table : ℕ) → backs plan tables table ≡ lists_by (comes plan tables table) (length (rows_in plan tables)) (length (table_at tables table))
backs_by plan tables table =
    lists_agree (λ o rid. relates plan (whole plan tables) table o rid || false) (comes plan tables table) (length (rows_over plan tables)) (length (table_at tables table))
    (λ o rid h low. or_false (relates plan (whole plan tables) table o rid) ∙ relates_comes plan tables table o rid h)
    ∙ ap (λ k. lists_by (comes plan tables table) (length k) (length (table_at tables table))) (rows_whole plan tables)

pub forwards_by : (plan : Expr) (tables : List (List Row)) (table : ℕ) → forwards plan tables table ≡ lists_by (λ rid o. comes plan tables table o rid) (length (table_at tables table)) (length (rows_in plan tables))
forwards_by plan tables table =
    lists_agree (λ rid o. relates plan (whole plan tables) table o rid || false) (λ rid o. comes plan tables table o rid) (length (table_at tables table)) (length (rows_over plan tables))
    (λ rid o low h. or_false (relates plan (whole plan tables) table o rid) ∙ relates_comes plan tables table o rid h)
    ∙ ap (λ k. lists_by (λ rid o. comes plan tables table o rid) (length (table_at tables table)) (length k)) (rows_whole plan tables)

pub backs_compose : BacksCompose
backs_compose = record {
  rows_scan = λ table tables. refl;
  rows_one = λ op input tables. refl;
  rows_two = λ op left right tables. rows_whole (Combine op left right) tables ∙ rw (sym (rows_whole left tables), sym (rows_whole right tables)) refl;
  scan = λ table tables. backs_by (Leaf table) tables table ∙ own_by (comes (Leaf table) tables table) (length (table_at tables table)) (λ o r. rw (eq-eqb table table refl) refl);
  other = λ scanned table tables e. backs_by (Leaf scanned) tables table ∙ none_by (comes (Leaf scanned) tables table) (length (table_at tables scanned)) (length (table_at tables table)) (λ o r. rw e refl);
  one = λ op input tables table.
      let L = rows_in input tables in
      backs_by (Apply op input) tables table
      ∙ sym (compose_by (comes input tables table) (from1 op L) (length (step1 op L)) (length L) (length (table_at tables table)) (from1_below op L))
      ∙ ap (composed (back1 op L)) (sym (backs_by input tables table))
      ∙ ap (λ z. composed (back1 op z) (backs input tables table)) (sym (rows_whole input tables));
  two = λ op left right tables table.
      let L = rows_in left tables in
      let R = rows_in right tables in
      let n = length (table_at tables table) in
      let k = length (step2 op L R) in
      let by_left = λ (o rid : ℕ). list_any (λ i. comes left tables table i rid) (from_left op L R o) in
      let by_right = λ (o rid : ℕ). list_any (λ i. comes right tables table i rid) (from_right op L R o) in
      let l = sym (compose_by (comes left tables table) (from_left op L R) k (length L) n (left_below op L R)) ∙ ap (composed (back_left op L R)) (sym (backs_by left tables table)) in
      let r = sym (compose_by (comes right tables table) (from_right op L R) k (length R) n (right_below op L R)) ∙ ap (composed (back_right op L R)) (sym (backs_by right tables table)) in
      let at = λ (x y : List Row). merged (composed (back_left op x y) (backs left tables table)) (composed (back_right op x y) (backs right tables table)) in
      backs_by (Combine op left right) tables table
      ∙ sym (merge_by by_left by_right k n)
      ∙ ap (λ z. merged z (lists_by by_right k n)) l
      ∙ ap (merged (composed (back_left op L R) (backs left tables table))) r
      ∙ ap (λ x. at x R) (sym (rows_whole left tables))
      ∙ ap (at (rows_over left tables)) (sym (rows_whole right tables));
}

pub forwards_compose : ForwardsCompose
forwards_compose = record {
  scan = λ table tables. forwards_by (Leaf table) tables table ∙ own_by (λ rid o. comes (Leaf table) tables table o rid) (length (table_at tables table)) (λ rid o. rw (eq-eqb table table refl) (nat_eq-sym o rid));
  other = λ scanned table tables e. forwards_by (Leaf scanned) tables table ∙ none_by (λ rid o. comes (Leaf scanned) tables table o rid) (length (table_at tables table)) (length (table_at tables scanned)) (λ rid o. rw e refl);
  one = λ op input tables table.
      let L = rows_in input tables in
      forwards_by (Apply op input) tables table
      ∙ sym (forward_by (comes input tables table) (from1 op L) (length (step1 op L)) (length L) (length (table_at tables table)) (from1_below op L))
      ∙ ap (λ z. composed z (fwd1 op L)) (sym (forwards_by input tables table))
      ∙ ap (λ z. composed (forwards input tables table) (fwd1 op z)) (sym (rows_whole input tables));
  two = λ op left right tables table.
      let L = rows_in left tables in
      let R = rows_in right tables in
      let n = length (table_at tables table) in
      let k = length (step2 op L R) in
      let by_left = λ (rid o : ℕ). list_any (λ i. comes left tables table i rid) (from_left op L R o) in
      let by_right = λ (rid o : ℕ). list_any (λ i. comes right tables table i rid) (from_right op L R o) in
      let l = sym (forward_by (comes left tables table) (from_left op L R) k (length L) n (left_below op L R)) ∙ ap (λ z. composed z (fwd_left op L R)) (sym (forwards_by left tables table)) in
      let r = sym (forward_by (comes right tables table) (from_right op L R) k (length R) n (right_below op L R)) ∙ ap (λ z. composed z (fwd_right op L R)) (sym (forwards_by right tables table)) in
      let at = λ (x y : List Row). merged (composed (forwards left tables table) (fwd_left op x y)) (composed (forwards right tables table) (fwd_right op x y)) in
      forwards_by (Combine op left right) tables table
      ∙ sym (merge_by by_left by_right n k)
      ∙ ap (λ z. merged z (lists_by by_right n k)) l
      ∙ ap (merged (composed (forwards left tables table) (fwd_left op L R))) r
      ∙ ap (λ x. at x R) (sym (rows_whole left tables))
      ∙ ap (at (rows_over left tables)) (sym (rows_whole right tables));
}

-- what the lists say of a plan

pub sum_by_map : {X Y : Type 0} (f : Y → ℕ) (g : X → Y) (xs : List X) → sum_by f (map g xs) ≡ sum_by (λ x. f (g x)) xs
sum_by_map f g [] = refl
sum_by_map f g (x ∷ xs) = sum_by-cons f (g x) (map g xs) ∙ ap (λ t. f (g x) + t) (sum_by_map f g xs) ∙ sym (sum_by-cons (λ y. f (g y)) x xs)

pub sum_by_agree : {X : Type 0} (f g : X → ℕ) → ((x : X) → f x ≡ g x) → (xs : List X) → sum_by f xs ≡ sum_by g xs
sum_by_agree f g h [] = refl
sum_by_agree f g h (x ∷ xs) = sum_by-cons f x xs ∙ rw (h x, sum_by_agree f g h xs) (sym (sum_by-cons g x xs))

unscanned_reach : (scans : List ℕ) (table : ℕ) (S : ℕ → ℕ → Bool) (rid : ℕ) → has scans table ≡ false → reaches scans table S rid ≡ false
unscanned_reach scans table S rid none =
    any_below (λ leaf. nat_eq (get_or scans leaf 0) table && S leaf rid) (λ leaf. false) (length scans) (upto (length scans)) (upto_below (length scans)) (λ leaf low.
    let other : nat_eq (get_or scans leaf 0) table ≡ false = false_from_ne_true (nat_eq (get_or scans leaf 0) table) (λ e.
    false≢true (sym none ∙ list_any_at (nat_eq table) scans leaf 0 low (eq-eqb table (get_or scans leaf 0) (sym (eqb-true (get_or scans leaf 0) table e))))) in
    rw other refl)
    ∙ any_false (upto (length scans))

pub unscanned_relates : (plan : Expr) (E : List (List Row)) (table o rid : ℕ) → has (leaves plan) table ≡ false → relates plan E table o rid ≡ false
unscanned_relates plan E table o rid none = unscanned_reach (leaves plan) table (mark_at (ann plan E) o).1 rid none

places_by : (f : ℕ → ℕ → Bool) (k n : ℕ) → All (IsPlaces n) (lists_by f k n).lists
places_by f k n = All-map (IsPlaces n) (λ o. places (f o) n) (upto k) (λ i d l. places_are (f (get_or (upto k) i d)) n)

pub lists_stand : ListsStand
lists_stand = record {
  backs_long = λ plan tables table. length_lists (λ o rid. relates plan (whole plan tables) table o rid || false) (length (rows_over plan tables)) (length (table_at tables table));
  forwards_long = λ plan tables table. length_lists (λ rid o. relates plan (whole plan tables) table o rid || false) (length (table_at tables table)) (length (rows_over plan tables));
  backs_places = λ plan tables table. places_by (λ o rid. relates plan (whole plan tables) table o rid || false) (length (rows_over plan tables)) (length (table_at tables table));
  forwards_places = λ plan tables table. places_by (λ rid o. relates plan (whole plan tables) table o rid || false) (length (table_at tables table)) (length (rows_over plan tables));
  back_at = λ plan tables table o h. list_at_by (λ o rid. relates plan (whole plan tables) table o rid || false) (length (rows_over plan tables)) (length (table_at tables table)) o h;
  forward_at = λ plan tables table rid h. list_at_by (λ rid o. relates plan (whole plan tables) table o rid || false) (length (table_at tables table)) (length (rows_over plan tables)) rid h;
  back_of = λ plan tables O table all.
      let f = λ (o rid : ℕ). relates plan (whole plan tables) table o rid in
      let n = length (table_at tables table) in
      members_by (λ o rid. f o rid || false) (length (rows_over plan tables)) n O all
      ∙ same_below (λ rid. list_any (λ o. f o rid || false) O) (λ rid. list_any (λ o. f o rid) O) n (λ rid low. any_same (λ o. f o rid || false) (λ o. f o rid) O (λ o. or_false (f o rid)));
  forward_of = λ plan tables S table all.
      let f = λ (rid o : ℕ). relates plan (whole plan tables) table o rid in
      let k = length (rows_over plan tables) in
      members_by (λ rid o. f rid o || false) (length (table_at tables table)) k S all
      ∙ same_below (λ o. list_any (λ rid. f rid o || false) S) (λ o. list_any (λ rid. f rid o) S) k (λ o low. any_same (λ rid. f rid o || false) (λ rid. f rid o) S (λ rid. or_false (f rid o)));
  forwards_invert = λ plan tables table. invert_by (λ o rid. relates plan (whole plan tables) table o rid || false) (length (rows_over plan tables)) (length (table_at tables table));
  backs_invert = λ plan tables table. invert_by (λ rid o. relates plan (whole plan tables) table o rid || false) (length (table_at tables table)) (length (rows_over plan tables));
  pairs_are = λ plan tables table.
      let f = λ (o rid : ℕ). relates plan (whole plan tables) table o rid in
      let n = length (table_at tables table) in
      sum_by_map length (λ o. places (λ rid. f o rid || false) n) (upto (length (rows_over plan tables)))
      ∙ sum_by_agree (λ o. length (places (λ rid. f o rid || false) n)) (λ o. length (places (f o) n))
      (λ o. ap length (same_below (λ rid. f o rid || false) (f o) n (λ rid low. or_false (f o rid)))) (upto (length (rows_over plan tables)));
  unscanned = λ plan tables O table n none.
      same_below (λ rid. list_any (λ o. relates plan (whole plan tables) table o rid) O) (λ rid. false) n (λ rid low.
      any_same (λ o. relates plan (whole plan tables) table o rid) (λ o. false) O (λ o. unscanned_relates plan (whole plan tables) table o rid none) ∙ any_false O)
      ∙ places_false n;
  unscanned_backs = λ plan tables table none.
      none_by (λ o rid. relates plan (whole plan tables) table o rid || false) (length (rows_over plan tables)) (length (table_at tables table)) (λ o rid. ap (λ b. b || false) (unscanned_relates plan (whole plan tables) table o rid none));
  unscanned_forwards = λ plan tables table none.
      none_by (λ rid o. relates plan (whole plan tables) table o rid || false) (length (table_at tables table)) (length (rows_over plan tables)) (λ rid o. ap (λ b. b || false) (unscanned_relates plan (whole plan tables) table o rid none));
}
