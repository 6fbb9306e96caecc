-- Groups by marks.
use Rattle.std.proofs.{Common.{◌≡◌, ℕ, suc, ◌<◌, Bool, true, false, cond, List, [], ◌∷◌, ◌++◌, length, map, take, refl, ap, sym, ◌∙◌, subst, arith, get_or, nat_eq, nat_lt, inl, inr}, lemmas.List.{get_or-map, length-map, take-append-le, take_all, get_or_default}, lemmas.List.Elements.{All-filter, All-map}, lemmas.Bool.{cases_Bool, or_right}}
use Rattle.std.specs.List.{filter, All}
use Rattle.smk_base.specs.{Places.{Lists, list_at}, declared.book.plan.Agg.Agg, Plans.{Grouping, Expr, Apply}}
use Rattle.smk_model.specs.{Values.Row, Plain.{row_eq, key_of, aggregate, firsts, grouped, rows_over}, Lineage.{row_at, sub}, Composed.table_at, Classes.places_in, LineageLaws.selected_table, Growth.is_chain}
use Rattle.smk_base.proofs.Places.{map_map, same_below, has_passes, has_below}
use Rattle.smk_model.proofs.{Firsts.{holds, holds_here, holds_at, firsts_from, sub_key, place_of}, Locals.{IsApart, firsts_apart}, Classes.{place_in, first_below, found_below, found_at, key_test}, Comes.{rows_in, rows_whole}}
use Rattle.smk_keys.specs.{Classes.{ClassesImage, first_items, classing_of, classes_of}, Keys.key_eq, Numbers.AreNumbers}
use Rattle.smk_keys.proofs.{Classing.classing-numbers, Placed.keys-firsts, Rowed.key_same}
use Rattle.smk_marks.specs.{Marks.{made, passes, kept, marks_at, with_mark, marked_group, marked_groups}, MarkLaws.{marks_of, input_at, AreRids, GroupMarks}}
use Rattle.smk_marks.proofs.{Chains.chain_picks, Classed.{firsts_are, map_below}, Forward.{key_known, list_is}}

-- functions that agree on the members
pub map_held : {X : Type 0} (f g : Row → X) (xs : List Row) → ((k : Row) → holds xs k ≡ true → f k ≡ g k) → map f xs ≡ map g xs
map_held f g [] h = refl
map_held f g (x ∷ xs) h = rw (h x (holds_here x xs), map_held f g xs (λ k q. h k (or_right (row_eq k x) _ q))) refl

-- that the members of a list are among known rows
abbrev pub AreKnown : List Row → List Row → Type 0
AreKnown known xs = (k : Row) → holds xs k ≡ true → holds known k ≡ true

-- known rows that are apart, as numbers
module _ (known : List Row) (apart : IsApart known) where
  pub same_number : (a b : Row) → holds known a ≡ true → holds known b ≡ true → nat_eq (place_in known a) (place_in known b) ≡ row_eq b a
  same_number a b p q = sym (key_test known a (place_in known b) apart p (found_below known b q)) ∙ ap (λ (z : Row). row_eq z a) (found_at known b q)

  pub are_numbers : (xs : List Row) → AreKnown known xs → AreNumbers [] xs (length known) (places_in known xs)
  are_numbers xs all =
      let number : (i : ℕ) → i < length xs → get_or (places_in known xs) i 0 ≡ place_in known (row_at xs i) = λ i l. get_or-map (place_in known) xs i [] 0 l in
      let back : (i : ℕ) → i < length xs → row_at known (get_or (places_in known xs) i 0) ≡ row_at xs i = λ i l. ap (row_at known) (number i l) ∙ found_at known (row_at xs i) (all (row_at xs i) (holds_at xs i l)) in
      record {
        long = length-map xs (place_in known);
        below = All-map (λ m. m < length known) (place_in known) xs (λ i d l. found_below known (get_or xs i d) (all (get_or xs i d) (any_at xs i d l)));
        same = λ i j l m e. sym (back i l) ∙ ap (row_at known) e ∙ back j m;
        alike = λ i j l m e. number i l ∙ ap (place_in known) e ∙ sym (number j m);
      }
    where
      any_at : (xs : List Row) (i : ℕ) (d : Row) → i < length xs → holds xs (get_or xs i d) ≡ true
      any_at xs i d l = subst (λ (z : Row). holds xs z ≡ true) (get_or_default xs i [] d l) (holds_at xs i l)

  pub first_numbers : (xs : List Row) → AreKnown known xs → first_items nat_eq (places_in known xs) ≡ places_in known (firsts xs)
  first_numbers xs all =
      let numbers = places_in known xs in
      let number = λ (p : ℕ). get_or numbers p 0 in
      let found = (classes_of xs).firsts in
      sym (firsts_are numbers) ∙ ap (λ (z : ClassesImage). map number z.firsts) (classing-numbers key_eq key_same [] xs (length known) numbers (are_numbers xs all))
      ∙ map_below number (λ p. place_in known (row_at xs p)) (length xs) found (first_below xs) (λ p l. get_or-map (place_in known) xs p [] 0 l)
      ∙ sym (map_map (place_in known) (row_at xs) found) ∙ ap (map (place_in known)) (keys-firsts xs)

-- a grouping over a chain

passing : (f : ℕ → Bool) (g : ℕ → Bool) (n : ℕ) (S : List ℕ) → All (λ s. s < n) S → ((s : ℕ) → s < n → f s ≡ g s) → filter f S ≡ filter g S
passing f g n [] all h = refl
passing f g n (s ∷ S) all h = rw (h s (all 0 0 (omega arith)), passing f g n S (λ i d l. all (suc i) d (omega arith)) h) refl

module _ (keys : List ℕ) (aggs : List Agg) (input : Expr) (tables : List (List Row)) (S : List ℕ) (c : is_chain input ≡ true) (rids : AreRids input tables S) where
  abbrev lists : Lists
  lists = marks_of keys aggs input tables

  abbrev table : List Row
  table = table_at tables (selected_table input)

  abbrev known : List Row
  known = firsts (map (key_of keys) (rows_in input tables))

  abbrev chosen : List ℕ
  chosen = filter (λ s. passes input (row_at table s)) S

  abbrev key_at : Row → Row
  key_at row = key_of keys (made input row)

  abbrev ks : List Row
  ks = map (key_of keys) (input_at input tables S)

  kept_pass : kept lists S ≡ chosen
  kept_pass = passing (λ s. nat_lt 0 (length (list_at lists s))) (λ s. passes input (row_at table s)) (length table) S rids (λ s l.
      ap (λ A. nat_lt 0 (length A)) (list_is keys aggs input tables c s l) ∙ tested (passes input (row_at table s)) (place_in known (key_at (row_at table s))))
    where
      tested : (b : Bool) (m : ℕ) → nat_lt 0 (length (cond b (m ∷ []) [])) ≡ b
      tested true m = refl
      tested false m = refl

  made_rows : input_at input tables S ≡ map (made input) (sub table chosen)
  made_rows = chain_picks.sub_rows input table S c

  keys_made : ks ≡ map key_at (sub table chosen)
  keys_made = ap (map (key_of keys)) made_rows ∙ map_map (key_of keys) (made input) (sub table chosen)

  -- each key is that of a row of the table that passes
  record Comes (k : Row) : Type 0 where
    rid : ℕ
    low : rid < length table
    pass : passes input (row_at table rid) ≡ true
    is : key_at (row_at table rid) ≡ k

  comes_key : (k : Row) → holds ks k ≡ true → Comes k
  comes_key k h =
      let s = place_of key_at table chosen k (subst (λ (z : List Row). holds z k ≡ true) keys_made h) in
      record {
        rid = s.0;
        low = has_below (length table) chosen (All-filter (λ s. passes input (row_at table s)) (λ s. s < length table) S rids) s.0 s.1;
        pass = has_passes (λ s. passes input (row_at table s)) S s.0 s.1;
        is = s.2;
      }

  keys_known : AreKnown known ks
  keys_known k h = let s = comes_key k h in subst (λ (z : Row). holds known z ≡ true) s.is (key_known keys aggs input tables c s.rid s.low s.pass)

  -- the marks are the places of the keys
  marks_are : marks_at lists S ≡ places_in known ks
  marks_are = listed S rids ∙ sym (ap (places_in known) keys_made ∙ ap (map (place_in known)) (map_map key_at (row_at table) chosen) ∙ map_map (place_in known) (λ s. key_at (row_at table s)) chosen)
    where
      mark : ℕ → ℕ
      mark s = place_in known (key_at (row_at table s))

      listed : (A : List ℕ) → AreRids input tables A → marks_at lists A ≡ map (λ s. place_in known (key_at (row_at table s))) (filter (λ s. passes input (row_at table s)) A)
      listed [] all = refl
      listed (s ∷ A) all =
          let one = list_is keys aggs input tables c s (all 0 0 (omega arith)) in
          let rest = listed A (λ i d l. all (suc i) d (omega arith)) in
          rw (one, rest) (elim (cases_Bool (passes input (row_at table s))) [ inl p ↦ rw p refl | inr p ↦ rw p refl ])

  few : length (rows_over (Apply (Grouping keys aggs) input) tables) ≡ length known
  few = ap length (rows_whole (Apply (Grouping keys aggs) input) tables) ∙ length-map known (grouped keys aggs (rows_in input tables))

  numbers : AreNumbers [] ks (length (rows_over (Apply (Grouping keys aggs) input) tables)) (marks_at lists S)
  numbers =
      subst (AreNumbers [] ks (length (rows_over (Apply (Grouping keys aggs) input) tables))) (sym marks_are)
      (subst (λ (n : ℕ). AreNumbers [] ks n (places_in known ks)) (sym few) (are_numbers known (firsts_apart (map (key_of keys) (rows_in input tables))) ks keys_known))

  -- the row of the first content at a mark begins with the key
  key_is : (k : Row) → holds ks k ≡ true → take (length keys) (row_at (rows_over (Apply (Grouping keys aggs) input) tables) (place_in known k)) ≡ k
  key_is k h =
      let X = rows_in input tables in
      let s = comes_key k h in
      let there = keys_known k h in
      let long : length k ≡ length keys = ap length (sym s.is) ∙ length-map keys _ in
      let at : row_at (rows_over (Apply (Grouping keys aggs) input) tables) (place_in known k) ≡ grouped keys aggs X k =
      ap (λ z. row_at z (place_in known k)) (rows_whole (Apply (Grouping keys aggs) input) tables) ∙ get_or-map (grouped keys aggs X) known (place_in known k) [] [] (found_below known k there) ∙ ap (grouped keys aggs X) (found_at known k there) in
      ap (take (length keys)) at ∙ take-append-le (length keys) k _ (omega (arith, long)) ∙ take_all (length keys) k (omega (arith, long))

  -- the rows of a mark are those of its key
  marked_rows : (k : Row) → holds ks k ≡ true → filter (λ row. row_eq k (key_of keys row)) (input_at input tables S) ≡ with_mark (places_in known ks) (input_at input tables S) (place_in known k)
  marked_rows k h =
      let Y = input_at input tables S in
      sym (sub_key (key_of keys) Y k)
      ∙ ap (sub Y) (same_below (λ i. row_eq k (key_of keys (row_at Y i))) (λ i. nat_eq (get_or (places_in known ks) i 0) (place_in known k)) (length Y) (λ i l.
      let small : i < length ks = omega (arith, l, length-map Y (key_of keys)) in
      let at : row_at ks i ≡ key_of keys (row_at Y i) = get_or-map (key_of keys) Y i [] [] l in
      sym (ap (λ z. nat_eq z (place_in known k)) (get_or-map (place_in known) ks i [] 0 small)
      ∙ same_number known (firsts_apart (map (key_of keys) (rows_in input tables))) (row_at ks i) k (keys_known (row_at ks i) (holds_at ks i small)) (keys_known k h)
      ∙ ap (row_eq k) at)))

  content : map (grouped keys aggs (input_at input tables S)) (firsts ks) ≡ marked_groups (length keys) aggs (rows_over (Apply (Grouping keys aggs) input) tables) (marks_at lists S) (input_at input tables S)
  content =
      let Y = input_at input tables S in
      let F = rows_over (Apply (Grouping keys aggs) input) tables in
      let apart = firsts_apart (map (key_of keys) (rows_in input tables)) in
      map_held (grouped keys aggs Y) (λ k. marked_group (length keys) aggs F (places_in known ks) Y (place_in known k)) (firsts ks) (λ k q.
      let h = firsts_from ks k q in
      ap (λ z. k ++ map (aggregate z) aggs) (marked_rows k h) ∙ ap (λ z. z ++ map (aggregate (with_mark (places_in known ks) Y (place_in known k))) aggs) (sym (key_is k h)))
      ∙ sym (map_map (marked_group (length keys) aggs F (places_in known ks) Y) (place_in known) (firsts ks))
      ∙ ap (map (marked_group (length keys) aggs F (places_in known ks) Y)) (sym (first_numbers known apart ks keys_known))
      ∙ ap (λ z. marked_groups (length keys) aggs F z Y) (sym marks_are)

  classed : classing_of nat_eq (marks_at lists S) ≡ classes_of ks
  classed = classing-numbers key_eq key_same [] ks _ (marks_at lists S) numbers

pub group_marks : GroupMarks
group_marks = record {
  kept_pass = kept_pass;
  rows = λ keys aggs input tables S c rids. made_rows keys aggs input tables S c rids ∙ ap (λ A. map (made input) (sub (table_at tables (selected_table input)) A)) (sym (kept_pass keys aggs input tables S c rids));
  numbers = numbers;
  classes = classed;
  content = content;
}
