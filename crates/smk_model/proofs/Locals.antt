-- The lists of one step, in the form in which a loop makes them.
use Rattle.std.proofs.{Common.{◌≡◌, ℕ, ◌+◌, ◌-◌, ◌<◌, Bool, true, List, [], ◌∷◌, ◌++◌, length, map, refl, ap, sym, ◌∙◌, subst, arith, get_or, inl, inr}, lemmas.List.{map-append, length-append, length-map}, lemmas.List.Elements.All-map, lemmas.List.Folds.list_any_at, lemmas.List.Quantifiers.all_pairs_push, lemmas.Bool.{cases_Bool, lt-ltb, le-ltb, false≢true}}
use Rattle.std.specs.List.{fold, All, AllPairs}
use Rattle.smk_base.specs.{Places.IsPlaces, Plans.{Formula, Binary, Equijoin, ThetaJoin, CrossProduct, BagUnion}}
use Rattle.smk_model.specs.{Values.{Row, meets}, Plain.{row_eq, image, key_of, add_first, firsts, grouped, agree, meets_together, always, nested, is_join, joins, step1, step2}, Lineage.{upto, places, row_at, matching, match_at, from1, from_left, from_right}, Locals.{back_left, back_right}, LocalLaws.LocalsAre}
use Rattle.smk_base.proofs.Places.{map_map, map_upto, length_upto, get_or_upto, map_upto_agree, upto_add}
use Rattle.smk_model.proofs.{Firsts.{row_same, holds}, CuiWidom.{length_selected, nested_rows, length_matching, cui_widom}}

-- lists

each_at : {X Y : Type 0} (g : X → Y) (xs : List X) (d : X) → map (λ o. g (get_or xs o d)) (upto (length xs)) ≡ map g xs
each_at g xs d = sym (map_map g (λ o. get_or xs o d) (upto (length xs))) ∙ ap (map g) (map_upto xs d)

pub at_each : {X : Type 0} (f g : ℕ → X) (m n : ℕ) (h : ℕ → X) → ((i : ℕ) → i < m → f i ≡ g i) → ((i : ℕ) → i < n → f (m + i) ≡ h i) → map f (upto (m + n)) ≡ map g (upto m) ++ map h (upto n)
at_each f g m n h left right =
    ap (map f) (upto_add m n) ∙ map-append f (upto m) (map (λ i. m + i) (upto n))
    ∙ rw (map_upto_agree f g m left, map_map f (λ i. m + i) (upto n), map_upto_agree (λ i. f (m + i)) h n right) refl

every : {X : Type 0} (P : X → Type 0) (f : ℕ → X) (n : ℕ) → ((o : ℕ) → o < n → P (f o)) → All P (map f (upto n))
every P f n h = All-map P f (upto n) (λ k d l.
    let low : k < n = omega (arith, l, length_upto n) in
    subst (λ (o : ℕ). P (f o)) (sym (get_or_upto n k d low)) (h k low))

-- what holds of every nested loop holds of every join
every_join : (P : Binary → (Row → Row → Bool) → Type 0) → ((pairs : List (ℕ × ℕ)) → P (Equijoin pairs) (agree pairs)) → ((formula : Formula) → P (ThetaJoin formula) (meets_together formula)) → P CrossProduct always
    → (op : Binary) → is_join op ≡ true → P op (joins op)
every_join P equal theta product (Equijoin pairs) e = equal pairs
every_join P equal theta product (ThetaJoin formula) e = theta formula
every_join P equal theta product CrossProduct e = product
every_join P equal theta product _ e = absurd (false≢true e)

nested_lists : (test : Row → Row → Bool) (L R : List Row) (g : ℕ × ℕ → List ℕ) → map (λ o. g (match_at test L R o)) (upto (length (nested test L R))) ≡ map g (matching test L R)
nested_lists test L R g = ap (λ n. map (λ o. g (match_at test L R o)) (upto n)) (sym (length_matching test L R)) ∙ each_at g (matching test L R) (0, 0)

pub locals_are : LocalsAre
locals_are = record {
  selection = λ formula L.
      let P = places (λ i. meets formula (row_at L i)) (length L) in
      ap (λ n. map (λ o. get_or P o 0 ∷ []) (upto n)) (sym (length_selected (meets formula) L)) ∙ each_at (λ i. i ∷ []) P 0;
  projection = λ items L. ap (λ n. map (λ o. o ∷ []) (upto n)) (length-map L (image items));
  distinction = λ items L. each_at (λ k. places (λ i. row_eq k (image items (row_at L i))) (length L)) (firsts (map (image items) L)) [];
  grouping = λ keys aggs L.
      let found = firsts (map (key_of keys) L) in
      ap (λ n. map (λ o. places (λ i. row_eq (row_at found o) (key_of keys (row_at L i))) (length L)) (upto n)) (length-map found (grouped keys aggs L))
      ∙ each_at (λ k. places (λ i. row_eq k (key_of keys (row_at L i))) (length L)) found [];
  join_left = λ op L R e. every_join (λ op test. (back_left op L R).lists ≡ map (λ p. p.0 ∷ []) (matching test L R))
      (λ pairs. nested_lists (agree pairs) L R (λ p. p.0 ∷ [])) (λ formula. nested_lists (meets_together formula) L R (λ p. p.0 ∷ [])) (nested_lists always L R (λ p. p.0 ∷ [])) op e;
  join_right = λ op L R e. every_join (λ op test. (back_right op L R).lists ≡ map (λ p. p.1 ∷ []) (matching test L R))
      (λ pairs. nested_lists (agree pairs) L R (λ p. p.1 ∷ [])) (λ formula. nested_lists (meets_together formula) L R (λ p. p.1 ∷ [])) (nested_lists always L R (λ p. p.1 ∷ [])) op e;
  joined = λ op L R e. every_join (λ op test. step2 op L R ≡ map (λ p. row_at L p.0 ++ row_at R p.1) (matching test L R))
      (λ pairs. nested_rows (agree pairs) L R) (λ formula. nested_rows (meets_together formula) L R) (nested_rows always L R) op e;
  union_all_left = λ L R.
      ap (λ n. map (from_left BagUnion L R) (upto n)) (length-append L R)
      ∙ at_each (from_left BagUnion L R) (λ i. i ∷ []) (length L) (length R) (λ j. []) (λ i low. rw (lt-ltb i (length L) low) refl) (λ j low. rw (le-ltb (length L + j) (length L) (omega arith)) refl);
  union_all_right = λ L R.
      ap (λ n. map (from_right BagUnion L R) (upto n)) (length-append L R)
      ∙ at_each (from_right BagUnion L R) (λ i. []) (length L) (length R) (λ j. j ∷ []) (λ i low. rw (lt-ltb i (length L) low) refl)
      (λ j low. let e : (length L + j) - length L ≡ j = omega arith in rw (le-ltb (length L + j) (length L) (omega arith), e) refl);
  union_left = λ L R. each_at (λ k. places (λ i. row_eq k (row_at L i)) (length L)) (firsts (L ++ R)) [];
  union_right = λ L R. each_at (λ k. places (λ j. row_eq k (row_at R j)) (length R)) (firsts (L ++ R)) [];
  places_one = λ op L. every (IsPlaces (length L)) (from1 op L) (length (step1 op L)) (λ o h. (cui_widom.one op L o h).places);
  places_left = λ op L R. every (IsPlaces (length L)) (from_left op L R) (length (step2 op L R)) (λ o h. (cui_widom.two op L R o h).places_left);
  places_right = λ op L R. every (IsPlaces (length R)) (from_right op L R) (length (step2 op L R)) (λ o h. (cui_widom.two op L R o h).places_right);
}

-- keys by first occurrence

abbrev pub IsApart : List Row → Type 0
IsApart keys = AllPairs (λ a b. a ≡ b → ⊥) keys

add_apart : (keys : List Row) (x : Row) → IsApart keys → IsApart (add_first keys x)
add_apart keys x h = elim (cases_Bool (holds keys x)) [
  | inl p ↦ rw p h
  | inr p ↦ rw p (all_pairs_push (λ a b. a ≡ b → ⊥) keys x h (λ k d l e. false≢true (sym p ∙ list_any_at (row_eq x) keys k d l ((row_same x (get_or keys k d)).1 (sym e)))))
]

fold_apart : (keys xs : List Row) → IsApart keys → IsApart (fold add_first keys xs)
fold_apart keys [] h = h
fold_apart keys (x ∷ xs) h = fold_apart (add_first keys x) xs (add_apart keys x h)

-- no two first occurrences are equal
pub firsts_apart : (xs : List Row) → IsApart (firsts xs)
firsts_apart xs = fold_apart [] xs (λ i j d h l. absurd (omega arith))
