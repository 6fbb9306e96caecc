-- The answers to queries are places, and places are ascending numbers below a bound.
use Rattle.std.proofs.{Common.{◌≡◌, ◌∙◌, ℕ, zero, suc, ◌+◌, ◌<◌, ◌≤◌, ◌||◌, Bool, true, false, List, [], ◌∷◌, length, get_or, nat_eq, ap, sym, subst, refl, arith, inl, inr}, lemmas.Bool.{cases_eq, eq-eqb, ne_eqb, or_left}, lemmas.List.Folds.list_any_none, lemmas.List.Kept.AllPairs-filter, lemmas.List.get_or_default}
use Rattle.std.specs.List.{list_any, All, filter, range_with_len}
use Rattle.smk_base.specs.{Picks.IsAscending, Places.{upto, has, IsPlaces}}
use Rattle.smk_model.specs.{Plain.eval, Annotated.relates, LineageLaws.{AnswersArePlaces, PlacesAscend}}
use Rattle.smk_base.proofs.Places.{places_below, places_are, length_upto, get_or_upto, upto_range}

pub all_below : (n : ℕ) (A : List ℕ) → IsPlaces n A → All (λ i. i < n) A
all_below n A is = subst (λ (z : List ℕ). All (λ i. i < n) z) is (places_below (has A) n)

pub answers_are_places : AnswersArePlaces
answers_are_places = record {
  backward = λ plan E O table n. places_are (λ rid. list_any (λ o. relates plan E table o rid) O) n;
  forward = λ plan E S table. places_are (λ o. list_any (λ rid. relates plan E table o rid) S) (length (eval plan E));
  below = all_below;
}

ascends : (n : ℕ) (A : List ℕ) → IsPlaces n A → IsAscending A
ascends n A is = subst IsAscending is (λ i j h low. AllPairs-filter (λ x y. x < y) (has A) (upto n) (λ i j d h k. let long = length_upto n in rw (get_or_upto n i d (omega arith), get_or_upto n j d (omega arith)) h) i j 0 h low)

-- ascending numbers from s to less than s + k are the members of that range that they have
picked : (k s : ℕ) (f : ℕ → Bool) (A : List ℕ) → ((i : ℕ) → s ≤ i → f i ≡ has A i) → IsAscending A → ((j : ℕ) → j < length A → s ≤ get_or A j 0) → ((j : ℕ) → j < length A → get_or A j 0 < s + k) → filter f (range_with_len s k) ≡ A
picked zero s f [] same up from to = refl
picked zero s f (x ∷ xs) same up from to = let low : s ≤ x = from 0 (omega arith) in let high : x < s + 0 = to 0 (omega arith) in absurd (omega (arith, low, high))
picked (suc k) s f [] same up from to = rw (same s (omega arith)) (picked k (s + 1) f [] (λ i h. same i (omega arith)) up (λ j h. absurd (omega arith)) (λ j h. absurd (omega arith)))
picked (suc k) s f (x ∷ xs) same up from to = elim (cases_eq s x) [
  | inl e ↦ (
      let here : f s ≡ true = same s (omega arith) ∙ or_left (nat_eq s x) (has xs s) (eq-eqb s x e) in
      let rest : filter f (range_with_len (s + 1) k) ≡ xs = picked k (s + 1) f xs
      (λ i h. let ne : nat_eq i x ≡ false = ne_eqb i x (λ q. absurd (omega arith)) in same i (omega arith) ∙ ap (λ b. b || has xs i) ne)
      (λ i j h low. up (suc i) (suc j) (omega arith) (omega arith))
      (λ j h. let above : x < get_or xs j 0 = up 0 (suc j) (omega arith) (omega arith) in omega arith)
      (λ j h. let below : get_or xs j 0 < s + suc k = to (suc j) (omega arith) in omega arith) in
      rw here (rw (sym e) (ap (λ l. s ∷ l) rest))
      )
  | inr ne ↦ (
      let past : (j : ℕ) → j < length (x ∷ xs) → s + 1 ≤ get_or (x ∷ xs) j 0 = later ne in
      let none : has (x ∷ xs) s ≡ false = list_any_none (nat_eq s) (x ∷ xs) (λ j d h. let above = past j h in ne_eqb s (get_or (x ∷ xs) j d) (λ q. let same = get_or_default (x ∷ xs) j d 0 h in absurd (omega (arith, q, same, above)))) in
      rw (same s (omega arith) ∙ none) (picked k (s + 1) f (x ∷ xs) (λ i h. same i (omega arith)) up past (λ j h. let below = to j h in omega (arith, below)))
      )
]
  where
    later : (s ≡ x → ⊥) → (j : ℕ) → j < length (x ∷ xs) → s + 1 ≤ get_or (x ∷ xs) j 0
    later ne zero h = let low : s ≤ x = from 0 h in omega (arith, ne)
    later ne (suc j) h = let low : s ≤ x = from 0 (omega arith) in let above : x < get_or xs j 0 = up 0 (suc j) (omega arith) h in omega arith

pub places_ascend : PlacesAscend
places_ascend = record {
  ascend = λ n A is. (ascends n A is, all_below n A is);
  are = λ n A up low. ap (filter (has A)) (upto_range n) ∙ picked n 0 (has A) A (λ i h. refl) up (λ j h. omega arith) (λ j h. let below = low j 0 h in omega (arith, below));
}
