-- The number of members of merged lists.
use Rattle.std.proofs.{Common.{◌≡◌, ℕ, zero, suc, ◌<◌, ◌≤◌, Bool, true, List, [], ◌∷◌, length, map, refl, ap, sym, ◌∙◌, subst, arith, ◌||◌, inl, inr}, lemmas.List.Elements.All-get_or, lemmas.List.Sums.sum_by_push, lemmas.Bool.{cases_Bool, or_left, or_right}}
use Rattle.std.specs.List.{sum_by, filter, All}
use Rattle.smk_base.specs.Places.{Lists, upto, places, has, IsPlaces, pairs_of, list_at}
use Rattle.smk_model.specs.ComposedLaws.{MergedHasBoth}
use Rattle.smk_base.proofs.Places.{map_upto}
use Rattle.smk_model.proofs.Composed.{sum_by_map}

-- a test that passes more keeps at least as many
pub filter_le : {X : Type 0} (f g : X → Bool) → ((x : X) → f x ≡ true → g x ≡ true) → (xs : List X) → length (filter f xs) ≤ length (filter g xs)
filter_le f g h [] = omega arith
filter_le f g h (x ∷ xs) = elim (cases_Bool (f x)) [
  | inl p ↦ rw (p, h x p) (omega (arith, filter_le f g h xs))
  | inr p ↦ rw p (elim (cases_Bool (g x)) [ inl q ↦ rw q (omega (arith, filter_le f g h xs)) | inr q ↦ rw q (filter_le f g h xs) ])
]

sum_upto_le : (f g : ℕ → ℕ) (n : ℕ) → ((i : ℕ) → i < n → f i ≤ g i) → sum_by f (upto n) ≤ sum_by g (upto n)
sum_upto_le f g zero h = omega arith
sum_upto_le f g (suc n) h = omega (arith, sum_by_push f (upto n) n, sum_by_push g (upto n) n, h n (omega arith), sum_upto_le f g n (λ i l. h i (omega arith)))

pairs_at : (a : Lists) → pairs_of a.lists ≡ sum_by (λ i. length (list_at a i)) (upto (length a.lists))
pairs_at a = ap pairs_of (sym (map_upto a.lists [])) ∙ sum_by_map length (list_at a) (upto (length a.lists))

-- each list is at most the merged one at its place
side_le : (a : Lists) (k : ℕ) (more : ℕ → ℕ → Bool) → length a.lists ≡ k → All (IsPlaces a.bound) a.lists → ((i r : ℕ) → has (list_at a i) r ≡ true → more i r ≡ true)
    → pairs_of a.lists ≤ pairs_of (map (λ i. places (more i) a.bound) (upto k))
side_le a k more long sets h =
    let each : (i : ℕ) → i < k → length (list_at a i) ≤ length (places (more i) a.bound) = λ i l.
    let set : places (has (list_at a i)) a.bound ≡ list_at a i = All-get_or (IsPlaces a.bound) a.lists i [] (omega (arith, l, long)) sets in
    omega (arith, ap length set, filter_le (has (list_at a i)) (more i) (h i) (upto a.bound)) in
    let mine : pairs_of a.lists ≡ sum_by (λ i. length (list_at a i)) (upto k) = pairs_at a ∙ ap (λ n. sum_by (λ i. length (list_at a i)) (upto n)) long in
    omega (arith, mine, sum_by_map length (λ i. places (more i) a.bound) (upto k), sum_upto_le (λ i. length (list_at a i)) (λ i. length (places (more i) a.bound)) k each)

pub merged_has_both : MergedHasBoth
merged_has_both = record {
  left = λ a b sets. side_le a (length a.lists) (λ i r. has (list_at a i) r || has (list_at b i) r) refl sets (λ i r q. or_left (has (list_at a i) r) _ q);
  right = λ a b long bound sets.
      subst (λ (n : ℕ). pairs_of b.lists ≤ pairs_of (map (λ i. places (λ r. has (list_at a i) r || has (list_at b i) r) n) (upto (length a.lists)))) bound
      (side_le b (length a.lists) (λ i r. has (list_at a i) r || has (list_at b i) r) long sets (λ i r q. or_right (has (list_at a i) r) _ q));
}
