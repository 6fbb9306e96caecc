-- Classes against the items at their first occurrences.
use Rattle.std.proofs.{Common.{◌≡◌, ℕ, zero, suc, ◌+◌, ◌<◌, ◌≤◌, Bool, true, false, List, [], ◌∷◌, ◌++◌, length, map, take, get_or, refl, ap, sym, subst, ◌∙◌, arith, Decides, inl, inr, add-one}, lemmas.Bool.{cases_order, cases_Bool, cases_lt}, lemmas.List.{get_or-map, get_or-take, length-take-le, length-map, take_more, take_all, map_more, get_or_default}, lemmas.List.Folds.{list_any_at, list_any_none}, lemmas.List.Sums.fold_push}
use Rattle.std.specs.List.{list_any}
use Rattle.smk_base.specs.Firsts.{first_items, with_item}
use Rattle.smk_keys.specs.Numbers.{AreNumbers}

-- equal items have one class, classes are numbered in the order in which they come first, and firsts has the first place of each; none stands past the end
pub record AreClasses {X : Type 0} (none : X) (items : List X) (of firsts : List ℕ) : Type 0 where
  pub long : length of ≡ length items
  pub within : (i : ℕ) → i < length items → get_or of i 0 < length firsts
  pub same : (i j : ℕ) → i < length items → j < length items → get_or of i 0 ≡ get_or of j 0 → get_or items i none ≡ get_or items j none
  pub alike : (i j : ℕ) → i < length items → j < length items → get_or items i none ≡ get_or items j none → get_or of i 0 ≡ get_or of j 0
  pub place : (k : ℕ) → k < length firsts → get_or firsts k 0 < length items
  pub at : (k : ℕ) → k < length firsts → get_or of (get_or firsts k 0) 0 ≡ k
  pub first : (k i : ℕ) → k < length firsts → i < get_or firsts k 0 → get_or of i 0 < k

-- items that are equal in the same places have the same classes
pub AreClasses-alike : {X Y : Type 0} (none : X) (other : Y) (items : List X) (others : List Y) (of firsts : List ℕ) → length others ≡ length items
    → ((i j : ℕ) → i < length items → j < length items → get_or items i none ≡ get_or items j none → get_or others i other ≡ get_or others j other)
    → ((i j : ℕ) → i < length items → j < length items → get_or others i other ≡ get_or others j other → get_or items i none ≡ get_or items j none)
    → AreClasses none items of firsts → AreClasses other others of firsts
AreClasses-alike none other items others of firsts e there back is = record {
  long = is.long ∙ sym e;
  within = λ i h. is.within i (omega arith);
  same = λ i j h p q. there i j (omega arith) (omega arith) (is.same i j (omega arith) (omega arith) q);
  alike = λ i j h p q. is.alike i j (omega arith) (omega arith) (back i j (omega arith) (omega arith) q);
  place = λ k h. omega (arith, is.place k h);
  at = is.at;
  first = is.first;
}

-- classes are numbers of the items
pub AreNumbers-classes : {X : Type 0} (none : X) (items : List X) (of firsts : List ℕ) → AreClasses none items of firsts → AreNumbers none items (length firsts) of
AreNumbers-classes none items of firsts are = record {
  long = are.long;
  below = λ i d h. rw (get_or_default of i d 0 h) (are.within i (omega (arith, are.long)));
  same = are.same;
  alike = are.alike;
}

-- the first n items have the first c classes
record IsReached {X : Type 0} (eq : X → X → Bool) (none : X) (items : List X) (of firsts : List ℕ) (n c : ℕ) : Type 0 where
  few : c ≤ length firsts
  below : (i : ℕ) → i < n → get_or of i 0 < c
  before : (k : ℕ) → k < c → get_or firsts k 0 < n
  found : first_items eq (take n items) ≡ map (λ p. get_or items p none) (take c firsts)

record Reach {X : Type 0} (eq : X → X → Bool) (none : X) (items : List X) (of firsts : List ℕ) (n : ℕ) : Type 0 where
  count : ℕ
  is : IsReached eq none items of firsts n count

module _ {X : Type 0} (eq : X → X → Bool) (decides : (x y : X) → Decides (eq x y) (x ≡ y)) (none : X) (items : List X) (of firsts : List ℕ) (are : AreClasses none items of firsts) where
  one_more : (n : ℕ) → n < length items → first_items eq (take (n + 1) items) ≡ with_item eq (first_items eq (take n items)) (get_or items n none)
  one_more n h = ap (first_items eq) (take_more items n none h) ∙ fold_push (with_item eq) [] (take n items) (get_or items n none)

  -- an item of a class that is there
  there : (n c : ℕ) → n < length items → IsReached eq none items of firsts n c → get_or of n 0 < c → IsReached eq none items of firsts (n + 1) c
  there n c h so low =
      let k = get_or of n 0 in
      let x = get_or items n none in
      let f = λ (p : ℕ). get_or items p none in
      let found = map f (take c firsts) in
      let long : length (take c firsts) ≡ c = length-take-le c firsts so.few in
      let at : get_or found k none ≡ get_or items (get_or firsts k 0) none = get_or-map f (take c firsts) k 0 none (omega (arith, long)) ∙ ap f (get_or-take c firsts k 0 low) in
      let equal : x ≡ get_or items (get_or firsts k 0) none = are.same n (get_or firsts k 0) h (are.place k (omega (arith, so.few))) (sym (are.at k (omega (arith, so.few)))) in
      let passes : eq x (get_or found k none) ≡ true = (decides x (get_or found k none)).1 (equal ∙ sym at) in
      let any : list_any (eq x) found ≡ true = list_any_at (eq x) found k none (omega (arith, length-map (take c firsts) f, long)) passes in
      record {
        few = so.few;
        below = λ i p. elim (cases_lt i n) [ inl less ↦ so.below i less | inr more ↦ (let e : i ≡ n = omega arith in rw e low) ];
        before = λ j p. omega (arith, so.before j p);
        found = one_more n h ∙ rw (so.found, any) refl;
      }

  -- the first item of the next class
  next : (n c : ℕ) → n < length items → IsReached eq none items of firsts n c → c ≤ get_or of n 0 → IsReached eq none items of firsts (n + 1) (c + 1)
  next n c h so high =
      let k = get_or of n 0 in
      let x = get_or items n none in
      let f = λ (p : ℕ). get_or items p none in
      let found = map f (take c firsts) in
      let inside : k < length firsts = are.within n h in
      let place : get_or firsts k 0 ≡ n = elim (cases_order (get_or firsts k 0) n) [
        | inl e ↦ e
        | inr (inl less) ↦ absurd (omega (arith, so.below (get_or firsts k 0) less, are.at k inside))
        | inr (inr more) ↦ absurd (omega (arith, are.first k n inside more))
      ] in
      let last : k ≡ c = elim (cases_order k c) [
        | inl e ↦ e
        | inr (inl less) ↦ absurd (omega arith)
        | inr (inr more) ↦ (
            let inner : c < length firsts = omega arith in
            elim (cases_order (get_or firsts c 0) n) [
              | inl e ↦ absurd (omega (arith, are.at c inner, ap (λ i. get_or of i 0) e))
              | inr (inl less) ↦ absurd (omega (arith, so.below (get_or firsts c 0) less, are.at c inner))
              | inr (inr above) ↦ absurd (omega (arith, are.first c n inner above))
            ])
      ] in
      let here : get_or firsts c 0 ≡ n = ap (λ i. get_or firsts i 0) (sym last) ∙ place in
      let long : length (take c firsts) ≡ c = length-take-le c firsts so.few in
      let none_is : list_any (eq x) found ≡ false = list_any_none (eq x) found (λ j d p.
      let low : j < c = omega (arith, p, length-map (take c firsts) f, long) in
      let at : get_or found j d ≡ get_or items (get_or firsts j 0) none = get_or_default found j d none p ∙ get_or-map f (take c firsts) j 0 none (omega (arith, long)) ∙ ap f (get_or-take c firsts j 0 low) in
      rw at (elim (cases_Bool (eq x (get_or items (get_or firsts j 0) none))) [
        | inl hit ↦ absurd (
            let equal : x ≡ get_or items (get_or firsts j 0) none = (decides x (get_or items (get_or firsts j 0) none)).0 hit in
            let same : k ≡ get_or of (get_or firsts j 0) 0 = are.alike n (get_or firsts j 0) h (are.place j (omega (arith, so.few))) equal in
            omega (arith, same, are.at j (omega (arith, so.few))))
        | inr miss ↦ miss
      ])) in
      let more : map f (take (c + 1) firsts) ≡ found ++ f (get_or firsts c 0) ∷ [] = map_more f firsts c 0 (omega arith) in
      record {
        few = omega arith;
        below = λ i p. elim (cases_lt i n) [ inl less ↦ omega (arith, so.below i less) | inr above ↦ (let e : i ≡ n = omega arith in rw e (omega arith)) ];
        before = λ j p. elim (cases_lt j c) [ inl less ↦ omega (arith, so.before j less) | inr above ↦ (let e : j ≡ c = omega arith in rw (e, here) (omega arith)) ];
        found = one_more n h ∙ rw (so.found, none_is, more, here) refl;
      }

  step : (n : ℕ) → n < length items → Reach eq none items of firsts n → Reach eq none items of firsts (n + 1)
  step n h so = elim (cases_lt (get_or of n 0) so.count) [
    | inl low ↦ record { count = so.count; is = there n so.count h so.is low }
    | inr high ↦ record { count = so.count + 1; is = next n so.count h so.is high }
  ]

  reach : (n : ℕ) → n ≤ length items → Reach eq none items of firsts n
  reach zero h = record { count = 0; is = record { few = omega arith; below = λ i p. absurd (omega arith); before = λ k p. absurd (omega arith); found = refl } }
  reach (suc n) h = subst (Reach eq none items of firsts) (add-one n) (step n (omega arith) (reach n (omega arith)))

  -- the items at the first places are the items at their first occurrences
  pub first_items-classes : map (λ p. get_or items p none) firsts ≡ first_items eq items
  first_items-classes =
      let so = reach (length items) (omega arith) in
      let all : length firsts ≤ so.count = elim (cases_lt so.count (length firsts)) [
        | inl less ↦ absurd (omega (arith, so.is.below (get_or firsts so.count 0) (are.place so.count less), are.at so.count less))
        | inr done ↦ done
      ] in
      ap (map (λ p. get_or items p none)) (sym (take_all so.count firsts all)) ∙ sym so.is.found ∙ ap (first_items eq) (take_all (length items) items (omega arith))
