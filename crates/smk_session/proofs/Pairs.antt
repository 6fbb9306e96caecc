-- At most one brush of each pair of a view and a table is in force, and stays so.
use Rattle.std.proofs.{Common.{◌≡◌, ℕ, Bool, false, cond, List, [], ◌∷◌, map, refl, sym, ◌∙◌, nat_eq, inl, inr}, lemmas.Bool.{cases_Bool, eqb-true, eq-eqb, and_parts}, lemmas.Map.Keys.{IsDistinct-cons, IsDistinct-head, IsDistinct-push, IsDistinct-tail}}
use Rattle.std.specs.{Cmp.{IsEquivalence, nat_eq_equiv}, List.{filter, list_any, AllByRecursion, IsDistinct}}
use Rattle.smk_base.specs.declared.brush.BrushOn.{BrushOn}
use Rattle.smk_model.specs.Session.{is_brush, with_brush, without_brush}
use Rattle.smk_session.specs.Sessions.{same_pair}

same_pair_laws : IsEquivalence same_pair
same_pair_laws = record {
  refl = λ x. rw (eq-eqb x.view x.view refl, eq-eqb x.table x.table refl) refl;
  symm = λ x y. rw (nat_eq_equiv.symm y.view x.view, nat_eq_equiv.symm y.table x.table) refl;
  congr = λ x y z is.
      let h = and_parts (nat_eq y.view x.view) (nat_eq y.table x.table) is in
      rw (sym (eqb-true y.view x.view h.0), sym (eqb-true y.table x.table h.1)) refl;
}

none_kept : {X : Type 0} (P : X → Type 0) (test : X → Bool) (xs : List X) → AllByRecursion P xs → AllByRecursion P (filter test xs)
none_kept P test [] all = tt
none_kept P test (x ∷ xs) all = elim (cases_Bool (test x)) [
  | inl h ↦ rw h (all.0, none_kept P test xs all.1)
  | inr h ↦ rw h (none_kept P test xs all.1)
]

distinct_kept : {X : Type 0} (eq : X → X → Bool) (test : X → Bool) (xs : List X) → IsDistinct eq xs → IsDistinct eq (filter test xs)
distinct_kept eq test [] d = d
distinct_kept eq test (x ∷ xs) d = elim (cases_Bool (test x)) [
  | inl h ↦ rw h (IsDistinct-cons eq x (filter test xs) (none_kept (λ y. eq x y ≡ false) test xs (IsDistinct-head eq x xs d)) (distinct_kept eq test xs (IsDistinct-tail eq x xs d)))
  | inr h ↦ rw h (distinct_kept eq test xs (IsDistinct-tail eq x xs d))
]

-- images that are alike exactly where what they are made of is alike

none_mapped : {X : Type 0} (eq : X → X → Bool) (f : X → X) → ((x y : X) → eq (f x) (f y) ≡ eq x y) → (x : X) (xs : List X) → AllByRecursion (λ y. eq x y ≡ false) xs → AllByRecursion (λ y. eq (f x) y ≡ false) (map f xs)
none_mapped eq f same x [] all = tt
none_mapped eq f same x (y ∷ ys) all = (same x y ∙ all.0, none_mapped eq f same x ys all.1)

distinct_mapped : {X : Type 0} (eq : X → X → Bool) (f : X → X) → ((x y : X) → eq (f x) (f y) ≡ eq x y) → (xs : List X) → IsDistinct eq xs → IsDistinct eq (map f xs)
distinct_mapped eq f same [] d = d
distinct_mapped eq f same (x ∷ xs) d = IsDistinct-cons eq (f x) (map f xs) (none_mapped eq f same x xs (IsDistinct-head eq x xs d)) (distinct_mapped eq f same xs (IsDistinct-tail eq x xs d))

abbrev replaced_by : BrushOn → BrushOn → BrushOn
replaced_by brush old = cond (is_brush brush.view brush.table old) brush old

same_replaced : (brush x y : BrushOn) → same_pair (replaced_by brush x) (replaced_by brush y) ≡ same_pair x y
same_replaced brush x y = second x y ∙ first x y
  where
    first : (x y : BrushOn) → same_pair (replaced_by brush x) y ≡ same_pair x y
    first x y = elim (cases_Bool (is_brush brush.view brush.table x)) [
      | inl h ↦ rw h (same_pair_laws.congr brush x y h)
      | inr h ↦ rw h refl
    ]

    second : (x y : BrushOn) → same_pair (replaced_by brush x) (replaced_by brush y) ≡ same_pair (replaced_by brush x) y
    second x y = elim (cases_Bool (is_brush brush.view brush.table y)) [
      | inl h ↦ rw h (same_pair_laws.symm (replaced_by brush x) brush ∙ same_pair_laws.congr brush y (replaced_by brush x) h ∙ same_pair_laws.symm y (replaced_by brush x))
      | inr h ↦ rw h refl
    ]

pub with_one_a_pair : (brush : BrushOn) (brushes : List BrushOn) → IsDistinct same_pair brushes → IsDistinct same_pair (with_brush brush brushes)
with_one_a_pair brush brushes d = elim (cases_Bool (list_any (is_brush brush.view brush.table) brushes)) [
  | inl h ↦ rw h (distinct_mapped same_pair (replaced_by brush) (same_replaced brush) brushes d)
  | inr h ↦ rw h (IsDistinct-push same_pair_laws brushes brush d h)
]

pub without_one_a_pair : (v t : ℕ) (brushes : List BrushOn) → IsDistinct same_pair brushes → IsDistinct same_pair (without_brush v t brushes)
without_one_a_pair v t brushes d = distinct_kept same_pair _ brushes d

pub none_a_pair : IsDistinct same_pair []
unfolding IsDistinct
none_a_pair = tt
