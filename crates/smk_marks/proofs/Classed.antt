-- The classes of marks, and what is made class by class.
use Rattle.std.proofs.{Common.{◌≡◌, ℕ, suc, ◌<◌, ◌≤◌, List, [], ◌∷◌, ◌++◌, length, map, take, refl, ap, sym, ◌∙◌, subst, arith, get_or, nat_eq, inl, inr}, lemmas.List.{append-nil, length-map}, lemmas.List.Elements.All-map, lemmas.Bool.{cases_Bool, eqb-true, eq-eqb, false≢true, false_from_ne_true}}
use Rattle.std.specs.{Cmp.unsigned_Decides, List.All}
use Rattle.smk_base.specs.{Rels.{Relation, kind_in}, declared.book.plan.Agg.Agg, declared.value.Kind.Kind}
use Rattle.smk_model.specs.{Values.Row, Plain.aggregate, Lineage.{row_at, sub, upto}}
use Rattle.smk_base.proofs.Places.{map_map, map_upto, map_upto_agree, same_below}
use Rattle.smk_keys.specs.Classes.{ClassesImage, classing_of, first_items}
use Rattle.smk_keys.proofs.{Classing.AreClasses-classing, Firsts.{AreClasses, first_items-classes}, Placed.classes-numbers_alone}
use Rattle.smk_body.specs.Halves.{AreNumbered, class_places, class_values}
use Rattle.smk_body.proofs.{Besides.{map_same, related, relation}, Classing.are_numbered}
use Rattle.smk_marks.specs.Marks.{mark_row, with_mark}

pub map_below : {X : Type 0} (f g : ℕ → X) (n : ℕ) (A : List ℕ) → All (λ i. i < n) A → ((i : ℕ) → i < n → f i ≡ g i) → map f A ≡ map g A
map_below f g n [] all h = refl
map_below f g n (a ∷ A) all h = rw (h a (all 0 0 (omega arith)), map_below f g n A (λ i d l. all (suc i) d (omega arith)) h) refl

module _ (marks : List ℕ) where
  abbrev these : ClassesImage
  these = classing_of nat_eq marks

  are : AreClasses 0 marks these.of these.firsts
  are = AreClasses-classing nat_eq unsigned_Decides 0 marks

  pub numbered : AreNumbered (length marks) (classing_of nat_eq marks)
  numbered = subst (λ (n : ℕ). AreNumbered n these) (length-map marks mark_row) (subst (AreNumbered (length (map mark_row marks))) (sym (classes-numbers_alone marks)) (are_numbered (map mark_row marks)))

  -- the marks at the places where their classes come first
  pub firsts_are : map (λ p. get_or marks p 0) (classing_of nat_eq marks).firsts ≡ first_items nat_eq marks
  firsts_are = first_items-classes nat_eq unsigned_Decides 0 marks these.of these.firsts are

  pub first_marks_are : (P : ℕ → Type 0) → All P marks → All P (first_items nat_eq marks)
  first_marks_are P all = subst (All P) firsts_are (All-map P (λ p. get_or marks p 0) these.firsts (λ i d l. all (get_or these.firsts i d) 0 (numbered.within i d l)))

  pub few_marks : length (first_items nat_eq marks) ≤ length marks
  few_marks = omega (arith, ap length (sym firsts_are), length-map these.firsts (λ p. get_or marks p 0), numbered.few)

  -- a place has a class exactly where it has the mark of the class
  same_test : (p i : ℕ) → p < length these.firsts → i < length marks → nat_eq (get_or these.of i 0) p ≡ nat_eq (get_or marks i 0) (get_or marks (get_or these.firsts p 0) 0)
  same_test p i low here =
      let a = get_or these.of i 0 in
      let m = get_or marks i 0 in
      let j = get_or these.firsts p 0 in
      let there : j < length marks = are.place p low in
      elim (cases_Bool (nat_eq a p)) [
        | inl q ↦ q ∙ sym (eq-eqb m (get_or marks j 0) (are.same i j here there (eqb-true a p q ∙ sym (are.at p low))))
        | inr q ↦ q ∙ sym (false_from_ne_true (nat_eq m (get_or marks j 0)) (λ e. false≢true (sym q ∙ eq-eqb a p (are.alike i j here there (eqb-true m (get_or marks j 0) e) ∙ are.at p low))))
      ]

  -- an aggregate class by class is one mark by mark
  pub by_mark : (rows : List Row) (agg : Agg) → length marks ≡ length rows → class_values (classing_of nat_eq marks) rows agg ≡ map (λ m. aggregate (with_mark marks rows m) agg ∷ []) (first_items nat_eq marks)
  by_mark rows agg e =
      let first = λ (p : ℕ). get_or these.firsts p 0 in
      let value = λ (m : ℕ). aggregate (with_mark marks rows m) agg ∷ [] in
      let n = length these.firsts in
      map_upto_agree (λ p. aggregate (sub rows (class_places these.of (length rows) p)) agg ∷ []) (λ p. value (get_or marks (first p) 0)) n (λ p low.
      ap (λ (A : List ℕ). aggregate (sub rows A) agg ∷ []) (same_below (λ i. nat_eq (get_or these.of i 0) p) (λ i. nat_eq (get_or marks i 0) (get_or marks (first p) 0)) (length rows) (λ i l. same_test p i low (omega (arith, e)))))
      ∙ sym (map_map (λ q. value (get_or marks q 0)) first (upto n)) ∙ ap (map (λ q. value (get_or marks q 0))) (map_upto these.firsts 0)
      ∙ sym (map_map value (λ q. get_or marks q 0) these.firsts) ∙ ap (map value) firsts_are

-- a column of an aggregate, and the keys that it is put beside

pub column_marked : (ks : List Kind) (marks : List ℕ) (rows : List Row) (agg : Agg) (classes : ClassesImage) (column : Relation) → column ≡ relation ks (class_values classes rows agg) → classes ≡ classing_of nat_eq marks → length marks ≡ length rows
    → column ≡ relation ks (map (λ m. aggregate (with_mark marks rows m) agg ∷ []) (first_items nat_eq marks))
column_marked ks marks rows agg classes column is e long = is ∙ related refl (ap (λ (z : ClassesImage). class_values z rows agg) e ∙ by_mark marks rows agg long)

pub first_keys : (content : Relation) (k w : ℕ) (marks A : List ℕ) (made : Relation) → made ≡ relation (map (kind_in content.kinds) (upto w)) (map (λ m. take w (row_at content.rows m)) A) → w ≡ k → A ≡ first_items nat_eq marks
    → made ≡ relation (map (kind_in content.kinds) (upto k) ++ []) (map (λ m. take k (row_at content.rows m) ++ []) (first_items nat_eq marks))
first_keys content k w marks A made is width firsts =
    let F = λ (m : ℕ). take k (row_at content.rows m) in
    is ∙ ap (λ (n : ℕ). relation (map (kind_in content.kinds) (upto n)) (map (λ m. take n (row_at content.rows m)) A)) width
    ∙ ap (λ (B : List ℕ). relation (map (kind_in content.kinds) (upto k)) (map F B)) firsts
    ∙ related (sym (append-nil (map (kind_in content.kinds) (upto k)))) (map_same F (λ m. F m ++ []) (first_items nat_eq marks) (λ m. sym (append-nil (F m))))
