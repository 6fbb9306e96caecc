-- Classes against the definition in list words.
use Rattle.std.proofs.{Common.{◌≡◌, ℕ, zero, suc, ◌<◌, Bool, false, List, [], length, map, get_or, nat_eq, refl, ap, sym, subst, ◌∙◌, arith, Decides, inl, inr, add-one}, lemmas.Bool.cases_Bool, lemmas.Grind.same_number_lists, lemmas.List.{get_or-map, length-map}, lemmas.List.Sums.position_or_len_is}
use Rattle.std.specs.{Cmp.unsigned_Decides, List.position_or_len}
use Rattle.smk_keys.specs.{Classes.{ClassesImage, first_items, classing_of}, Numbers.AreNumbers}
use Rattle.smk_keys.proofs.{Firsts.{AreClasses, AreClasses-alike, first_items-classes}, Numbered.{IsNumbered, IsNumbered-none, IsNumbered-more, AreClasses-numbered}}

module _ {X : Type 0} (eq : X → X → Bool) (decides : (x y : X) → Decides (eq x y) (x ≡ y)) (none : X) (items : List X) where
  differ : (x y : X) → (x ≡ y → ⊥) → eq x y ≡ false
  differ x y apart = elim (cases_Bool (eq x y)) [ inl hit ↦ absurd (apart ((decides x y).0 hit)) | inr miss ↦ miss ]

  module _ (of firsts : List ℕ) (are : AreClasses none items of firsts) where
    -- the class of an item is its place among the items at the first places
    place_among : (i : ℕ) → i < length items → position_or_len (eq (get_or items i none)) (map (λ p. get_or items p none) firsts) ≡ get_or of i 0
    place_among i h =
        let found = map (λ (p : ℕ). get_or items p none) firsts in
        let long : length found ≡ length firsts = length-map firsts (λ (p : ℕ). get_or items p none) in
        let inside : get_or of i 0 < length firsts = are.within i h in
        let at : (k : ℕ) → k < length firsts → get_or found k none ≡ get_or items (get_or firsts k 0) none = (λ k q. get_or-map (λ (p : ℕ). get_or items p none) firsts k 0 none q) in
        position_or_len_is (eq (get_or items i none)) found (get_or of i 0) none (omega arith)
        (λ k q. ap (eq (get_or items i none)) (at k (omega arith)) ∙ differ (get_or items i none) (get_or items (get_or firsts k 0) none)
        (λ e. absurd (omega (arith, are.alike i (get_or firsts k 0) h (are.place k (omega arith)) e, are.at k (omega arith)))))
        (λ q. ap (eq (get_or items i none)) (at (get_or of i 0) inside) ∙ (decides (get_or items i none) (get_or items (get_or firsts (get_or of i 0) 0) none)).1
        (are.same i (get_or firsts (get_or of i 0) 0) h (are.place (get_or of i 0) inside) (sym (are.at (get_or of i 0) inside))))

    -- a first place is the place of its item
    place_first : (k : ℕ) → k < length firsts → position_or_len (eq (get_or items (get_or firsts k 0) none)) items ≡ get_or firsts k 0
    place_first k h =
        let p = get_or firsts k 0 in
        let inside : p < length items = are.place k h in
        position_or_len_is (eq (get_or items p none)) items p none (omega arith)
        (λ j q. differ (get_or items p none) (get_or items j none) (λ e. absurd (omega (arith, are.alike p j inside (omega arith) e, are.at k h, are.first k j h q))))
        (λ q. (decides (get_or items p none) (get_or items p none)).1 refl)

    of-is : of ≡ map (λ item. position_or_len (eq item) (first_items eq items)) items
    of-is =
        let f = λ (item : X). position_or_len (eq item) (first_items eq items) in
        let found = first_items-classes eq decides none items of firsts are in
        let long : length (map f items) ≡ length items = length-map items f in
        same_number_lists of (map f items) (omega (arith, are.long))
        (λ k h. sym (get_or-map f items k none 0 (omega (arith, are.long)) ∙ ap (position_or_len (eq (get_or items k none))) (sym found) ∙ place_among k (omega (arith, are.long))))

    firsts-is : firsts ≡ map (λ item. position_or_len (eq item) items) (first_items eq items)
    firsts-is =
        let f = λ (item : X). position_or_len (eq item) items in
        let g = λ (p : ℕ). get_or items p none in
        let found = first_items-classes eq decides none items of firsts are in
        let long : length (map f (map g firsts)) ≡ length firsts = length-map (map g firsts) f ∙ length-map firsts g in
        same_number_lists firsts (map f (map g firsts)) (sym long)
        (λ k h. sym (get_or-map f (map g firsts) k none 0 (omega (arith, length-map firsts g)) ∙ ap f (get_or-map g firsts k 0 none h) ∙ place_first k h))
        ∙ ap (map f) found

    -- classes are those of the definition
    pub classing-classes : (made : ClassesImage) → made.of ≡ of → made.firsts ≡ firsts → made ≡ classing_of eq items
    classing-classes made p q = (λ t. record { of = (p ∙ of-is) t; firsts = (q ∙ firsts-is) t })

  record Run (n : ℕ) : Type 0 where
    of : List ℕ
    firsts : List ℕ
    keys : List X
    is : IsNumbered eq none items n of firsts keys

  run : (n : ℕ) → Run n
  run zero = record { of = []; firsts = []; keys = []; is = IsNumbered-none eq none items }
  run (suc n) =
      let so = run n in
      subst Run (add-one n) (record { of = _; firsts = _; keys = _; is = IsNumbered-more eq decides none items n so.of so.firsts so.keys so.is })

  -- the classes of the definition
  pub AreClasses-classing : AreClasses none items (classing_of eq items).of (classing_of eq items).firsts
  AreClasses-classing =
      let so = run (length items) in
      let are = AreClasses-numbered eq decides none items (length items) so.of so.firsts so.keys refl so.is in
      let same = classing-classes so.of so.firsts are (record { of = so.of; firsts = so.firsts }) refl refl in
      subst (λ (c : ClassesImage). AreClasses none items c.of c.firsts) same are

-- numbers of items have their classes
pub classing-numbers : {X : Type 0} (eq : X → X → Bool) (decides : (x y : X) → Decides (eq x y) (x ≡ y)) (none : X) (items : List X) (count : ℕ) (numbers : List ℕ) → AreNumbers none items count numbers → classing_of nat_eq numbers ≡ classing_of eq items
classing-numbers eq decides none items count numbers are =
    let these = classing_of nat_eq numbers in
    classing-classes eq decides none items these.of these.firsts
    (AreClasses-alike 0 none numbers items these.of these.firsts (sym are.long) (λ i j p q. are.same i j (omega (arith, are.long)) (omega (arith, are.long))) (λ i j p q. are.alike i j (omega (arith, are.long)) (omega (arith, are.long)))
    (AreClasses-classing nat_eq unsigned_Decides 0 numbers))
    these refl refl
