-- The least and the greatest of some values are different exactly where two of the values are.
use Rattle.std.proofs.{Common.{◌≡◌, ◌≢◌, Bool, true, false, not, List, [], ◌∷◌, refl, ap, sym, ◌∙◌, ◌||◌, inl, inr, ◌⊎◌, true≢false}, lemmas.Cmp.{int_cmp_total, nat_list_cmp_total, upto, tied_itself}, lemmas.Map.Lookups.{exact_signed, exact_bytes}, lemmas.Bool.cases_Bool}
use Rattle.std.specs.{List.{list_any, fold}, declared.cmp.Ordering.Ordering, declared.cmp.Ordering.TheVariants.{Less, Equal, Greater}, Ordering.{is_lt, is_gt, is_ne, ordering_reverse}, Cmp.IsTotalOrder}
use Rattle.smk_base.specs.{Values.{value_eq, value_same}, declared.value.Value.Value, declared.value.Value.TheVariants.{Int, Text}}
use Rattle.smk_model.specs.{Values.value_cmp, Plain.{lesser, greater, combined}, Dependencies.differ}
use Rattle.smk_model.proofs.Anys.{or_false}

-- the order of values is total, and ties equal values alone

antisymm : (x y : Value) → value_cmp x y ≡ ordering_reverse (value_cmp y x)
antisymm (Int a) (Int b) = int_cmp_total.antisymm a b
antisymm (Text a) (Text b) = nat_list_cmp_total.antisymm a b
antisymm _ _ = refl

trans : (x y z : Value) → value_cmp x y ≡ Less → value_cmp y z ≡ Less → value_cmp x z ≡ Less
trans (Int a) (Int b) (Int c) h k = int_cmp_total.trans a b c h k
trans (Int a) (Text b) (Int c) h k = absurd (cc)
trans (Text a) (Int b) z h k = absurd (cc)
trans (Text a) (Text b) (Int c) h k = absurd (cc)
trans (Text a) (Text b) (Text c) h k = nat_list_cmp_total.trans a b c h k
trans (Int a) _ (Text c) h k = refl

congr : (x y z : Value) → value_cmp x y ≡ Equal → value_cmp x z ≡ value_cmp y z
congr (Int a) (Int b) (Int c) h = int_cmp_total.congr a b c h
congr (Int a) (Text b) z h = absurd (cc)
congr (Text a) (Int b) z h = absurd (cc)
congr (Text a) (Text b) (Text c) h = nat_list_cmp_total.congr a b c h
congr _ _ _ h = refl

pub value_order : IsTotalOrder value_cmp
value_order = record { antisymm = antisymm; trans = trans; congr = congr }

exact : (x y : Value) → value_cmp x y ≡ Equal → x ≡ y
exact (Int a) (Int b) h = ap Int (exact_signed a b h)
exact (Int a) (Text b) h = absurd (cc)
exact (Text a) (Int b) h = absurd (cc)
exact (Text a) (Text b) h = ap Text (exact_bytes a b h)

itself : (x : Value) → value_cmp x x ≡ Equal
itself x = tied_itself value_order x

same_itself : (x : Value) → value_eq x x ≡ true
same_itself x = (value_same x x).1 refl

-- an order that isn't a tie tells values apart
apart : (x y : Value) → value_cmp x y ≢ Equal → value_eq x y ≡ false
apart x y h = elim (cases_Bool (value_eq x y)) [
  | inl p ↦ absurd (h (ap (value_cmp x) (sym ((value_same x y).0 p)) ∙ itself x))
  | inr p ↦ p
]

cases : (o : Ordering) → (o ≡ Less) ⊎ ((o ≡ Equal) ⊎ (o ≡ Greater))
cases Less = inl refl
cases Equal = inr (inl refl)
cases Greater = inr (inr refl)

backwards : (a b : Value) → value_cmp a b ≡ Greater → value_cmp b a ≡ Less
backwards a b h = antisymm b a ∙ ap ordering_reverse h

forwards : (a b : Value) → value_cmp a b ≡ Less → value_cmp b a ≡ Greater
forwards a b h = antisymm b a ∙ ap ordering_reverse h

-- below what is not above
strict : (v a b : Value) → value_cmp v a ≡ Less → is_gt (value_cmp a b) ≡ false → value_cmp v b ≡ Less
strict v a b h k = elim (cases (value_cmp v b)) [
  | inl p ↦ p
  | inr q ↦ elim q [
    | inl p ↦ absurd (true≢false (sym (ap is_gt (ap (value_cmp a) (sym (exact v b p)) ∙ forwards v a h)) ∙ k))
    | inr p ↦ absurd (true≢false (sym (ap is_gt p) ∙ upto value_order v a b (ap is_gt h) k))
  ]
]

or_true : (b : Bool) → (b || true) ≡ true
or_true true = refl
or_true false = refl

lesser_less : (a v : Value) → value_cmp v a ≡ Less → lesser a v ≡ v
lesser_less a v h = rw h refl

lesser_else : (a v : Value) → is_lt (value_cmp v a) ≡ false → lesser a v ≡ a
lesser_else a v h = rw h refl

greater_more : (b v : Value) → is_gt (value_cmp v b) ≡ true → greater b v ≡ v
greater_more b v h = rw h refl

greater_else : (b v : Value) → is_gt (value_cmp v b) ≡ false → greater b v ≡ b
greater_else b v h = rw h refl

-- one more value: the least stays at most the greatest, and they differ where they did or where the value is another than the least
abbrev Spreads : Value → Value → Value → Type 0
Spreads a b v = (is_gt (value_cmp (lesser a v) (greater b v)) ≡ false) × (is_ne (value_cmp (lesser a v) (greater b v)) ≡ (is_ne (value_cmp a b) || not (value_eq a v)))

one_more : (a b v : Value) → is_gt (value_cmp a b) ≡ false → Spreads a b v
one_more a b v k = elim (cases (value_cmp v a)) [
  | inl p ↦ (
      let low : value_cmp v b ≡ Less = strict v a b p k in
      let above : value_cmp a v ≡ Greater = forwards v a p in
      let other : value_eq a v ≡ false = apart a v (λ e. cc) in
      rw (lesser_less a v p, greater_else b v (ap is_gt low), low, other) (refl, sym (or_true _)))
  | inr q ↦ elim q [
    | inl p ↦ (
        let e : v ≡ a = exact v a p in
        rw e (rw (lesser_else a a (ap is_lt (itself a)), greater_else b a k, same_itself a) (k, sym (or_false _))))
    | inr p ↦ (
        let low : value_cmp a v ≡ Less = backwards v a p in
        let other : value_eq a v ≡ false = apart a v (λ e. cc) in
        elim (cases_Bool (is_gt (value_cmp v b))) [
          | inl g ↦ rw (lesser_else a v (ap is_lt p), greater_more b v g, low, other) (refl, sym (or_true _))
          | inr g ↦ rw (lesser_else a v (ap is_lt p), greater_else b v g, other) (k, ap is_ne (strict a v b low g) ∙ sym (or_true _))
        ])
  ]
]

-- the values of a list spread where those so far did, or where one of the list is another than the least
spread : (a b : Value) (vs : List Value) → is_gt (value_cmp a b) ≡ false → is_ne (value_cmp (fold lesser a vs) (fold greater b vs)) ≡ (is_ne (value_cmp a b) || list_any (λ v. not (value_eq a v)) vs)
spread a b [] k = sym (or_false _)
spread a b (v ∷ vs) k =
    let now = one_more a b v k in
    spread (lesser a v) (greater b v) vs now.0
    ∙ ap (λ t. t || list_any (λ w. not (value_eq (lesser a v) w)) vs) now.1
    ∙ elim (cases_Bool (value_eq a v)) [
      | inl p ↦ (
          let e : lesser a v ≡ a = rw (sym ((value_same a v).0 p)) (lesser_else a a (ap is_lt (itself a))) in
          rw (e, p) (ap (λ t. t || list_any (λ w. not (value_eq a w)) vs) (or_false _)))
      | inr p ↦ rw p (ap (λ t. t || list_any (λ w. not (value_eq (lesser a v) w)) vs) (or_true _) ∙ sym (or_true _))
    ]

-- where none is another than one value, no two are different
none_else : (v : Value) (ws vs : List Value) → list_any (λ w. not (value_eq v w)) ws ≡ false → list_any (λ w. not (value_eq v w)) vs ≡ false → list_any (λ x. list_any (λ w. not (value_eq x w)) ws) vs ≡ false
none_else v ws [] h k = refl
none_else v ws (x ∷ xs) h k = elim (cases_Bool (value_eq v x)) [
  | inl p ↦ (
      let e : v ≡ x = (value_same v x).0 p in
      let rest : list_any (λ w. not (value_eq v w)) xs ≡ false = rw p at k in
      let here : list_any (λ w. not (value_eq x w)) ws ≡ false = rw (sym e) h in
      rw (here, none_else v ws xs h rest) refl)
  | inr p ↦ (let bad : true ≡ false = rw p at k in absurd (true≢false bad))
]

differ_first : (v : Value) (vs : List Value) → differ (v ∷ vs) ≡ list_any (λ w. not (value_eq v w)) vs
differ_first v vs =
    let mine : list_any (λ w. not (value_eq v w)) (v ∷ vs) ≡ list_any (λ w. not (value_eq v w)) vs = rw (same_itself v) refl in
    elim (cases_Bool (list_any (λ w. not (value_eq v w)) vs)) [
      | inl p ↦ rw (mine ∙ p, p) refl
      | inr p ↦ none_else v (v ∷ vs) (v ∷ vs) (mine ∙ p) (mine ∙ p) ∙ sym p
    ]

pub extremes_apart : (v : Value) (vs : List Value) → is_ne (value_cmp (combined lesser (v ∷ vs)) (combined greater (v ∷ vs))) ≡ differ (v ∷ vs)
extremes_apart v vs = spread v v vs (ap is_gt (itself v)) ∙ ap (λ t. t || list_any (λ w. not (value_eq v w)) vs) (ap is_ne (itself v)) ∙ sym (differ_first v vs)
