-- Equal rows, membership among rows, and first occurrences.
use Rattle.std.proofs.{Common.{◌≡◌, ◌≢◌, ℕ, ◌<◌, Bool, true, false, List, [], ◌∷◌, ◌++◌, length, map, refl, ap, sym, ◌∙◌, subst, nat_eq, inl, inr, ◌⊎◌}, lemmas.Slice.Eq.slice_eq-Decides, lemmas.List.map-id, lemmas.List.Folds.{list_any-append, list_any_at}, lemmas.Bool.{eqb-true, eq-eqb, cases_Bool, or_cases, or_left, or_right, false≢true}}
use Rattle.std.specs.{List.{list_any, filter, fold}, Bool.Decides}
use Rattle.smk_base.specs.{Values.value_same, Places.IsPlaces}
use Rattle.smk_model.specs.{Values.Row, Plain.{row_eq, add_first, firsts}, Lineage.{upto, places, has, row_at, sub}, CuiWidom.Holds}
use Rattle.smk_base.proofs.Places.{filter_map, at_places, has_filter, has_upto, same_below}

-- equal rows

pub row_same : (a b : Row) → Decides (row_eq a b) (a ≡ b)
row_same a b = slice_eq-Decides value_same a b (row_eq a b) refl

pub row_is : (a b : Row) → row_eq a b ≡ true → a ≡ b
row_is a b h = (row_same a b).0 h

pub row_itself : (a : Row) → row_eq a a ≡ true
row_itself a = (row_same a a).1 refl

-- membership

abbrev pub holds : List Row → Row → Bool
holds rows x = list_any (row_eq x) rows

pub holds_here : (x : Row) (rows : List Row) → holds (x ∷ rows) x ≡ true
holds_here x rows = or_left (row_eq x x) _ (row_itself x)

pub holds_single : (k x : Row) → holds (k ∷ []) x ≡ true → x ≡ k
holds_single k x h = elim (or_cases (row_eq x k) false h) [ inl e ↦ row_is x k e | inr r ↦ absurd (false≢true r) ]

pub holds_map : (f : Row → Row) (L : List Row) (A : List ℕ) (a : ℕ) → has A a ≡ true → holds (map f (sub L A)) (f (row_at L a)) ≡ true
holds_map f L [] a h = absurd (false≢true h)
holds_map f L (x ∷ xs) a h = elim (or_cases (nat_eq a x) _ h) [
  | inl e ↦ subst (λ (z : ℕ). holds (map f (sub L (x ∷ xs))) (f (row_at L z)) ≡ true) (sym (eqb-true a x e)) (holds_here (f (row_at L x)) _)
  | inr r ↦ or_right (row_eq (f (row_at L a)) (f (row_at L x))) _ (holds_map f L xs a r)
]

pub holds_place : (L : List Row) (A : List ℕ) (a : ℕ) → has A a ≡ true → holds (sub L A) (row_at L a) ≡ true
holds_place L A a h = subst (λ (z : List Row). holds z (row_at L a) ≡ true) (map-id (sub L A)) (holds_map (λ x. x) L A a h)

pub holds_left : (xs ys : List Row) (x : Row) → holds xs x ≡ true → holds (xs ++ ys) x ≡ true
holds_left xs ys x h = list_any-append (row_eq x) xs ys ∙ or_left (holds xs x) _ h

pub holds_right : (xs ys : List Row) (x : Row) → holds ys x ≡ true → holds (xs ++ ys) x ≡ true
holds_right xs ys x h = list_any-append (row_eq x) xs ys ∙ or_right (holds xs x) _ h

pub holds_some : (rows : List Row) (x : Row) → holds rows x ≡ true → rows ≢ []
holds_some [] x h e = false≢true h
holds_some (y ∷ ys) x h e = cc

pub holds_at : (rows : List Row) (o : ℕ) → o < length rows → holds rows (row_at rows o) ≡ true
holds_at rows o h = list_any_at (row_eq (row_at rows o)) rows o [] h (row_itself (row_at rows o))

-- a list has each member of its first occurrences, and the other way round

add_keeps : (found : List Row) (x y : Row) → holds found y ≡ true → holds (add_first found x) y ≡ true
add_keeps found x y h = elim (cases_Bool (holds found x)) [
  | inl p ↦ rw p h
  | inr p ↦ rw p (list_any-append (row_eq y) found (x ∷ []) ∙ or_left (holds found y) _ h)
]

add_has : (found : List Row) (x : Row) → holds (add_first found x) x ≡ true
add_has found x = elim (cases_Bool (holds found x)) [
  | inl p ↦ rw p p
  | inr p ↦ rw p (list_any-append (row_eq x) found (x ∷ []) ∙ or_right (holds found x) _ (holds_here x []))
]

pub fold_keeps : (found xs : List Row) (y : Row) → holds found y ≡ true → holds (fold add_first found xs) y ≡ true
fold_keeps found [] y h = h
fold_keeps found (x ∷ xs) y h = fold_keeps (add_first found x) xs y (add_keeps found x y h)

pub fold_holds : (found xs : List Row) (y : Row) → holds xs y ≡ true → holds (fold add_first found xs) y ≡ true
fold_holds found [] y h = absurd (false≢true h)
fold_holds found (x ∷ xs) y h = elim (or_cases (row_eq y x) _ h) [
  | inl e ↦ fold_keeps (add_first found x) xs y (rw (row_is y x e) (add_has found x))
  | inr r ↦ fold_holds (add_first found x) xs y r
]

pub firsts_holds : (xs : List Row) (y : Row) → holds xs y ≡ true → holds (firsts xs) y ≡ true
firsts_holds xs y h = fold_holds [] xs y h

add_from : (found : List Row) (x y : Row) → holds (add_first found x) y ≡ true → (holds found y ≡ true) ⊎ (y ≡ x)
add_from found x y h = elim (cases_Bool (holds found x)) [
  | inl p ↦ (let h2 : holds found y ≡ true = rw p at h in inl h2)
  | inr p ↦ (let h2 : holds (found ++ x ∷ []) y ≡ true = rw p at h in
      elim (or_cases (holds found y) (holds (x ∷ []) y) (sym (list_any-append (row_eq y) found (x ∷ [])) ∙ h2)) [ inl q ↦ inl q | inr q ↦ inr (holds_single x y q) ])
]

fold_from : (found xs : List Row) (y : Row) → holds (fold add_first found xs) y ≡ true → (holds found y ≡ true) ⊎ (holds xs y ≡ true)
fold_from found [] y h = inl h
fold_from found (x ∷ xs) y h = elim (fold_from (add_first found x) xs y h) [
  | inl q ↦ elim (add_from found x y q) [ inl r ↦ inl r | inr e ↦ inr (or_left (row_eq y x) _ (rw e (row_itself x))) ]
  | inr q ↦ inr (or_right (row_eq y x) _ q)
]

pub firsts_from : (xs : List Row) (y : Row) → holds (firsts xs) y ≡ true → holds xs y ≡ true
firsts_from xs y h = elim (fold_from [] xs y h) [ inl q ↦ absurd (false≢true q) | inr q ↦ q ]

-- the first occurrences among rows that are all k

pub add_known : (found : List Row) (x : Row) → holds found x ≡ true → add_first found x ≡ found
add_known found x h = rw h refl

once_more : (k : Row) (xs : List Row) → fold add_first (k ∷ []) (filter (row_eq k) xs) ≡ k ∷ []
once_more k [] = refl
once_more k (x ∷ xs) = elim (cases_Bool (row_eq k x)) [
  | inl p ↦ rw p (ap (λ t. fold add_first t (filter (row_eq k) xs)) (add_known (k ∷ []) x (subst (λ (z : Row). holds (k ∷ []) z ≡ true) (row_is k x p) (holds_here k []))) ∙ once_more k xs)
  | inr p ↦ rw p (once_more k xs)
]

pub once : (k : Row) (xs : List Row) → holds xs k ≡ true → firsts (filter (row_eq k) xs) ≡ k ∷ []
once k [] h = absurd (false≢true h)
once k (x ∷ xs) h = elim (or_cases (row_eq k x) _ h) [
  | inl p ↦ rw p (rw (sym (row_is k x p)) (once_more k xs))
  | inr r ↦ elim (cases_Bool (row_eq k x)) [ inl p ↦ rw p (rw (sym (row_is k x p)) (once_more k xs)) | inr p ↦ rw p (once k xs r) ]
]

-- the rows whose key is k

pub key_there : (f : Row → Row) (L : List Row) (k : Row) → holds (map f L) k ≡ true → holds (map f (filter (λ row. row_eq k (f row)) L)) k ≡ true
key_there f [] k h = absurd (false≢true h)
key_there f (x ∷ xs) k h = elim (cases_Bool (row_eq k (f x))) [
  | inl p ↦ rw p (or_left (row_eq k (f x)) _ p)
  | inr p ↦ (let h2 : holds (map f xs) k ≡ true = rw p at h in rw p (key_there f xs k h2))
]

pub sub_key : (f : Row → Row) (L : List Row) (k : Row) → sub L (places (λ i. row_eq k (f (row_at L i))) (length L)) ≡ filter (λ row. row_eq k (f row)) L
sub_key f L k = at_places (λ row. row_eq k (f row)) L []

pub keys_once : (f : Row → Row) (L : List Row) (k : Row) → holds (map f L) k ≡ true → firsts (map f (filter (λ row. row_eq k (f row)) L)) ≡ k ∷ []
keys_once f L k h = rw (sym (filter_map (row_eq k) f L)) (once k (map f L) h)

-- a place with that key
pub place_of : (f : Row → Row) (L : List Row) (A : List ℕ) (k : Row) → holds (map f (sub L A)) k ≡ true → (a : ℕ) × (has A a ≡ true) × (f (row_at L a) ≡ k)
place_of f L [] k h = absurd (false≢true h)
place_of f L (x ∷ xs) k h = elim (or_cases (row_eq k (f (row_at L x))) _ h) [
  | inl e ↦ (x, or_left (nat_eq x x) _ (eq-eqb x x refl), sym (row_is k _ e))
  | inr r ↦ (let s = place_of f L xs k r in (s.0, or_right (nat_eq s.0 x) _ s.1, s.2))
]

-- places that hold all that pass, and only such, are those that pass
pub only_passing : (n : ℕ) (t : ℕ → Bool) (A : List ℕ) → IsPlaces n A → Holds A (places t n) → ((i : ℕ) → has A i ≡ true → t i ≡ true) → A ≡ places t n
only_passing n t A is all only = sym is ∙ same_below (has A) t n (λ k l. elim (cases_Bool (t k)) [
  | inl p ↦ all k (has_filter t (upto n) k (has_upto n k l) p) ∙ sym p
  | inr p ↦ elim (cases_Bool (has A k)) [ inl q ↦ absurd (false≢true (sym p ∙ only k q)) | inr q ↦ q ∙ sym p ]
])

-- places that hold those of the key k, and all have one key, are those of k
pub all_of_key : (f : Row → Row) (L : List Row) (k k' : Row) (A A' : List ℕ) → IsPlaces (length L) A' → A ≡ places (λ i. row_eq k (f (row_at L i))) (length L)
    → holds (map f L) k ≡ true → Holds A' A → firsts (map f (sub L A')) ≡ k' ∷ [] → A' ≡ A
all_of_key f L k k' A A' is e h all one =
    let some = place_of f L A k (subst (λ (z : List Row). holds (map f z) k ≡ true) (sym (ap (sub L) e ∙ sub_key f L k)) (key_there f L k h)) in
    let here : holds (firsts (map f (sub L A'))) k ≡ true =
    subst (λ (z : Row). holds (firsts (map f (sub L A'))) z ≡ true) some.2 (firsts_holds (map f (sub L A')) (f (row_at L some.0)) (holds_map f L A' some.0 (all some.0 some.1))) in
    let same : k ≡ k' = holds_single k' k (subst (λ (z : List Row). holds z k ≡ true) one here) in
    only_passing (length L) (λ i. row_eq k (f (row_at L i))) A' is (subst (λ (z : List ℕ). Holds A' z) e all) (λ i q.
    let mine : f (row_at L i) ≡ k' = holds_single k' _ (subst (λ (z : List Row). holds z (f (row_at L i)) ≡ true) one (firsts_holds (map f (sub L A')) (f (row_at L i)) (holds_map f L A' i q))) in
    (row_same k (f (row_at L i))).1 (same ∙ sym mine)) ∙ sym e

pub fold_append : (found xs ys : List Row) → fold add_first found (xs ++ ys) ≡ fold add_first (fold add_first found xs) ys
fold_append found [] ys = refl
fold_append found (x ∷ xs) ys = fold_append (add_first found x) xs ys

-- adding the first occurrences of a list is adding the list
pub add_firsts : (found seen xs : List Row) → fold add_first found (fold add_first seen xs) ≡ fold add_first (fold add_first found seen) xs
add_firsts found seen [] = refl
add_firsts found seen (x ∷ xs) = add_firsts found (add_first seen x) xs ∙ ap (λ t. fold add_first t xs) (add_one found seen x)
  where
    add_one : (found seen : List Row) (x : Row) → fold add_first found (add_first seen x) ≡ add_first (fold add_first found seen) x
    add_one found seen x = elim (cases_Bool (holds seen x)) [
      | inl p ↦ rw p (sym (add_known (fold add_first found seen) x (fold_holds found seen x p)))
      | inr p ↦ rw p (fold_append found seen (x ∷ []))
    ]
