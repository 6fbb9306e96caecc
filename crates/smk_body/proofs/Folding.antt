-- One value for each class, place by place.
use Rattle.std.proofs.{Common.{◌≡◌, ◌≢◌, ◌∙◌, ◌<◌, ◌≤◌, ◌+◌, ℕ, zero, suc, ℤ, pos, ◌+ℤ◌, FitsSigned, Bool, true, false, cond, List, [], ◌∷◌, ◌++◌, length, map, refl, sym, ap, arith, All, get_or, set, nat_eq, inl, inr}, Math.ListN.replicate, lemmas.Int.ints, lemmas.List.{get_or-set_same, get_or-set_other, length-set, length-map, append-nil, same_lists, length_push, map-append, get_or-replicate, length-replicate, get_or_read, set-get_or}, lemmas.List.Elements.{filter-append, All-map, All-weaker, All-push}, lemmas.List.Sums.fold-append, lemmas.Bool.{cases_Bool, cases_eq, eq-eqb, ne_eqb}}
use Rattle.std.specs.{List.fold, Int.w128}
use Rattle.smk_base.specs.{declared.value.Value.Value, Places.{upto, places, has}, Rels.IsWithin}
use Rattle.smk_model.specs.{Plain.{total, combined}, Locals.singles}
use Rattle.smk_base.proofs.Places.{get_or_map_upto, map_upto_agree, places_below, same_below, places_false, upto_below, places_more, few_places}
use Rattle.smk_model.proofs.Directions.{length_each}
use Rattle.smk_body.proofs.{Fitting.total_within, Turning.single_at}
use Rattle.smk_keys.specs.Classes.{ClassesImage}
use Rattle.smk_rid.specs.Maps.{size_of, sizes_of}
use Rattle.smk_body.specs.Halves.{AreNumbered, class_places, better, improves_on, best_place, bests_of}

-- a change at one place of a value for each number
pub changed_one : {X : Type 0} (F G : ℕ → X) (n k : ℕ) (x : X) → k < n → x ≡ G k → ((p : ℕ) → p ≢ k → G p ≡ F p) → set (map F (upto n)) k x ≡ map G (upto n)
changed_one F G n k x low e same =
    let long : length (set (map F (upto n)) k x) ≡ n = length-set (map F (upto n)) k x ∙ length_each F n in
    same_lists (set (map F (upto n)) k x) (map G (upto n)) (long ∙ sym (length_each G n)) (λ p d h.
    let small : p < n = omega (arith, h, long) in
    elim (cases_eq p k) [
      | inl here ↦ ap (λ z. get_or (set (map F (upto n)) k x) z d) here ∙ get_or-set_same (map F (upto n)) k x d (omega (arith, low, length_each F n)) ∙ e ∙ ap G (sym here) ∙ sym (get_or_map_upto G n p d small)
      | inr there ↦ get_or-set_other (map F (upto n)) k p x d there ∙ get_or_map_upto F n p d small ∙ sym (same p there) ∙ sym (get_or_map_upto G n p d small)
    ])

-- one more place changes the value of its class alone
pub class_more : {X : Type 0} (F : ℕ → List ℕ → X) (of : List ℕ) (n i : ℕ) (x : X) → get_or of i 0 < n → x ≡ F (get_or of i 0) (class_places of i (get_or of i 0) ++ i ∷ [])
    → set (map (λ p. F p (class_places of i p)) (upto n)) (get_or of i 0) x ≡ map (λ p. F p (class_places of (i + 1) p)) (upto n)
class_more F of n i x low e =
    let k = get_or of i 0 in
    let more = λ (p : ℕ). places_more (λ (j : ℕ). nat_eq (get_or of j 0) p) i in
    changed_one (λ p. F p (class_places of i p)) (λ p. F p (class_places of (i + 1) p)) n k x low
    (e ∙ ap (F k) (sym (more k ∙ rw (eq-eqb k k refl) refl)))
    (λ p ne. ap (F p) (more p ∙ rw (ne_eqb k p (λ h. ne (sym h))) (append-nil (class_places of i p))))

pub constant : {X : Type 0} (x : X) (n : ℕ) → replicate n x ≡ map (λ p. x) (upto n)
constant x n = same_lists (replicate n x) (map (λ p. x) (upto n)) (length-replicate n x ∙ sym (length_each (λ p. x) n)) (λ p d h.
    let low : p < n = omega (arith, h, length-replicate n x) in
    get_or-replicate n p x d low ∙ sym (get_or_map_upto (λ p. x) n p d low))

-- counts, from the sizes of turned lists

sized : (of : List ℕ) (n k p : ℕ) → k ≤ length of → size_of (singles of n).lists k p ≡ length (class_places of k p)
sized of n k p h = ap length (same_below (λ i. has (get_or (singles of n).lists i []) p) (λ i. nat_eq (get_or of i 0) p) k (λ i l.
    ap (λ z. has z p) (single_at of n i (omega arith)) ∙ own_test (get_or of i 0) p))
  where
    own_test : (o p : ℕ) → has (o ∷ []) p ≡ nat_eq o p
    own_test o p = elim (cases_eq o p) [
      | inl e ↦ rw (eq-eqb p o (sym e), eq-eqb o p e) refl
      | inr ne ↦ rw (ne_eqb p o (λ h. ne (sym h)), ne_eqb o p ne) refl
    ]

pub sizes_are : (of : List ℕ) (n : ℕ) → sizes_of (singles of n) (length of) ≡ map (λ p. length (class_places of (length of) p)) (upto n)
sizes_are of n = map_upto_agree (size_of (singles of n).lists (length of)) (λ p. length (class_places of (length of) p)) n (λ p h. sized of n (length of) p (omega arith))

-- sums

abbrev pub int_at : List ℤ → ℕ → ℤ
int_at numbers i = get_or numbers i (pos 0)

abbrev pub sum_over : List ℤ → List ℕ → ℤ
sum_over numbers A = total (map (int_at numbers) A)

sum_more : (numbers : List ℤ) (A : List ℕ) (i : ℕ) → sum_over numbers (A ++ i ∷ []) ≡ sum_over numbers A +ℤ int_at numbers i
sum_more numbers A i = ap total (map-append (int_at numbers) A (i ∷ [])) ∙ fold-append ◌+ℤ◌ (pos 0) (map (int_at numbers) A) (int_at numbers i ∷ [])

-- the sum of few values of a level is of the next level
pub sum_within : (level : ℕ) (numbers : List ℤ) (A : List ℕ) → All (IsWithin level) numbers → All (λ i. i < length numbers) A → length A ≤ 1048576 → IsWithin (suc level) (sum_over numbers A)
sum_within level numbers A all low few =
    total_within level (map (int_at numbers) A) (All-map (IsWithin level) (int_at numbers) A (All-weaker (λ i. i < length numbers) (λ i. IsWithin level (int_at numbers i)) (λ i h. all i (pos 0) h) A low)) (rw length-map few)

fits_128 : (n : ℤ) → IsWithin 3 n → FitsSigned w128 n
fits_128 n w = omega (arith, ints)

fits_before : (n : ℤ) → IsWithin 2 n → FitsSigned w128 n
fits_before n w = omega (arith, ints)

class_low : (of : List ℕ) (i p n : ℕ) → i ≤ n → All (λ j. j < n) (class_places of i p)
class_low of i p n le = All-weaker (λ j. j < i) (λ j. j < n) (λ j h. omega arith) (class_places of i p) (places_below (λ j. nat_eq (get_or of j 0) p) i)

-- what a step of the sums has: all three numbers fit, and the sums are those of one more place
pub record SumStep (numbers : List ℤ) (of : List ℕ) (n i : ℕ) (S : List ℤ) (a b : ℤ) : Type 0 where
  pub old_fits : FitsSigned w128 a
  pub more_fits : FitsSigned w128 b
  pub new_fits : FitsSigned w128 (a +ℤ b)
  pub next : set S (get_or of i 0) (a +ℤ b) ≡ map (λ p. sum_over numbers (class_places of (i + 1) p)) (upto n)

pub sum_step : (numbers : List ℤ) (of : List ℕ) (n i : ℕ) (S : List ℤ) (a b : ℤ) → length of ≡ length numbers → length numbers ≤ 1048576 → All (IsWithin 2) numbers → All (λ p. p < n) of → i < length of
    → S ≡ map (λ p. sum_over numbers (class_places of i p)) (upto n) → a ≡ get_or S (get_or of i 0) a → b ≡ get_or numbers i b → SumStep numbers of n i S a b
sum_step numbers of n i S a b long few all below h e ea eb =
    let p = get_or of i 0 in
    let A = class_places of i p in
    let low : p < n = below i 0 h in
    let here : i < length numbers = omega (arith, long) in
    let old : a ≡ sum_over numbers A = ea ∙ ap (λ z. get_or z p a) e ∙ get_or_map_upto (λ p. sum_over numbers (class_places of i p)) n p a low in
    let more : b ≡ int_at numbers i = get_or_read numbers i b here eb (pos 0) in
    let new : a +ℤ b ≡ sum_over numbers (A ++ i ∷ []) = ap (λ z. z +ℤ b) old ∙ ap (λ z. sum_over numbers A +ℤ z) more ∙ sym (sum_more numbers A i) in
    let short : length A ≤ i = few_places (λ j. nat_eq (get_or of j 0) p) i in
    let lows : All (λ j. j < length numbers) (A ++ i ∷ []) = All-push (λ j. j < length numbers) A i (class_low of i p (length numbers) (omega arith)) here in
    record {
      old_fits = rw old (fits_128 (sum_over numbers A) (sum_within 2 numbers A all (class_low of i p (length numbers) (omega arith)) (omega arith)));
      more_fits = rw more (fits_before (int_at numbers i) (all i (pos 0) here));
      new_fits = rw new (fits_128 (sum_over numbers (A ++ i ∷ [])) (sum_within 2 numbers (A ++ i ∷ []) all lows (omega (arith, length_push A i))));
      next = ap (λ z. set z p (a +ℤ b)) e ∙ class_more (λ p A. sum_over numbers A) of n i (a +ℤ b) low new;
    }

-- best places

-- the value at the best place is the best of the values
pub best_value : (g : Bool) (V : ℕ → Value) (a : ℕ) (A : List ℕ) → V (best_place g V a A) ≡ fold (better g) (V a) (map V A)
best_value g V a [] = refl
best_value g V a (i ∷ A) = best_value g V (cond (improves_on g (V i) (V a)) i a) A ∙ ap (λ v. fold (better g) v (map V A)) (chosen g V a i)
  where
    chosen : (g : Bool) (V : ℕ → Value) (a i : ℕ) → V (cond (improves_on g (V i) (V a)) i a) ≡ better g (V a) (V i)
    chosen true V a i = elim (cases_Bool (improves_on true (V i) (V a))) [ inl e ↦ rw e refl | inr e ↦ rw e refl ]
    chosen false V a i = elim (cases_Bool (improves_on false (V i) (V a))) [ inl e ↦ rw e refl | inr e ↦ rw e refl ]

better_own : (g : Bool) (v : Value) → better g v v ≡ v
better_own true v = elim (cases_Bool (improves_on true v v)) [ inl e ↦ rw e refl | inr e ↦ rw e refl ]
better_own false v = elim (cases_Bool (improves_on false v v)) [ inl e ↦ rw e refl | inr e ↦ rw e refl ]

-- the first place that passes heads the places that pass
headed : (t : ℕ → Bool) (a n : ℕ) → t a ≡ true → ((j : ℕ) → j < a → t j ≡ false) → a < n → (more : List ℕ) × (places t n ≡ a ∷ more)
headed t a zero h none l = absurd (omega arith)
headed t a (suc n) h none l =
    let e : places t (suc n) ≡ places t n ++ cond (t n) (n ∷ []) [] = filter-append t (upto n) (n ∷ []) in
    elim (cases_eq a n) [
      | inl same ↦ ([], e ∙ ap (λ z. z ++ cond (t n) (n ∷ []) []) (same_below t (λ j. false) n (λ j low. none j (omega arith)) ∙ places_false n) ∙ ap (λ m. cond (t m) (m ∷ []) []) (sym same) ∙ rw h refl)
      | inr other ↦ (let rest = headed t a n h none (omega arith) in (rest.0 ++ cond (t n) (n ∷ []) [], e ∙ ap (λ z. z ++ cond (t n) (n ∷ []) []) rest.1))
    ]

-- the best over a class, from its first place
pub best_of_class : (g : Bool) (V : ℕ → Value) (t : ℕ → Bool) (a n : ℕ) → t a ≡ true → ((j : ℕ) → j < a → t j ≡ false) → a < n → V (best_place g V a (places t n)) ≡ combined (better g) (map V (places t n))
best_of_class g V t a n h none l =
    let split = headed t a n h none l in
    rw split.1 (best_value g V a (a ∷ split.0) ∙ ap (λ v. fold (better g) v (map V split.0)) (better_own g (V a)))

-- one place more
pub best_more : (g : Bool) (V : ℕ → Value) (a : ℕ) (A : List ℕ) (i : ℕ) → best_place g V a (A ++ i ∷ []) ≡ cond (improves_on g (V i) (V (best_place g V a A))) i (best_place g V a A)
best_more g V a A i = fold-append (λ (best : ℕ) (i : ℕ). cond (improves_on g (V i) (V best)) i best) a A (i ∷ [])

pub best_below : (g : Bool) (V : ℕ → Value) (a : ℕ) (A : List ℕ) (n : ℕ) → a < n → All (λ i. i < n) A → best_place g V a A < n
best_below g V a [] n l low = l
best_below g V a (i ∷ A) n l low = elim (cases_Bool (improves_on g (V i) (V a))) [
  | inl e ↦ rw e (best_below g V i A n (low 0 0 (omega arith)) (λ k d h. low (suc k) d (omega arith)))
  | inr e ↦ rw e (best_below g V a A n l (λ k d h. low (suc k) d (omega arith)))
]

-- the best places of all classes

pub bests_below : (g : Bool) (V : ℕ → Value) (classes : ClassesImage) (n i : ℕ) → AreNumbered n classes → i ≤ n → All (λ j. j < n) (bests_of g V classes i)
bests_below g V classes n i are le = All-map (λ j. j < n) (λ p. best_place g V (get_or classes.firsts p 0) (class_places classes.of i p)) (upto (length classes.firsts)) (λ k d h.
    let p = get_or (upto (length classes.firsts)) k d in
    let low : p < length classes.firsts = upto_below (length classes.firsts) k d h in
    best_below g V (get_or classes.firsts p 0) (class_places classes.of i p) n (are.within p 0 low) (class_low classes.of i p n le))

-- the best place so far of the next place's class
pub best_there : (g : Bool) (V : ℕ → Value) (classes : ClassesImage) (n i : ℕ) (S : List ℕ) (b : ℕ) (of : List ℕ) → AreNumbered n classes → i < n → S ≡ bests_of g V classes i → of ≡ classes.of → b ≡ get_or S (get_or of i 0) b
    → (b ≡ best_place g V (get_or classes.firsts (get_or of i 0) 0) (class_places classes.of i (get_or of i 0))) × (best_place g V (get_or classes.firsts (get_or of i 0) 0) (class_places classes.of i (get_or of i 0)) < n)
best_there g V classes n i S b of are l e same at =
    let p = get_or of i 0 in
    let low : p < length classes.firsts = rw same (are.below i 0 (omega (arith, are.long))) in (
      at ∙ ap (λ z. get_or z p b) e ∙ get_or_map_upto (λ p. best_place g V (get_or classes.firsts p 0) (class_places classes.of i p)) (length classes.firsts) p b low,
      best_below g V (get_or classes.firsts p 0) (class_places classes.of i p) n (are.within p 0 low) (class_low classes.of i p n (omega arith)),
    )

-- one place more, where it is better and where it isn't
pub best_step : (g : Bool) (V : ℕ → Value) (classes : ClassesImage) (n i : ℕ) (S : List ℕ) (b : ℕ) (of : List ℕ) → AreNumbered n classes → i < n → S ≡ bests_of g V classes i → of ≡ classes.of → b ≡ get_or S (get_or of i 0) b
    → set S (get_or of i 0) (cond (improves_on g (V i) (V b)) i b) ≡ bests_of g V classes (i + 1)
best_step g V classes n i S b of are l e same at =
    let p = get_or of i 0 in
    let q = get_or classes.of i 0 in
    let low : q < length classes.firsts = are.below i 0 (omega (arith, are.long)) in
    let there = best_there g V classes n i S b of are l e same at in
    let pq : p ≡ q = ap (λ z. get_or z i 0) same in
    let bq : b ≡ best_place g V (get_or classes.firsts q 0) (class_places classes.of i q) = there.0 ∙ ap (λ k. best_place g V (get_or classes.firsts k 0) (class_places classes.of i k)) pq in
    ap (λ z. set z p (cond (improves_on g (V i) (V b)) i b)) e ∙ ap (λ k. set (bests_of g V classes i) k (cond (improves_on g (V i) (V b)) i b)) pq
    ∙ class_more (λ p A. best_place g V (get_or classes.firsts p 0) A) classes.of (length classes.firsts) i (cond (improves_on g (V i) (V b)) i b) low
    (ap (λ k. cond (improves_on g (V i) (V k)) i k) bq ∙ sym (best_more g V (get_or classes.firsts q 0) (class_places classes.of i q) i))

pub class_known : {X : Type 0} (rows : List X) (classes : ClassesImage) (i : ℕ) (of : List ℕ) → AreNumbered (length rows) classes → i < length rows → of ≡ classes.of → get_or of i 0 < length classes.firsts
class_known rows classes i of are l same = rw same (are.below i 0 (omega (arith, are.long)))

-- what is read and written again stays
pub kept : (S : List ℕ) (p b : ℕ) → p < length S → b ≡ get_or S p b → set S p b ≡ S
kept S p b low at = ap (set S p) (get_or_read S p b low at 0) ∙ set-get_or S p 0

-- values that agree below n have the same best places
best_agrees : (g : Bool) (V W : ℕ → Value) (a : ℕ) (A : List ℕ) (n : ℕ) → ((i : ℕ) → i < n → V i ≡ W i) → a < n → All (λ i. i < n) A → best_place g V a A ≡ best_place g W a A
best_agrees g V W a [] n same l low = refl
best_agrees g V W a (i ∷ A) n same l low =
    let first = low 0 0 (omega arith) in
    let rest : All (λ j. j < n) A = λ k d h. low (suc k) d (omega arith) in
    let e : improves_on g (V i) (V a) ≡ improves_on g (W i) (W a) = ap (λ v. improves_on g v (V a)) (same i first) ∙ ap (improves_on g (W i)) (same a l) in
    elim (cases_Bool (improves_on g (W i) (W a))) [
      | inl t ↦ rw (e ∙ t, t) (best_agrees g V W i A n same first rest)
      | inr t ↦ rw (e ∙ t, t) (best_agrees g V W a A n same l rest)
    ]

pub bests_agree : (g : Bool) (V W : ℕ → Value) (classes : ClassesImage) (n m : ℕ) → n ≡ m → ((i : ℕ) → i < m → V i ≡ W i) → AreNumbered m classes → bests_of g V classes n ≡ bests_of g W classes m
bests_agree g V W classes n m e same are =
    ap (bests_of g V classes) e
    ∙ map_upto_agree (λ p. best_place g V (get_or classes.firsts p 0) (class_places classes.of m p)) (λ p. best_place g W (get_or classes.firsts p 0) (class_places classes.of m p)) (length classes.firsts)
    (λ p h. best_agrees g V W (get_or classes.firsts p 0) (class_places classes.of m p) m same (are.within p 0 h) (class_low classes.of m p m (omega arith)))
