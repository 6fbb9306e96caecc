-- What two ascending lists have in common, in one pass over both.
use Rattle.std.proofs.{Common.{◌≡◌, ℕ, ◌+◌, ◌<◌, ◌≤◌, ◌-◌, ◌&&◌, refl, All, Bool, true, false, cond, List, [], ◌∷◌, ◌++◌, length, take, get_or, ap, sym, ◌∙◌, arith, nat_eq, inl, inr}, lemmas.Bool.{cases_lt, eq-eqb, ne_eqb}, lemmas.List.{append-nil, get_or_default}, lemmas.List.Elements.{All-weaker, filter_more}, lemmas.List.Folds.{list_any_at, list_any_none}}
use Rattle.std.specs.List.{filter}
use Rattle.smk_base.specs.{Picks.IsAscending, Places.{has, IsPlaces, upto}}
use Rattle.smk_base.proofs.Places.{filter_filter, same_below}
use Rattle.smk_rid.proofs.Rising.{ascending_places}

has_there : (others : List ℕ) (place x : ℕ) → place < length others → get_or others place 0 ≡ x → has others x ≡ true
has_there others place x low is = list_any_at (nat_eq x) others place 0 low (eq-eqb x (get_or others place 0) (sym is))

-- a number between two neighbours isn't there
has_none : (others : List ℕ) (place x : ℕ) → IsAscending others → ((k : ℕ) → k < place → get_or others k 0 < x) → (place < length others → x < get_or others place 0) → has others x ≡ false
has_none others place x rises less more = list_any_none (nat_eq x) others (λ k d low. ne_eqb x (get_or others k d) (λ e. differs k low (e ∙ get_or_default others k d 0 low)))
  where
    differs : (k : ℕ) → k < length others → x ≡ get_or others k 0 → ⊥
    differs k low e = elim (cases_lt k place) [
      | inl l ↦ (let h = less k l in omega (arith, e, h))
      | inr g ↦ elim (cases_lt place k) [
        | inl l ↦ (let a = rises place k l low in let b = more (omega (arith, l, low)) in omega (arith, a, b, e))
        | inr h ↦ (let same : k ≡ place = omega (arith, g, h) in let b = more (omega (arith, same, low)) in let f = rw same at e in omega (arith, b, f))
      ]
    ]

one_more : (others ones : List ℕ) (i x : ℕ) (b : Bool) → i < length ones → x ≡ get_or ones i 0 → has others x ≡ b → filter (has others) (take (i + 1) ones) ≡ filter (has others) (take i ones) ++ cond b (x ∷ []) []
one_more others ones i x b low is has_is = filter_more (has others) ones i 0 low ∙ rw (← is, has_is) refl

pub common_more : (others ones made : List ℕ) (i x place : ℕ) → i < length ones → x ≡ get_or ones i 0 → place < length others → get_or others place 0 ≡ x → made ≡ filter (has others) (take i ones)
    → made ++ x ∷ [] ≡ filter (has others) (take (i + 1) ones)
common_more others ones made i x place low is there same made_is = ap (λ l. l ++ x ∷ []) made_is ∙ sym (one_more others ones i x true low is (has_there others place x there same))

pub common_same : (others ones made : List ℕ) (i x place : ℕ) → IsAscending others → i < length ones → x ≡ get_or ones i 0 → ((k : ℕ) → k < place → get_or others k 0 < x) → (place < length others → x < get_or others place 0)
    → made ≡ filter (has others) (take i ones) → made ≡ filter (has others) (take (i + 1) ones)
common_same others ones made i x place rises low is less more made_is =
    made_is ∙ sym (append-nil (filter (has others) (take i ones))) ∙ sym (one_more others ones i x false low is (has_none others place x rises less more))

-- those passed are less than those that come
pub less_here : (others ones : List ℕ) (i x from place : ℕ) → i < length ones → x ≡ get_or ones i 0 → ((k m : ℕ) → k < from → i ≤ m → m < length ones → get_or others k 0 < get_or ones m 0)
    → ((k : ℕ) → from ≤ k → k < place → get_or others k 0 < x) → (k : ℕ) → k < place → get_or others k 0 < x
less_here others ones i x from place low is passed less k l = elim (cases_lt k from) [
  | inl h ↦ (let p = passed k i h (omega arith) low in omega (arith, p, is))
  | inr g ↦ less k g l
]

pub passed_next : (others ones : List ℕ) (i x place : ℕ) → IsAscending ones → x ≡ get_or ones i 0 → ((k : ℕ) → k < place → get_or others k 0 < x)
    → (k m : ℕ) → k < place → i + 1 ≤ m → m < length ones → get_or others k 0 < get_or ones m 0
passed_next others ones i x place rises is less k m l past low =
    let a = less k l in let b = rises i m (omega (arith, past)) low in omega (arith, a, b, is)

-- the rids of one that the other has are those of the other that the one has

abbrev end_of : List ℕ → ℕ
end_of A = get_or A (length A - 1) 0 + 1

before_end : (A : List ℕ) → IsAscending A → All (λ r. r < end_of A) A
before_end A rises k d low = elim (cases_lt k (length A - 1)) [
  | inl l ↦ (let h = rises k (length A - 1) l (omega arith) in omega (arith, h, get_or_default A k d 0 low))
  | inr g ↦ (let same : k ≡ length A - 1 = omega (arith, g, low) in omega (arith, get_or_default A k d 0 low, ap (λ i. get_or A i 0) same))
]

and_turned : (a b : Bool) → (a && b) ≡ (b && a)
and_turned true true = refl
and_turned true false = refl
and_turned false true = refl
and_turned false false = refl

pub common_turned : (A B : List ℕ) → IsAscending A → IsAscending B → filter (has B) A ≡ filter (has A) B
common_turned A B a b =
    let n : ℕ = end_of A + end_of B in
    let one : IsPlaces n A = ascending_places n A a (All-weaker (λ r. r < end_of A) (λ r. r < n) (λ r h. omega (arith, h)) A (before_end A a)) in
    let two : IsPlaces n B = ascending_places n B b (All-weaker (λ r. r < end_of B) (λ r. r < n) (λ r h. omega (arith, h)) B (before_end B b)) in
    ap (filter (has B)) (sym one) ∙ filter_filter (has B) (has A) (upto n)
    ∙ same_below (λ r. has A r && has B r) (λ r. has B r && has A r) n (λ r l. and_turned (has A r) (has B r))
    ∙ sym (filter_filter (has A) (has B) (upto n)) ∙ ap (filter (has A)) two
