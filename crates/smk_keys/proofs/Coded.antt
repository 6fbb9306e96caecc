-- Items that have the places of their equals among those that came.
use Rattle.std.proofs.{Common.{◌≡◌, ℕ, ◌+◌, ◌<◌, ◌≤◌, Bool, true, false, List, [], ◌∷◌, ◌++◌, length, get_or, if◌then◌else◌, refl, ap, sym, ◌∙◌, arith, true≢false, Decides, inl, inr}, lemmas.Bool.{cases_order, cases_Bool, cases_lt}, lemmas.List.{get_or_push, get_or_append_left, get_or_default, length_push}, lemmas.Map.Keys.{apart_from_distinct, IsDistinct-push, IsDistinct-from_apart}}
use Rattle.std.specs.{Cmp.decided, List.{list_any, position_or_len, IsDistinct}}
use Rattle.smk_base.proofs.Codes.{found_at, none_at}
use Rattle.smk_keys.specs.Numbers.{AreNumbers}

-- each of the first n items has the place of its equal in keys, which are different
pub record IsCoded {X : Type 0} (eq : X → X → Bool) (none : X) (items : List X) (n : ℕ) (of : List ℕ) (keys : List X) : Type 0 where
  pub long : length of ≡ n
  pub few : length keys ≤ n
  pub within : (i : ℕ) → i < n → get_or of i 0 < length keys
  pub key : (i : ℕ) → i < n → get_or keys (get_or of i 0) none ≡ get_or items i none
  pub different : IsDistinct eq keys

pub IsCoded-none : {X : Type 0} (eq : X → X → Bool) (none : X) (items keys : List X) → keys ≡ [] → IsCoded eq none items 0 [] keys
IsCoded-none eq none items keys e = rw e (record {
  long = refl;
  few = omega arith;
  within = λ i h. absurd (omega arith);
  key = λ i h. absurd (omega arith);
  different = IsDistinct-from_apart eq [] (λ i j d p q. absurd (omega arith));
})

-- an item that is there
again : {X : Type 0} (eq : X → X → Bool) (decides : (x y : X) → Decides (eq x y) (x ≡ y)) (none : X) (items : List X) (n : ℕ) (of : List ℕ) (keys : List X) → IsCoded eq none items n of keys
    → list_any (eq (get_or items n none)) keys ≡ true → IsCoded eq none items (n + 1) (of ++ position_or_len (eq (get_or items n none)) keys ∷ []) keys
again eq decides none items n of keys so there =
    let x = get_or items n none in
    let f = found_at (eq x) keys none there in
    let p = position_or_len (eq x) keys in
    let last : get_or (of ++ p ∷ []) n 0 ≡ p = get_or_push of p 0 n so.long in
    let old : (i : ℕ) → i < n → get_or (of ++ p ∷ []) i 0 ≡ get_or of i 0 = (λ i h. get_or_append_left of (p ∷ []) 0 i (omega (arith, so.long))) in
    record {
      long = omega (arith, length_push of p, so.long);
      few = omega (arith, so.few);
      within = λ i h. elim (cases_lt i n) [
        | inl less ↦ (let o = old i less in rw o (so.within i less))
        | inr more ↦ (let e : i ≡ n = omega arith in rw (e, last) f.0)
      ];
      key = λ i h. elim (cases_lt i n) [
        | inl less ↦ (let o = old i less in rw o (so.key i less))
        | inr more ↦ (let e : i ≡ n = omega arith in rw (e, last) (sym ((decides x (get_or keys p none)).0 f.1)))
      ];
      different = so.different;
    }

-- a new item
anew : {X : Type 0} (eq : X → X → Bool) (decides : (x y : X) → Decides (eq x y) (x ≡ y)) (none : X) (items : List X) (n : ℕ) (of : List ℕ) (keys : List X) → IsCoded eq none items n of keys
    → list_any (eq (get_or items n none)) keys ≡ false → IsCoded eq none items (n + 1) (of ++ position_or_len (eq (get_or items n none)) keys ∷ []) (keys ++ get_or items n none ∷ [])
anew eq decides none items n of keys so new =
    let x = get_or items n none in
    let p = position_or_len (eq x) keys in
    let e : p ≡ length keys = none_at (eq x) keys new in
    let last : get_or (of ++ p ∷ []) n 0 ≡ p = get_or_push of p 0 n so.long in
    let old : (i : ℕ) → i < n → get_or (of ++ p ∷ []) i 0 ≡ get_or of i 0 = (λ i h. get_or_append_left of (p ∷ []) 0 i (omega (arith, so.long))) in
    let more : length (keys ++ x ∷ []) ≡ length keys + 1 = length_push keys x in
    record {
      long = omega (arith, length_push of p, so.long);
      few = omega (arith, more, so.few);
      within = λ i h. elim (cases_lt i n) [
        | inl less ↦ (let o = old i less in rw (o, more) (omega (arith, so.within i less)))
        | inr above ↦ (let at : i ≡ n = omega arith in rw (at, last, more) (omega (arith, e)))
      ];
      key = λ i h. elim (cases_lt i n) [
        | inl less ↦ (let o = old i less in rw o (get_or_append_left keys (x ∷ []) none (get_or of i 0) (so.within i less) ∙ so.key i less))
        | inr above ↦ (let at : i ≡ n = omega arith in rw (at, last) (get_or_push keys x none p (sym e)))
      ];
      different = IsDistinct-push (decided eq decides) keys x so.different new;
    }

-- one more item
pub IsCoded-more : {X : Type 0} (eq : X → X → Bool) (decides : (x y : X) → Decides (eq x y) (x ≡ y)) (none : X) (items : List X) (n : ℕ) (of : List ℕ) (keys : List X) → IsCoded eq none items n of keys
    → IsCoded eq none items (n + 1) (of ++ position_or_len (eq (get_or items n none)) keys ∷ [])
    (if list_any (eq (get_or items n none)) keys then keys else keys ++ get_or items n none ∷ [])
IsCoded-more eq decides none items n of keys so = elim (cases_Bool (list_any (eq (get_or items n none)) keys)) [
  | inl there ↦ rw there (again eq decides none items n of keys so there)
  | inr new ↦ rw new (anew eq decides none items n of keys so new)
]

-- one more item, read from its place
pub IsCoded-next : {X : Type 0} (eq : X → X → Bool) (decides : (x y : X) → Decides (eq x y) (x ≡ y)) (none : X) (items : List X) (n : ℕ) (of : List ℕ) (keys : List X) (x : X) → x ≡ get_or items n none → IsCoded eq none items n of keys
    → IsCoded eq none items (n + 1) (of ++ position_or_len (eq x) keys ∷ []) (if list_any (eq x) keys then keys else keys ++ x ∷ [])
IsCoded-next eq decides none items n of keys x at so = rw at (IsCoded-more eq decides none items n of keys so)

-- the places are numbers of the items
pub AreNumbers-coded : {X : Type 0} (eq : X → X → Bool) (decides : (x y : X) → Decides (eq x y) (x ≡ y)) (none : X) (items : List X) (n : ℕ) (of : List ℕ) (keys : List X) → n ≡ length items → IsCoded eq none items n of keys
    → AreNumbers none items (length keys) of
AreNumbers-coded eq decides none items n of keys e so = record {
  long = so.long ∙ e;
  below = λ i d h. rw (get_or_default of i d 0 h) (so.within i (omega (arith, so.long)));
  same = λ i j h p q. sym (so.key i (omega arith)) ∙ ap (λ k. get_or keys k none) q ∙ so.key j (omega arith);
  alike = λ i j h p q.
      let a = get_or of i 0 in
      let b = get_or of j 0 in
      let equal : get_or keys a none ≡ get_or keys b none = so.key i (omega arith) ∙ q ∙ sym (so.key j (omega arith)) in
      elim (cases_order a b) [
        | inl at ↦ at
        | inr (inl less) ↦ absurd (true≢false (sym ((decides (get_or keys a none) (get_or keys b none)).1 equal) ∙ apart_from_distinct eq keys a b none so.different less (so.within j (omega arith))))
        | inr (inr more) ↦ absurd (true≢false (sym ((decides (get_or keys b none) (get_or keys a none)).1 (sym equal)) ∙ apart_from_distinct eq keys b a none so.different more (so.within i (omega arith))))
      ];
}
