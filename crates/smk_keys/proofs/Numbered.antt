-- Items numbered by first occurrence, one after the other.
use Rattle.std.proofs.{Common.{◌≡◌, ℕ, ◌+◌, ◌<◌, Bool, List, [], ◌∷◌, ◌++◌, length, get_or, if◌then◌else◌, refl, ◌∙◌, arith, Decides, inl, inr}, lemmas.Bool.{cases_Bool, cases_lt}, lemmas.List.{get_or_push, get_or_append_left, length_push}}
use Rattle.std.specs.List.{list_any, position_or_len}
use Rattle.smk_base.proofs.Codes.{none_at}
use Rattle.smk_keys.proofs.{Coded.{IsCoded, IsCoded-none, IsCoded-more, AreNumbers-coded}, Firsts.AreClasses}

-- the first n items have the places of their equals in keys, and firsts has the first place of each key
pub record IsNumbered {X : Type 0} (eq : X → X → Bool) (none : X) (items : List X) (n : ℕ) (of firsts : List ℕ) (keys : List X) : Type 0 where
  pub coded : IsCoded eq none items n of keys
  pub wide : length firsts ≡ length keys
  pub place : (k : ℕ) → k < length keys → get_or firsts k 0 < n
  pub at : (k : ℕ) → k < length keys → get_or of (get_or firsts k 0) 0 ≡ k
  pub first : (k i : ℕ) → k < length keys → i < get_or firsts k 0 → get_or of i 0 < k

pub IsNumbered-none : {X : Type 0} (eq : X → X → Bool) (none : X) (items : List X) → IsNumbered eq none items 0 [] [] []
IsNumbered-none eq none items = record {
  coded = IsCoded-none eq none items [] refl;
  wide = refl;
  place = λ k h. absurd (omega arith);
  at = λ k h. absurd (omega arith);
  first = λ k i h p. absurd (omega arith);
}

-- an item that is there
again : {X : Type 0} (eq : X → X → Bool) (none : X) (items : List X) (n p : ℕ) (of firsts : List ℕ) (keys : List X) → IsNumbered eq none items n of firsts keys
    → IsCoded eq none items (n + 1) (of ++ p ∷ []) keys → IsNumbered eq none items (n + 1) (of ++ p ∷ []) firsts keys
again eq none items n p of firsts keys so coded =
    let old : (i : ℕ) → i < n → get_or (of ++ p ∷ []) i 0 ≡ get_or of i 0 = (λ i h. get_or_append_left of (p ∷ []) 0 i (omega (arith, so.coded.long))) in
    record {
      coded = coded;
      wide = so.wide;
      place = λ k h. omega (arith, so.place k h);
      at = λ k h. (let o = old (get_or firsts k 0) (so.place k h) in o ∙ so.at k h);
      first = λ k i h q. (let o = old i (omega (arith, so.place k h)) in rw o (so.first k i h q));
    }

-- a new item
anew : {X : Type 0} (eq : X → X → Bool) (none : X) (items : List X) (n p : ℕ) (of firsts : List ℕ) (keys : List X) → p ≡ length keys → IsNumbered eq none items n of firsts keys
    → IsCoded eq none items (n + 1) (of ++ p ∷ []) (keys ++ get_or items n none ∷ []) → IsNumbered eq none items (n + 1) (of ++ p ∷ []) (firsts ++ n ∷ []) (keys ++ get_or items n none ∷ [])
anew eq none items n p of firsts keys e so coded =
    let x = get_or items n none in
    let last : get_or (of ++ p ∷ []) n 0 ≡ p = get_or_push of p 0 n so.coded.long in
    let old : (i : ℕ) → i < n → get_or (of ++ p ∷ []) i 0 ≡ get_or of i 0 = (λ i h. get_or_append_left of (p ∷ []) 0 i (omega (arith, so.coded.long))) in
    let more : length (keys ++ x ∷ []) ≡ length keys + 1 = length_push keys x in
    let before : (k : ℕ) → k < length keys → get_or (firsts ++ n ∷ []) k 0 ≡ get_or firsts k 0 = (λ k h. get_or_append_left firsts (n ∷ []) 0 k (omega (arith, so.wide))) in
    let end : get_or (firsts ++ n ∷ []) (length keys) 0 ≡ n = get_or_push firsts n 0 (length keys) so.wide in
    record {
      coded = coded;
      wide = omega (arith, length_push firsts n, more, so.wide);
      place = λ k h. elim (cases_lt k (length keys)) [
        | inl less ↦ (let b = before k less in rw b (omega (arith, so.place k less)))
        | inr above ↦ (let at : k ≡ length keys = omega (arith, more) in rw (at, end) (omega arith))
      ];
      at = λ k h. elim (cases_lt k (length keys)) [
        | inl less ↦ (let b = before k less in let o = old (get_or firsts k 0) (so.place k less) in rw (b, o) (so.at k less))
        | inr above ↦ (let at : k ≡ length keys = omega (arith, more) in rw (at, end, last) e)
      ];
      first = λ k i h q. elim (cases_lt k (length keys)) [
        | inl less ↦ (
            let b = before k less in
            let low : i < get_or firsts k 0 = omega (arith, b, q) in
            let o = old i (omega (arith, so.place k less, low)) in
            rw o (so.first k i less low))
        | inr above ↦ (
            let at : k ≡ length keys = omega (arith, more) in
            let low : i < n = omega (arith, rw (at, end) at q) in
            let o = old i low in
            rw (o, at) (so.coded.within i low))
      ];
    }

-- one more item
pub IsNumbered-more : {X : Type 0} (eq : X → X → Bool) (decides : (x y : X) → Decides (eq x y) (x ≡ y)) (none : X) (items : List X) (n : ℕ) (of firsts : List ℕ) (keys : List X) → IsNumbered eq none items n of firsts keys
    → IsNumbered eq none items (n + 1) (of ++ position_or_len (eq (get_or items n none)) keys ∷ [])
    (if list_any (eq (get_or items n none)) keys then firsts else firsts ++ n ∷ [])
    (if list_any (eq (get_or items n none)) keys then keys else keys ++ get_or items n none ∷ [])
IsNumbered-more eq decides none items n of firsts keys so =
    let x = get_or items n none in
    let coded = IsCoded-more eq decides none items n of keys so.coded in
    elim (cases_Bool (list_any (eq x) keys)) [
      | inl there ↦ (let same = rw there at coded in rw there (again eq none items n (position_or_len (eq x) keys) of firsts keys so same))
      | inr new ↦ (let longer = rw new at coded in rw new (anew eq none items n (position_or_len (eq x) keys) of firsts keys (none_at (eq x) keys new) so longer))
    ]

pub AreClasses-numbered : {X : Type 0} (eq : X → X → Bool) (decides : (x y : X) → Decides (eq x y) (x ≡ y)) (none : X) (items : List X) (n : ℕ) (of firsts : List ℕ) (keys : List X) → n ≡ length items → IsNumbered eq none items n of firsts keys
    → AreClasses none items of firsts
AreClasses-numbered eq decides none items n of firsts keys e so =
    let are = AreNumbers-coded eq decides none items n of keys e so.coded in
    record {
      long = are.long;
      within = λ i h. omega (arith, so.coded.within i (omega arith), so.wide);
      same = are.same;
      alike = are.alike;
      place = λ k h. omega (arith, so.place k (omega (arith, so.wide)), e);
      at = λ k h. so.at k (omega (arith, so.wide));
      first = λ k i h p. so.first k i (omega (arith, so.wide)) p;
    }
