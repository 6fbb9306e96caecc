-- Numbers whose classes are found by a table that may hold anything.
use Rattle.std.proofs.{Common.{◌≡◌, ℕ, ◌+◌, ◌<◌, ◌≤◌, All, true, List, [], ◌∷◌, ◌++◌, length, map, get_or, set, nat_eq, refl, ap, sym, ◌∙◌, arith, inl, inr, true≢false}, lemmas.Bool.{cases_Bool, cases_lt}, lemmas.List.{get_or-map, get_or_default, get_or-set_same, get_or-set_other, get_or_append_left, get_or_push, length-map, length-set, length_push, map_push}, lemmas.List.Folds.list_any_at}
use Rattle.std.specs.{Cmp.unsigned_Decides, List.{list_any, position_or_len}}
use Rattle.smk_base.proofs.Codes.{found_at, none_at}
use Rattle.smk_keys.specs.Classes.{ClassesImage, classing_of}
use Rattle.smk_keys.proofs.{Classing.classing-classes, Numbered.{IsNumbered, IsNumbered-none, IsNumbered-more, AreClasses-numbered}}

-- the first n numbers have their classes, and at the number of each class a table has the class
pub record IsFound (items : List ℕ) (count n : ℕ) (of firsts table : List ℕ) : Type 0 where
  pub numbered : IsNumbered nat_eq 0 items n of firsts (map (λ p. get_or items p 0) firsts)
  pub named : (k : ℕ) → k < length firsts → get_or table (get_or items (get_or firsts k 0) 0) 0 ≡ k
  pub wide : length table ≡ count

pub IsFound-none : (items : List ℕ) (count : ℕ) (table : List ℕ) → length table ≡ count → IsFound items count 0 [] [] table
IsFound-none items count table wide = record {
  numbered = IsNumbered-none nat_eq 0 items;
  named = λ k h. absurd (omega arith);
  wide = wide;
}

-- a number that has a class is where the table says
named_there : (items : List ℕ) (count n x : ℕ) (of firsts table : List ℕ) → IsFound items count n of firsts table → list_any (nat_eq x) (map (λ p. get_or items p 0) firsts) ≡ true
    → (get_or table x 0 < length firsts) × (get_or items (get_or firsts (get_or table x 0) 0) 0 ≡ x) × (position_or_len (nat_eq x) (map (λ p. get_or items p 0) firsts) ≡ get_or table x 0)
named_there items count n x of firsts table so there =
    let f = λ (p : ℕ). get_or items p 0 in
    let keys = map f firsts in
    let k = position_or_len (nat_eq x) keys in
    let found = found_at (nat_eq x) keys 0 there in
    let low : k < length firsts = omega (arith, found.0, length-map firsts f) in
    let at : get_or items (get_or firsts k 0) 0 ≡ x = sym (get_or-map f firsts k 0 0 low) ∙ sym ((unsigned_Decides x (get_or keys k 0)).0 found.1) in
    let same : get_or table x 0 ≡ k = ap (λ y. get_or table y 0) (sym at) ∙ so.named k low in
    (rw same low, ap (λ j. get_or items (get_or firsts j 0) 0) same ∙ at, sym same)

-- a number that came before
pub IsFound-again : (items : List ℕ) (count n : ℕ) (of firsts table : List ℕ) → IsFound items count n of firsts table
    → get_or table (get_or items n 0) 0 < length firsts → get_or items (get_or firsts (get_or table (get_or items n 0) 0) 0) 0 ≡ get_or items n 0
    → IsFound items count (n + 1) (of ++ get_or table (get_or items n 0) 0 ∷ []) firsts table
IsFound-again items count n of firsts table so low at =
    let f = λ (p : ℕ). get_or items p 0 in
    let x = get_or items n 0 in
    let c = get_or table x 0 in
    let keys = map f firsts in
    let passes : nat_eq x (get_or keys c 0) ≡ true = (unsigned_Decides x (get_or keys c 0)).1 (sym (get_or-map f firsts c 0 0 low ∙ at)) in
    let there : list_any (nat_eq x) keys ≡ true = list_any_at (nat_eq x) keys c 0 (omega (arith, low, length-map firsts f)) passes in
    let place = (named_there items count n x of firsts table so there).2 in
    let more = IsNumbered-more nat_eq unsigned_Decides 0 items n of firsts keys so.numbered in
    record { numbered = rw (there, place) at more; named = so.named; wide = so.wide }

-- a new number
pub IsFound-anew : (items : List ℕ) (count n : ℕ) (of firsts table : List ℕ) → IsFound items count n of firsts table → get_or items n 0 < count
    → (get_or table (get_or items n 0) 0 < length firsts → get_or items (get_or firsts (get_or table (get_or items n 0) 0) 0) 0 ≡ get_or items n 0 → ⊥)
    → IsFound items count (n + 1) (of ++ length firsts ∷ []) (firsts ++ n ∷ []) (set table (get_or items n 0) (length firsts))
IsFound-anew items count n of firsts table so below none =
    let f = λ (p : ℕ). get_or items p 0 in
    let x = get_or items n 0 in
    let keys = map f firsts in
    let class = length firsts in
    let long : length keys ≡ class = length-map firsts f in
    let more = IsNumbered-more nat_eq unsigned_Decides 0 items n of firsts keys so.numbered in
    elim (cases_Bool (list_any (nat_eq x) keys)) [
      | inl there ↦ (let t = named_there items count n x of firsts table so there in absurd (none t.0 t.1))
      | inr new ↦ (
          let place : class ≡ position_or_len (nat_eq x) keys = sym long ∙ sym (none_at (nat_eq x) keys new) in
          let longer = rw (new, ← place) at more in
          record {
            numbered = rw (map_push f firsts n) longer;
            named = λ k h. elim (cases_lt k class) [
              | inl less ↦ (
                  let before : get_or (firsts ++ n ∷ []) k 0 ≡ get_or firsts k 0 = get_or_append_left firsts (n ∷ []) 0 k less in
                  let y = get_or items (get_or firsts k 0) 0 in
                  let other : y ≡ x → ⊥ = λ e.
                  let passes : nat_eq x (get_or keys k 0) ≡ true = (unsigned_Decides x (get_or keys k 0)).1 (sym (get_or-map f firsts k 0 0 less ∙ e)) in
                  absurd (true≢false (sym (list_any_at (nat_eq x) keys k 0 (omega (arith, less, long)) passes) ∙ new)) in
                  rw before (get_or-set_other table x y class 0 other ∙ so.named k less))
              | inr above ↦ (
                  let last : k ≡ class = omega (arith, h, length_push firsts n) in
                  rw (last, get_or_push firsts n 0 class refl) (get_or-set_same table x class 0 (omega (arith, below, so.wide))))
            ];
            wide = length-set table x class ∙ so.wide;
          })
    ]

-- all numbers have the classes of the definition
pub IsFound-all : (items : List ℕ) (count n : ℕ) (of firsts table : List ℕ) (made : ClassesImage) → IsFound items count n of firsts table → n ≡ length items → made.of ≡ of → made.firsts ≡ firsts → made ≡ classing_of nat_eq items
IsFound-all items count n of firsts table made so e f g =
    classing-classes nat_eq unsigned_Decides 0 items of firsts (AreClasses-numbered nat_eq unsigned_Decides 0 items n of firsts _ e so.numbered) made f g

-- the places where classes come first are of numbers that came
pub firsts_below : (items : List ℕ) (count n : ℕ) (of firsts table : List ℕ) → IsFound items count n of firsts table → n ≤ length items → All (λ first. first < length items) firsts
firsts_below items count n of firsts table so few k d h =
    rw (get_or_default firsts k d 0 h) (omega (arith, few, so.numbered.place k (omega (arith, h, length-map firsts (λ p. get_or items p 0)))))
