-- Maps in which each place has itself alone.
use Rattle.std.proofs.{Common.{◌≡◌, ◌∙◌, ◌<◌, ◌+◌, ◌&&◌, ℕ, Bool, List, [], ◌∷◌, length, map, get_or, eqb, refl, sym, ap, arith, inl, inr}, lemmas.Bool.{and_parts, cases_eq, eq-eqb, eqb-true, ne_eqb}, lemmas.List.{same_lists, length-map, get_or_default}}
use Rattle.std.specs.Prelude.{IsTrue}
use Rattle.smk_base.specs.Places.{Lists, upto, own_lists}
use Rattle.smk_rid.specs.Packing.{one_of}
use Rattle.smk_base.proofs.Places.{length_upto, get_or_map_upto}
use Rattle.smk_rid.proofs.Codes.{one_some}

-- lists that each have their own place alone
pub own_is : (lists : List (List ℕ)) → ((k : ℕ) → k < length lists → get_or lists k [] ≡ k ∷ []) → lists ≡ map (λ i. i ∷ []) (upto (length lists))
own_is lists each =
    let n = length lists in
    let long : length (map (λ (i : ℕ). i ∷ []) (upto n)) ≡ n = length-map (upto n) (λ (i : ℕ). i ∷ []) ∙ length_upto n in
    same_lists lists (map (λ i. i ∷ []) (upto n)) (sym long) (λ k d low. get_or_default lists k d [] low ∙ each k low ∙ sym (get_or_map_upto (λ (i : ℕ). i ∷ []) n k d low))

pub own_at : (lists : List (List ℕ)) (i : ℕ) → i < length lists → lists ≡ map (λ k. k ∷ []) (upto (length lists)) → get_or lists i [] ≡ i ∷ []
own_at lists i low is = ap (λ (x : List (List ℕ)). get_or x i []) is ∙ get_or_map_upto (λ (k : ℕ). k ∷ []) (length lists) i [] low

-- the number that stands for a list of one rid
pub one_back : (r i : ℕ) → one_of r ≡ i ∷ [] → r ≡ i
one_back r i is = elim (cases_eq r 4294967295) [
  | inl none ↦ (let e : [] ≡ i ∷ [] = rw (eq-eqb r 4294967295 none) at is in absurd (cc))
  | inr some ↦ (let e : r ∷ [] ≡ i ∷ [] = rw (ne_eqb r 4294967295 some) at is in cc)
]

-- one more number of its own place
pub own_more : (lists : List (List ℕ)) (i n : ℕ) (own : Bool) → one_of n ≡ get_or lists i [] → i < 4294967295 → (IsTrue own → (k : ℕ) → k < i → get_or lists k [] ≡ k ∷ []) → IsTrue (own && eqb n i) → (k : ℕ) → k < i + 1 → get_or lists k [] ≡ k ∷ []
own_more lists i n own at low each t k under =
    let both = and_parts own (eqb n i) t in
    elim (cases_eq k i) [
      | inl e ↦ rw e (sym at ∙ ap one_of (eqb-true n i both.1) ∙ one_some i (λ f. absurd (omega (arith, low, f))))
      | inr ne ↦ each both.0 k (omega (arith, under, ne))
    ]

-- a map of such lists, bounded by their number
pub own_map : (m : Lists) → m.bound ≡ length m.lists → m.lists ≡ map (λ i. i ∷ []) (upto (length m.lists)) → m ≡ own_lists (length m.lists)
own_map m bound lists = same lists bound
  where
    same : {a b : List (List ℕ)} {i j : ℕ} → a ≡ b → i ≡ j → (let x : Lists = record { lists = a; bound = i } in x) ≡ record { lists = b; bound = j }
    same p q = rw (p, q) refl
