-- Lists that lie one after the other.
use Rattle.std.proofs.{Common.{◌≡◌, ◌∙◌, ◌<◌, ◌≤◌, ◌+◌, ◌-◌, ℕ, length, List, [], ◌∷◌, ◌++◌, refl, sym, ap, map, arith, get_or, take, drop, inl, inr, cond, ltb}, lemmas.List.{length-append, take_at, drop_at, same_lists, length-map, take_all, take-append-le, get_or_append_left, get_or_push, get_or_default, length_push, append-nil, take-append-drop, drop_more, get_or-take, nil_from_length, get_or-drop, length-take-le, get_or-map}, lemmas.Bool.{cases_lt, ne_eqb, lt-ltb, le-ltb}, lemmas.List.Folds.concat-append, lemmas.List.Sums.{sum_by_push, sum_by_more, sum_by-take-le, sum_by-cons}}
use Rattle.std.specs.List.{concat, slice_range, All}
use Rattle.smk_base.specs.Places.{upto, pairs_of}
use Rattle.smk_rid.specs.Packing.{one_of, part, cut, IsPacking}
use Rattle.smk_rid.proofs.Sets.{alone}
use Rattle.smk_base.proofs.Places.{length_upto, get_or_map_upto}

-- the length of all lists together
pub length-concat : (lists : List (List ℕ)) → length (concat lists) ≡ pairs_of lists
length-concat [] = refl
length-concat (x ∷ xs) = omega (arith, length-append x (concat xs), length-concat xs, sum_by-cons (length {A = ℕ}) x xs)

-- the i-th list stands after those before it
pub part-concat : (lists : List (List ℕ)) (i a b : ℕ) → i < length lists → a ≡ pairs_of (take i lists) → b ≡ pairs_of (take (i + 1) lists) → take (b - a) (drop a (concat lists)) ≡ get_or lists i []
part-concat lists i a b h p q =
    let before = concat (take i lists) in
    let this = get_or lists i [] in
    let after = concat (drop (i + 1) lists) in
    let whole : concat lists ≡ before ++ (this ++ after) =
    ap concat (sym (take-append-drop i lists)) ∙ concat-append (take i lists) (drop i lists) ∙ ap (λ t. concat (take i lists) ++ concat t) (drop_more lists i [] h) in
    let size : length before ≡ a = length-concat (take i lists) ∙ sym p in
    let more = sum_by_more (length {A = ℕ}) lists i [] h in
    let long : length this ≡ b - a = omega (arith, more, p, q) in
    ap (λ z. take (b - a) (drop a z)) whole ∙ ap (take (b - a)) (drop_at before (this ++ after) a size) ∙ take_at this after (b - a) long

-- packed lists are what their offsets cut out
pub cut_is : (starts rids : List ℕ) (lists : List (List ℕ)) → IsPacking starts rids lists → cut starts rids ≡ lists
unfolding cut
cut_is starts rids lists h =
    let n = length starts - 1 in
    let long : length (map (part starts rids) (upto n)) ≡ n = length-map (upto n) (part starts rids) ∙ length_upto n in
    same_lists (map (part starts rids) (upto n)) lists (omega (arith, h.size, long)) (λ k d low.
    let lowk : k < n = omega (arith, low, long) in
    let within : k < length lists = omega (arith, lowk, h.size) in
    get_or_map_upto (part starts rids) n k d lowk
    ∙ ap (λ xs. slice_range xs (get_or starts k 0) (get_or starts (k + 1) 0)) h.all
    ∙ part-concat lists k (get_or starts k 0) (get_or starts (k + 1) 0) within (h.offsets k (omega arith)) (h.offsets (k + 1) (omega arith))
    ∙ get_or_default lists k [] d within)

-- the offsets of a list and of the next one
pub length_at : (starts rids : List ℕ) (lists : List (List ℕ)) (k : ℕ) → IsPacking starts rids lists → k < length lists → get_or starts k 0 + length (get_or lists k []) ≡ get_or starts (k + 1) 0
length_at starts rids lists k h low =
    omega (arith, sum_by_more (length {A = ℕ}) lists k [] low, h.offsets k (omega arith), h.offsets (k + 1) (omega arith))

pub end_at : (starts rids : List ℕ) (lists : List (List ℕ)) (k : ℕ) → IsPacking starts rids lists → k ≤ length lists → get_or starts k 0 ≤ length rids
end_at starts rids lists k h low =
    omega (arith, sum_by-take-le (length {A = ℕ}) lists k, h.offsets k low, length-concat lists, ap length h.all)

-- the part between them
pub part_is : (starts rids : List ℕ) (lists : List (List ℕ)) (k : ℕ) → IsPacking starts rids lists → k < length lists → take (get_or starts (k + 1) 0 - get_or starts k 0) (drop (get_or starts k 0) rids) ≡ get_or lists k []
part_is starts rids lists k h low =
    ap (λ xs. take (get_or starts (k + 1) 0 - get_or starts k 0) (drop (get_or starts k 0) xs)) h.all
    ∙ part-concat lists k (get_or starts k 0) (get_or starts (k + 1) 0) low (h.offsets k (omega arith)) (h.offsets (k + 1) (omega arith))

-- no list
pub packing_none : IsPacking (0 ∷ []) [] []
packing_none = record {
  size = refl;
  offsets = λ i h. let e : i ≡ 0 = omega arith in rw e refl;
  all = refl;
  few = omega arith;
}

-- one more list
pub packing_put : (starts rids : List ℕ) (lists : List (List ℕ)) (list : List ℕ) (end : ℕ) → IsPacking starts rids lists → end ≡ length rids + length list → end ≤ 16777216 → IsPacking (starts ++ end ∷ []) (rids ++ list) (lists ++ list ∷ [])
packing_put starts rids lists list end h e few =
    let size : length (starts ++ end ∷ []) ≡ length (lists ++ list ∷ []) + 1 = omega (arith, length_push starts end, length_push lists list, h.size) in
    record {
      size = size;
      offsets = λ i low. elim (cases_lt (length lists) i) [
        | inl l ↦ (let at : get_or (starts ++ end ∷ []) i 0 ≡ end = get_or_push starts end 0 i (omega (arith, h.size, length_push lists list)) in
            let all : take i (lists ++ list ∷ []) ≡ lists ++ list ∷ [] = take_all i (lists ++ list ∷ []) (omega (arith, length_push lists list)) in
            at ∙ omega (arith, e, ap pairs_of all, sum_by_push (length {A = ℕ}) lists list, length-concat lists, ap length h.all))
        | inr g ↦ get_or_append_left starts (end ∷ []) 0 i (omega (arith, h.size)) ∙ h.offsets i g ∙ ap pairs_of (sym (take-append-le i lists (list ∷ []) g))
      ];
      all = ap (λ z. z ++ list) h.all ∙ sym (concat-append lists (list ∷ []) ∙ ap (λ z. concat lists ++ z) (append-nil list));
      few = omega (arith, length-append rids list);
    }

pub packed_put : (s r : List ℕ) (lists : List (List ℕ)) (list starts rids : List ℕ) (end : ℕ) → IsPacking s r lists → starts ≡ s ++ end ∷ [] → rids ≡ r ++ list → end ≡ length rids → pairs_of lists + length list ≤ 16777216 → IsPacking starts rids (cut starts rids) × (cut starts rids ≡ lists ++ list ∷ [])
packed_put s r lists list starts rids end h last all at few =
    let long : end ≡ length r + length list = omega (arith, at, ap length all, length-append r list) in
    let made = packing_put s r lists list end h long (omega (arith, long, few, ap length h.all, length-concat lists)) in
    let is : cut starts rids ≡ lists ++ list ∷ [] = rw (last, all) (cut_is (s ++ end ∷ []) (r ++ list) (lists ++ list ∷ []) made) in
    (rw (is, last, all) made, is)

pub one_is : (x : ℕ) → x < 4294967295 → one_of x ≡ x ∷ []
one_is x h = let e = ne_eqb x 4294967295 (λ q. absurd (omega arith)) in rw e refl

-- a list of at most one rid is what stands between its offsets
pub first_is : (s r : List ℕ) (lists : List (List ℕ)) (i : ℕ) → IsPacking s r lists → All (λ l. length l ≤ 1) lists → All (All (λ x. x < 4294967295)) lists → i < length lists → one_of (cond (ltb (get_or s i 0) (get_or s (i + 1) 0)) (get_or r (get_or s i 0) 0) 4294967295) ≡ get_or lists i []
first_is s r lists i h single below low =
    let a = get_or s i 0 in
    let b = get_or s (i + 1) 0 in
    let l = get_or lists i [] in
    let at = length_at s r lists i h low in
    let few : length l ≤ 1 = single i [] low in
    elim (cases_lt a b) [
      | inl lt ↦ (let long : length l ≡ 1 = omega (arith, at, few, lt) in
          let gap : 0 < b - a = omega (arith, lt) in
          let x : get_or l 0 0 ≡ get_or r a 0 = ap (λ z. get_or z 0 0) (sym (part_is s r lists i h low)) ∙ get_or-take (b - a) (drop a r) 0 0 gap ∙ get_or-drop a r 0 0 ∙ ap (λ k. get_or r k 0) (omega arith) in
          let small : get_or l 0 0 < 4294967295 = below i [] low 0 0 (omega (arith, long)) in
          rw (lt-ltb a b lt, sym x) (one_is (get_or l 0 0) small ∙ sym (alone l long)))
      | inr ge ↦ (let none : l ≡ [] = nil_from_length l (omega (arith, at, ge)) in
          rw (le-ltb a b ge, none) refl)
    ]

-- an array of as many rids stands for the lists
pub array_is : (q : List ℕ) (lists : List (List ℕ)) → length lists < length q → ((k : ℕ) → k < length lists → one_of (get_or q k 0) ≡ get_or lists k []) → map one_of (take (length lists) q) ≡ lists
array_is q lists long each =
    let n = length lists in
    let size : length (take n q) ≡ n = length-take-le n q (omega arith) in
    let size2 : length (map one_of (take n q)) ≡ n = length-map (take n q) one_of ∙ size in
    same_lists (map one_of (take n q)) lists size2 (λ k d low.
    let lowk : k < n = omega (arith, low, size2) in
    get_or-map one_of (take n q) k 0 d (omega (arith, lowk, size)) ∙ ap one_of (get_or-take n q k 0 lowk) ∙ each k lowk ∙ get_or_default lists k [] d lowk)
