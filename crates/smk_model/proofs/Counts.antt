-- The number of members of lists, by rows and by columns.
use Rattle.std.proofs.{Common.{◌≡◌, ◌∙◌, ◌+◌, ℕ, zero, suc, Bool, List, [], ◌∷◌, length, map, refl, sym, ap, arith, inl, inr}, lemmas.Bool.cases_Bool, lemmas.List.length-append, lemmas.List.Elements.{filter-append, All-get_or}, lemmas.List.Sums.sum_by_push}
use Rattle.std.specs.List.{sum_by, filter, All}
use Rattle.smk_base.specs.{Places.{Lists, upto, places, has, IsPlaces, pairs_of, list_at, inverted}, Plans.Expr}
use Rattle.smk_model.specs.{Values.Row, Composed.{backs, forwards}, DirectionLaws.PairsForward}
use Rattle.smk_base.proofs.Places.{map_upto, map_upto_agree}
use Rattle.smk_model.proofs.Composed.{lists_by, sum_by_map, lists_stand}

pub sum_zero : (n : ℕ) → sum_by (λ (r : ℕ). 0) (upto n) ≡ 0
sum_zero zero = refl
sum_zero (suc n) = omega (arith, sum_by_push (λ (r : ℕ). 0) (upto n) n, sum_zero n)

last_place : (t : ℕ → Bool) (n : ℕ) → length (places t (suc n)) ≡ length (places t n) + length (filter t (n ∷ []))
last_place t n = ap length (filter-append t (upto n) (n ∷ [])) ∙ length-append (places t n) (filter t (n ∷ []))

one_more : (s t : ℕ → Bool) (m n : ℕ) → s m ≡ t n → length (filter s (m ∷ [])) ≡ length (filter t (n ∷ []))
one_more s t m n e = elim (cases_Bool (t n)) [ inl h ↦ rw (e, h) refl | inr h ↦ rw (e, h) refl ]

column : (f : ℕ → ℕ → Bool) (k n : ℕ) → sum_by (λ r. length (places (λ o. f o r) (suc k))) (upto n) ≡ sum_by (λ r. length (places (λ o. f o r) k)) (upto n) + length (places (f k) n)
column f k zero = refl
column f k (suc n) =
    omega (
      arith,
      sum_by_push (λ r. length (places (λ o. f o r) (suc k))) (upto n) n,
      sum_by_push (λ r. length (places (λ o. f o r) k)) (upto n) n,
      last_place (λ o. f o n) k,
      last_place (f k) n,
      one_more (λ o. f o n) (f k) k n refl,
      column f k n,
    )

by_columns : (f : ℕ → ℕ → Bool) (k n : ℕ) → sum_by (λ o. length (places (f o) n)) (upto k) ≡ sum_by (λ r. length (places (λ o. f o r) k)) (upto n)
by_columns f zero n = sym (sum_zero n)
by_columns f (suc k) n = omega (arith, sum_by_push (λ o. length (places (f o) n)) (upto k) k, by_columns f k n, column f k n)

-- a table of truth values has as many true ones by rows as by columns
turned_pairs : (f : ℕ → ℕ → Bool) (k n : ℕ) → pairs_of (lists_by (λ r o. f o r) n k).lists ≡ pairs_of (lists_by f k n).lists
turned_pairs f k n = sum_by_map length (λ r. places (λ o. f o r) k) (upto n) ∙ sym (by_columns f k n) ∙ sym (sum_by_map length (λ o. places (f o) n) (upto k))

-- sets of places are the lists by what they have
by_members : (a : Lists) → All (IsPlaces a.bound) a.lists → lists_by (λ i r. has (list_at a i) r) (length a.lists) a.bound ≡ a
by_members a sets =
    let each : map (λ i. places (has (list_at a i)) a.bound) (upto (length a.lists)) ≡ a.lists =
    map_upto_agree (λ i. places (has (list_at a i)) a.bound) (list_at a) (length a.lists) (λ i l. All-get_or (IsPlaces a.bound) a.lists i [] l sets) ∙ map_upto a.lists [] in
    ap (λ (lists : List (List ℕ)). let made : Lists = record { lists = lists; bound = a.bound } in made) each

inverting : (a : Lists) → All (IsPlaces a.bound) a.lists → pairs_of (inverted a).lists ≡ pairs_of a.lists
inverting a sets = turned_pairs (λ i r. has (list_at a i) r) (length a.lists) a.bound ∙ ap (λ (m : Lists). pairs_of m.lists) (by_members a sets)

both_ways : (plan : Expr) (tables : List (List Row)) (table : ℕ) → pairs_of (forwards plan tables table).lists ≡ pairs_of (backs plan tables table).lists
both_ways plan tables table = ap (λ (m : Lists). pairs_of m.lists) (sym (lists_stand.forwards_invert plan tables table)) ∙ inverting (backs plan tables table) (lists_stand.backs_places plan tables table)

pub pairs_forward : PairsForward
pairs_forward = record { inverting = inverting; both_ways = both_ways; pairs_are = λ plan tables table. both_ways plan tables table ∙ lists_stand.pairs_are plan tables table }
