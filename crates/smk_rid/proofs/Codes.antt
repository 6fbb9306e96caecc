-- What stands for lists of at most one rid.
use Rattle.std.proofs.{Common.{◌≡◌, ◌∙◌, ◌<◌, ◌+◌, ◌-◌, ℕ, suc, length, List, [], ◌∷◌, ◌++◌, refl, sym, ap, map, arith, get_or, take, drop, nat_lt, Bool, cond}, Math.ListN.replicate, lemmas.Bool.ne_eqb, lemmas.List.{length-map, get_or-map, take_more, drop_more, append-nil, append_assoc}, lemmas.List.Elements.filter_more, lemmas.List.Sums.sum_by_more, lemmas.Grind.flat_map-append}
use Rattle.std.specs.List.{flat_map, filter}
use Rattle.smk_base.specs.Places.{pairs_of, upto}
use Rattle.smk_rid.specs.Packing.{one_of}
use Rattle.smk_base.proofs.Places.{get_or_upto}

-- the list that a code stands for
pub at_code : {C : Type 0} (number : C → ℕ) (codes : List C) (p : ℕ) (code : C) (n : ℕ) → p < length codes → code ≡ get_or codes p code → n ≡ number code → get_or (map one_of (map number codes)) p [] ≡ one_of n
at_code number codes p code n low is e =
    get_or-map one_of (map number codes) p 0 [] (omega (arith, low, length-map codes number)) ∙ ap one_of (get_or-map number codes p code 0 low ∙ ap number (sym is) ∙ sym e)

pub one_none : (n : ℕ) → n ≡ 4294967295 → one_of n ≡ []
one_none n e = rw e refl

pub one_some : (n : ℕ) → (n ≡ 4294967295 → ⊥) → one_of n ≡ n ∷ []
one_some n some = rw (ne_eqb n 4294967295 some) refl

-- one more place, whose list is put last
pub put_more : (f : ℕ → List ℕ) (places : List ℕ) (i : ℕ) (start before after list : List ℕ) → i < length places → f (get_or places i 0) ≡ list → before ≡ start ++ flat_map f (take i places) → after ≡ before ++ list → after ≡ start ++ flat_map f (take (i + 1) places)
put_more f places i start before after list low at is put =
    let more : flat_map f (take (i + 1) places) ≡ flat_map f (take i places) ++ list = ap (flat_map f) (take_more places i 0 low) ∙ flat_map-append f (take i places) (get_or places i 0 ∷ []) ∙ ap (λ (z : List ℕ). flat_map f (take i places) ++ z) (append-nil (f (get_or places i 0)) ∙ at) in
    put ∙ ap (λ (z : List ℕ). z ++ list) is ∙ append_assoc start (flat_map f (take i places)) list ∙ ap (λ (z : List ℕ). start ++ z) (sym more)

-- one more place, which is put last if its list isn't empty
pub keep_more : (f : ℕ → List ℕ) (places : List ℕ) (i : ℕ) (start before after list : List ℕ) → i < length places → f (get_or places i 0) ≡ list → before ≡ start ++ filter (λ p. nat_lt 0 (length (f p))) (take i places) → after ≡ before ++ cond (nat_lt 0 (length list)) (get_or places i 0 ∷ []) [] → after ≡ start ++ filter (λ p. nat_lt 0 (length (f p))) (take (i + 1) places)
keep_more f places i start before after list low at is put =
    let test : ℕ → Bool = λ p. nat_lt 0 (length (f p)) in
    let last : List ℕ = cond (nat_lt 0 (length list)) (get_or places i 0 ∷ []) [] in
    let more : filter test (take (i + 1) places) ≡ filter test (take i places) ++ last = filter_more test places i 0 low ∙ ap (λ (z : List ℕ). filter test (take i places) ++ cond (nat_lt 0 (length z)) (get_or places i 0 ∷ []) []) at in
    put ∙ ap (λ (z : List ℕ). z ++ last) is ∙ append_assoc start (filter test (take i places)) last ∙ ap (λ (z : List ℕ). start ++ z) (sym more)

-- one more list, counted
pub pairs_more : {C : Type 0} (number : C → ℕ) (codes : List C) (k : ℕ) (code : C) (n : ℕ) → k < length codes → code ≡ get_or codes k code → n ≡ number code → pairs_of (take (k + 1) (map one_of (map number codes))) ≡ pairs_of (take k (map one_of (map number codes))) + length (one_of n)
pairs_more number codes k code n low is e =
    let lists : List (List ℕ) = map one_of (map number codes) in
    sum_by_more (length {A = ℕ}) lists k [] (omega (arith, low, length-map codes number, length-map (map number codes) one_of)) ∙ ap (λ (z : List ℕ). pairs_of (take k lists) + length z) (at_code number codes k code n low is e)

-- one of the numbers below a bound
pub upto_alone : (numbers : List ℕ) (rid : ℕ) → numbers ≡ upto (length numbers) → rid < length numbers → take (rid + 1 - rid) (drop rid numbers) ≡ rid ∷ []
upto_alone numbers rid all low =
    let at : get_or numbers rid 0 ≡ rid = ap (λ (z : List ℕ). get_or z rid 0) all ∙ get_or_upto (length numbers) rid 0 low in
    let one : rid + 1 - rid ≡ 1 = omega arith in
    ap (λ (k : ℕ). take k (drop rid numbers)) one ∙ ap (take 1) (drop_more numbers rid 0 low) ∙ ap (λ (r : ℕ). r ∷ []) at

-- places of empty lists
pub at_none : (n p : ℕ) → get_or (replicate n (let e : List ℕ = [] in e)) p [] ≡ []
at_none (suc n) (suc p) = at_none n p
at_none _ _ = refl

pub put_none : (n : ℕ) (places : List ℕ) → flat_map (λ p. get_or (replicate n (let e : List ℕ = [] in e)) p []) places ≡ []
put_none n [] = refl
put_none n (p ∷ places) = rw (at_none n p) (put_none n places)

pub keep_none : (n : ℕ) (places : List ℕ) → filter (λ p. nat_lt 0 (length (get_or (replicate n (let e : List ℕ = [] in e)) p []))) places ≡ []
keep_none n [] = refl
keep_none n (p ∷ places) = rw (at_none n p) (keep_none n places)
