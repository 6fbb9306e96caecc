-- A text in quotes is the longest.
use Rattle.std.specs.Prelude.{◌==◌, if◌then◌else◌}
use Rattle.std.proofs.{Common.{◌≡◌, ◌∙◌, ℕ, suc, ◌+◌, ◌≤◌, false, List, [], ◌∷◌, Option, Some, None, ap, sym, subst, refl, arith, inl, inr}, lemmas.Bool.{cases_eq, eq-eqb, ne_eqb}}
use Rattle.smk_model.specs.{Tokens.string_len, TokenLaws.{ClosesString, closing, one_byte, a_pair, IsLongest, StringsAreLongest}}

-- how far the text goes with n bytes passed before: as far as the greatest length that closes it, or as far as is kept where none does
data Reaches (kept : Option ℕ) (n : ℕ) (bs : List ℕ) (r : Option ℕ) : Type 0 where
  to : (m : ℕ) → r ≡ Some (n + m) → ClosesString m bs → ((k : ℕ) → ClosesString k bs → k ≤ m) → Reaches kept n bs r
  none : r ≡ kept → ((k : ℕ) → ClosesString k bs → ⊥) → Reaches kept n bs r

none_of : (k : ℕ) → ClosesString k [] → ⊥
none_of k h = elim h [ ]

last_quote : (b k : ℕ) → b ≡ 34 → ClosesString k (b ∷ []) → k ≤ 1
last_quote b _ q (closing e) = omega arith
last_quote b _ q (one_byte n l h) = absurd (n q)

-- a quote with a byte behind it
quoted : (b c m : ℕ) (cs : List ℕ) → b ≡ 34 → 1 ≤ m → ((k : ℕ) → c ≡ 34 → ClosesString k cs → suc (suc k) ≤ m) → (k : ℕ) → ClosesString k (b ∷ c ∷ cs) → k ≤ m
quoted b c m cs q some f _ (closing e) = some
quoted b c m cs q some f _ (one_byte n l h) = absurd (n q)
quoted b c m cs q some f _ (a_pair e d h) = f _ d h

-- another byte
other : (b k : ℕ) (bs : List ℕ) → (b ≡ 34 → ⊥) → ClosesString k (b ∷ bs) → (b ≡ 10 → ⊥) × (j : ℕ) × (k ≡ suc j) × ClosesString j bs
other b _ bs q (closing e) = absurd (q e)
other b _ bs q (one_byte {n = n} p l h) = (l, n, refl, h)
other b _ _ q (a_pair e d h) = absurd (q e)

-- one more byte that isn't a quote
one_more : (b n : ℕ) (bs : List ℕ) (kept r : Option ℕ) → (b ≡ 34 → ⊥) → (b ≡ 10 → ⊥) → Reaches kept (n + 1) bs r → Reaches kept n (b ∷ bs) r
one_more b n bs kept r q l (to m e h f) = to (suc m) (e ∙ ap (λ k. Some k) (omega arith)) (one_byte q l h) (λ k g. let o = other b k bs q g in let low = f o.1 o.3 in omega (arith, low, o.2))
one_more b n bs kept r q l (none e f) = none e (λ k g. let o = other b k bs q g in f o.1 o.3)

by_end : (b : ℕ) (bs : List ℕ) (kept : Option ℕ) (n : ℕ) → (b ≡ 34 → ⊥) → Reaches kept (n + 1) bs (string_len kept false (n + 1) bs) → Reaches kept n (b ∷ bs) (if b == 10 then kept else string_len kept false (n + 1) bs)
by_end b bs kept n q h = elim (cases_eq b 10) [
  | inl l ↦ rw (eq-eqb b 10 l) (none refl (λ k g. (other b k bs q g).0 l))
  | inr l ↦ rw (ne_eqb b 10 l) (one_more b n bs kept _ q l h)
]

-- a pair of quotes more, of which the first may be the last quote
pair_more : (b c n : ℕ) (cs : List ℕ) (kept r : Option ℕ) → b ≡ 34 → c ≡ 34 → Reaches (Some (n + 1)) (n + 1 + 1) cs r → Reaches kept n (b ∷ c ∷ cs) r
pair_more b c n cs kept r q d (to m e h f) = to (suc (suc m)) (e ∙ ap (λ k. Some k) (omega arith)) (a_pair q d h) (quoted b c (suc (suc m)) cs q (omega arith) (λ k e g. let low = f k g in omega (arith, low)))
pair_more b c n cs kept r q d (none e f) = to 1 e (closing q) (quoted b c 1 cs q (omega arith) (λ k e g. absurd (f k g)))

reaches : (bs : List ℕ) (kept : Option ℕ) (n : ℕ) → Reaches kept n bs (string_len kept false n bs)
reaches [] kept n = none refl none_of
reaches (b ∷ []) kept n = elim (cases_eq b 34) [
  | inl q ↦ rw (eq-eqb b 34 q) (to 1 refl (closing q) (λ k h. last_quote b k q h))
  | inr q ↦ rw (ne_eqb b 34 q) (by_end b [] kept n q (reaches [] kept (n + 1)))
]
reaches (b ∷ c ∷ cs) kept n = elim (cases_eq b 34) [
  | inl q ↦ rw (eq-eqb b 34 q) (elim (cases_eq c 34) [
    | inl d ↦ rw (eq-eqb c 34 d) (pair_more b c n cs kept _ q d (reaches cs (Some (n + 1)) (n + 1 + 1)))
    | inr d ↦ rw (ne_eqb c 34 d) (to 1 refl (closing q) (quoted b c 1 cs q (omega arith) (λ k e g. absurd (d e))))
  ])
  | inr q ↦ rw (ne_eqb b 34 q) (by_end b (c ∷ cs) kept n q (reaches (c ∷ cs) kept (n + 1)))
]

pub strings_are_longest : StringsAreLongest
strings_are_longest text = by (string_len None false 0 text) (reaches text None 0)
  where
    by : (r : Option ℕ) → Reaches None 0 text r → IsLongest text r
    by r (to m e h f) = subst (IsLongest text) (sym (e ∙ ap (λ k. Some k) (omega arith))) (h, f)
    by r (none e f) = subst (IsLongest text) (sym e) f
