-- What is read without a fault keeps its limits, whatever its rules.
use Rattle.std.proofs.Common.{◌≡◌, ℕ, true, List, [], ◌∷◌, refl, ap, ◌∙◌, subst}
use Rattle.std.specs.{Prelude.{Some, None, FitsSigned}, Int.w64}
use Rattle.smk_base.specs.declared.book.token.TokenKind.{TokenKind}
use Rattle.smk_base.specs.declared.book.token.TokenKind.TheVariants as kinds
use Rattle.smk_model.specs.{Tokens.{Token, int_value}, Rules.{PlanCounts, Configuration, Symbol, Tree, Rule, Gives, Reads, behind, Opening, onward}, LanguageTable.{rule_of, if_nothing}, TokenReadings.{in_range, Fine, limits, Move, Takes, Skips, Faults, move_of, goes_on, settle, Ended, after, through}}
use Rattle.smk_model.proofs.{InTurn.same_end, Spelling.{takes, skips}}

-- where a token is a number, it is in the range of i64
abbrev pub InRange : Token → Type 0
InRange t = t.kind ≡ kinds.Number → FitsSigned w64 (int_value t.text)

abbrev pub Ranged : List Token → Type 0
Ranged [] = Unit {0}
Ranged (t ∷ ts) = InRange t × Ranged ts

abbrev pub in_hand : ℕ → TokenKind → List ℕ → Token
in_hand at kind text = record { at = at; kind = kind; text = text }

module _ (Kept : (symbol : Symbol) → PlanCounts → PlanCounts → Tree symbol → Type 0) where
  -- what is so of all that a rule gives, whatever its symbols give that keep theirs
  abbrev pub Good : {A : Type 0} → (PlanCounts → A → Type 0) → Rule A → PlanCounts → Type 0
  Good P (Gives x) c = P c x
  Good P (Reads symbol rest) c = (tree : Tree symbol) (d : PlanCounts) → Kept symbol c d tree → Good P (rest tree) d

  pub good_behind : {A B : Type 0} (Q : PlanCounts → A → Type 0) (P : PlanCounts → B → Type 0) (rule : Rule A) (rest : A → Rule B) (c : PlanCounts) → Good Q rule c → ((d : PlanCounts) (x : A) → Q d x → Good P (rest x) d) → Good P (behind rule rest) c
  good_behind Q P (Gives x) rest c g h = h c x g
  good_behind Q P (Reads symbol more) rest c g h = λ tree d k. good_behind Q P (more tree) rest d (g tree d k) h

  -- what is so of the rule behind a token of a kind, where it is counted
  abbrev pub Keeps : (symbol : Symbol) → TokenKind → Opening (Tree symbol) → Type 0
  Keeps symbol kind (Some rule) = (at : ℕ) (text : List ℕ) (c d : PlanCounts) → InRange (in_hand at kind text) → in_range symbol (in_hand at kind text) ≡ true → limits symbol c (in_hand at kind text) ≡ Fine d → Good (Kept symbol c) (rule (in_hand at kind text)) d
  Keeps symbol kind None = Unit {0}

  pub onward_keeps : (symbol first : Symbol) (kind : TokenKind) (o : Opening (Tree first)) (next : Tree first → Rule (Tree symbol))
      → ((at : ℕ) (text : List ℕ) → in_range first (in_hand at kind text) ≡ in_range symbol (in_hand at kind text)) → ((at : ℕ) (text : List ℕ) (c : PlanCounts) → limits first c (in_hand at kind text) ≡ limits symbol c (in_hand at kind text))
      → Keeps first kind o → ((c d : PlanCounts) (x : Tree first) → Kept first c d x → Good (Kept symbol c) (next x) d) → Keeps symbol kind (onward o next)
  onward_keeps symbol first kind (Some rule) next same counted k h = λ at text c d r i l. good_behind (Kept first c) (Kept symbol c) (rule (in_hand at kind text)) next d (k at text c d r (same at text ∙ i) (counted at text c ∙ l)) (λ e x q. h c e x q)
  onward_keeps symbol first kind None next same counted k h = tt

  module _ (keeps : (symbol : Symbol) (kind : TokenKind) → Keeps symbol kind (rule_of symbol kind)) (empty : (symbol : Symbol) (c : PlanCounts) (tree : Tree symbol) → if_nothing symbol ≡ Some tree → Kept symbol c c tree) where
    begun_well : (symbol : Symbol) (c d : PlanCounts) (t : Token) (made : Rule (Tree symbol)) → InRange t → move_of limits symbol c t ≡ Takes d made → Good (Kept symbol c) made d
    begun_well symbol c d t made r e =
        let b = takes limits symbol c t d made e in
        subst (λ (m : Rule (Tree symbol)). Good (Kept symbol c) m d) b.makes (subst (Keeps symbol t.kind) b.is (keeps symbol t.kind) t.at t.text c d r b.ranged b.counted)

    settled_well : {A : Type 0} (P : PlanCounts → A → Type 0) (rule : Rule A) (c : PlanCounts) (t : Token) (d : PlanCounts) (made : Rule A) → InRange t → Good P rule c → settle limits rule c t ≡ Takes d made → Good P made d
    settled_well P (Gives x) c t d made r g e = absurd (cc)
    settled_well {A} P (Reads symbol rest) c t d made r g e = by (move_of limits symbol c t) refl (λ v. settled_well P (rest v) c t d made r) e
      where
        by : (m : Move (Tree symbol)) → move_of limits symbol c t ≡ m → ((v : Tree symbol) → Good P (rest v) c → settle limits (rest v) c t ≡ Takes d made → Good P made d) → goes_on m rest (λ v. settle limits (rest v) c t) ≡ Takes d made → Good P made d
        by (Takes f rule) is rec e =
            let same : behind rule rest ≡ made = cc in
            let at : f ≡ d = cc in
            subst (λ (m : Rule A). Good P m d) same (subst (Good P (behind rule rest)) at (good_behind (Kept symbol c) P rule rest f (begun_well symbol c f t rule r is) (λ h x q. g x h q)))
        by (Skips v) is rec e = rec v (g v c (empty symbol c v (skips limits symbol c t v is))) e
        by (Faults q) is rec e = absurd (cc)

    ended_well : {A : Type 0} (P : PlanCounts → A → Type 0) (rule : Rule A) (c : PlanCounts) (t : Token) (x : A) → Good P rule c → settle limits rule c t ≡ Skips x → P c x
    ended_well P (Gives y) c t x g e = let same : y ≡ x = cc in subst (P c) same g
    ended_well {A} P (Reads symbol rest) c t x g e = by (move_of limits symbol c t) refl (λ v. ended_well P (rest v) c t x) e
      where
        by : (m : Move (Tree symbol)) → move_of limits symbol c t ≡ m → ((v : Tree symbol) → Good P (rest v) c → settle limits (rest v) c t ≡ Skips x → P c x) → goes_on m rest (λ v. settle limits (rest v) c t) ≡ Skips x → P c x
        by (Takes f rule) is rec e = absurd (cc)
        by (Skips v) is rec e = rec v (g v c (empty symbol c v (skips limits symbol c t v is))) e
        by (Faults q) is rec e = absurd (cc)

    -- what is read keeps its limits
    pub kept : {A : Type 0} (P : PlanCounts → A → Type 0) (rule : Rule A) (c : PlanCounts) (a : List Token) (x : A) (b : Configuration) → Ranged a → Good P rule c → through limits rule c a ≡ Ended x b → P b.counts x
    kept P (Gives y) c a x b r g e = let s = same_end y x (record { rest = a; counts = c }) b e in subst (λ (k : PlanCounts). P k x) (ap (λ (k : Configuration). k.counts) s.1) (subst (P c) s.0 g)
    kept P (Reads symbol rest) c [] x b r g e = absurd (cc)
    kept {A} P (Reads symbol rest) c (t ∷ a) x b r g e = by (settle limits (Reads symbol rest) c t) refl (λ f made. kept P made f a x b r.1) e
      where
        by : (m : Move A) → settle limits (Reads symbol rest) c t ≡ m → ((f : PlanCounts) (made : Rule A) → Good P made f → through limits made f a ≡ Ended x b → P b.counts x) → after m t a c (λ f made. through limits made f a) ≡ Ended x b → P b.counts x
        by (Takes f made) is rec e = rec f made (settled_well P (Reads symbol rest) c t f made r.0 g is) e
        by (Skips y) is rec e =
            let s = same_end y x (record { rest = t ∷ a; counts = c }) b e in
            subst (λ (k : PlanCounts). P k x) (ap (λ (k : Configuration). k.counts) s.1) (ended_well P (Reads symbol rest) c t x g (is ∙ ap Skips s.0))
        by (Faults q) is rec e = absurd (cc)
