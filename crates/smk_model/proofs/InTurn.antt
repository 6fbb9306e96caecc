-- What is read one after the other: how a symbol goes on at the token in hand, and a rule behind another.
use Rattle.std.specs.Prelude.{Ok, Err, Some, None}
use Rattle.std.proofs.Common.{◌≡◌, ◌≤◌, List, [], ◌∷◌, length, Bool, true, false, ap, ◌∙◌, sym, refl, arith}
use Rattle.smk_model.specs.{Tokens.{Token, head_of, tail_of}, Rules.{PlanCounts, Configuration, Symbol, Tree, Rule, Gives, Reads, behind, Opening, onward}, TokenReadings.{Count, Fine, Above, Counting, Move, Takes, Skips, Faults, opened, move_of, goes_on, settle, limits, Outcome, Ended, Open, Failed, after, through, Reading, read_off, reads, runs}}

behind_behind : {A B C : Type 0} (rule : Rule A) (f : A → Rule B) (g : B → Rule C) → behind (behind rule f) g ≡ behind rule (λ x. behind (f x) g)
behind_behind (Gives x) f g = refl
behind_behind (Reads symbol rest) f g = λ i. Reads symbol (λ tree. behind_behind (rest tree) f g i)

behind_gives : {A : Type 0} (rule : Rule A) → behind rule Gives ≡ rule
behind_gives (Gives x) = refl
behind_gives (Reads symbol rest) = λ i. Reads symbol (λ tree. behind_gives (rest tree) i)

settle_behind : {A B : Type 0} (counting : Counting) (rule : Rule A) (next : A → Rule B) (c : PlanCounts) (t : Token) → settle counting (behind rule next) c t ≡ goes_on (settle counting rule c t) next (λ x. settle counting (next x) c t)
settle_behind counting (Gives x) next c t = refl
settle_behind {A} {B} counting (Reads symbol rest) next c t = by (move_of counting symbol c t) (λ v. settle_behind counting (rest v) next c t)
  where
    by : (m : Move (Tree symbol)) → ((v : Tree symbol) → settle counting (behind (rest v) next) c t ≡ goes_on (settle counting (rest v) c t) next (λ x. settle counting (next x) c t)) → goes_on m (λ tree. behind (rest tree) next) (λ tree. settle counting (behind (rest tree) next) c t) ≡ goes_on (goes_on m rest (λ tree. settle counting (rest tree) c t)) next (λ x. settle counting (next x) c t)
    by (Takes d rule) rec = ap (Takes d) (sym (behind_behind rule rest next))
    by (Skips v) rec = rec v
    by (Faults f) rec = refl

-- behind the first token of what is left, a rule goes on as it stands
pub again : {A : Type 0} (counting : Counting) (rule : Rule A) (c : PlanCounts) (t : Token) (ts : List Token) → after (settle counting rule c t) t ts c (λ d made. through counting made d ts) ≡ through counting rule c (t ∷ ts)
again counting (Gives x) c t ts = refl
again counting (Reads symbol rest) c t ts = refl

-- what is read first, and what is read behind it
abbrev pub then : {A B : Type 0} → Reading A → (A → Configuration → Reading B) → Reading B
then (Ok p) next = next p.0 p.1
then (Err f) next = Err f

in_turn : {A B : Type 0} (counting : Counting) (rule : Rule A) (next : A → Rule B) (c : PlanCounts) (ts : List Token) → read_off (through counting (behind rule next) c ts) ≡ then (read_off (through counting rule c ts)) (λ x b. read_off (through counting (next x) b.counts b.rest))
in_turn counting (Gives x) next c ts = refl
in_turn counting (Reads symbol rest) next c [] = refl
in_turn {A} {B} counting (Reads symbol rest) next c (t ∷ ts) = ap (λ m. read_off (after m t ts c (λ d made. through counting made d ts))) (settle_behind counting (Reads symbol rest) next c t) ∙ by (settle counting (Reads symbol rest) c t) (λ d made. in_turn counting made next d ts)
  where
    by : (m : Move A) → ((d : PlanCounts) (made : Rule A) → read_off (through counting (behind made next) d ts) ≡ then (read_off (through counting made d ts)) (λ x b. read_off (through counting (next x) b.counts b.rest)))
        → read_off (after (goes_on m next (λ x. settle counting (next x) c t)) t ts c (λ d made. through counting made d ts)) ≡ then (read_off (after m t ts c (λ d made. through counting made d ts))) (λ x b. read_off (through counting (next x) b.counts b.rest))
    by (Takes d made) rec = rec d made
    by (Skips x) rec = ap read_off (again counting (next x) c t ts)
    by (Faults f) rec = refl

pub runs_gives : {A : Type 0} (x : A) (a : Configuration) → runs (Gives x) a ≡ Ok (x, a)
unfolding runs
runs_gives x a = refl

pub runs_reads : {A : Type 0} (symbol : Symbol) (rest : Tree symbol → Rule A) (a : Configuration) → runs (Reads symbol rest) a ≡ then (reads symbol a) (λ x b. runs (rest x) b)
unfolding runs reads
runs_reads symbol rest a = in_turn limits (Reads symbol Gives) rest a.counts a.rest

pub only : (symbol : Symbol) (a : Configuration) → runs (Reads symbol Gives) a ≡ reads symbol a
unfolding runs reads
only symbol a = refl

pub runs_behind : {A B : Type 0} (rule : Rule A) (next : A → Rule B) (a : Configuration) → runs (behind rule next) a ≡ then (runs rule a) (λ x b. runs (next x) b)
unfolding runs
runs_behind rule next a = in_turn limits rule next a.counts a.rest

-- a symbol at the token in hand
abbrev pub goes : {A : Type 0} → Configuration → Move A → Reading A
goes a (Takes c rule) = runs rule (record { rest = tail_of a.rest; counts = c })
goes a (Skips x) = Ok (x, a)
goes a (Faults f) = Err f

goes_gives : {A : Type 0} (m : Move A) → goes_on m Gives Skips ≡ m
goes_gives (Takes d rule) = ap (Takes d) (behind_gives rule)
goes_gives (Skips x) = refl
goes_gives (Faults f) = refl

-- there is a token in hand
abbrev pub Here : Configuration → Type 0
Here a = a.rest ≡ head_of a.rest ∷ tail_of a.rest

pub reading : (symbol : Symbol) (a : Configuration) → Here a → reads symbol a ≡ goes a (move_of limits symbol a.counts (head_of a.rest))
unfolding reads runs
reading symbol a h = by a.rest h
  where
    goes_at : (t : Token) (ts : List Token) (m : Move (Tree symbol)) → read_off (after m t ts a.counts (λ d made. through limits made d ts)) ≡ goes (record { rest = t ∷ ts; counts = a.counts }) m
    goes_at t ts (Takes d rule) = refl
    goes_at t ts (Skips x) = refl
    goes_at t ts (Faults f) = refl

    by : (l : List Token) → l ≡ head_of l ∷ tail_of l → read_off (through limits (Reads symbol Gives) a.counts l) ≡ goes (record { rest = l; counts = a.counts }) (move_of limits symbol a.counts (head_of l))
    by [] e = absurd (cc)
    by (t ∷ ts) e = ap (λ m. read_off (after m t ts a.counts (λ d made. through limits made d ts))) (goes_gives (move_of limits symbol a.counts t)) ∙ goes_at t ts (move_of limits symbol a.counts t)

-- a symbol that at this token begins with another and goes on behind it
pub begins_with : (symbol first : Symbol) (rest : Tree first → Rule (Tree symbol)) (a : Configuration) → move_of limits symbol a.counts (head_of a.rest) ≡ goes_on (move_of limits first a.counts (head_of a.rest)) rest (λ x. settle limits (rest x) a.counts (head_of a.rest)) → reads symbol a ≡ then (reads first a) (λ x b. runs (rest x) b)
unfolding reads runs
begins_with symbol first rest a h = by a.rest h ∙ runs_reads first rest a
  where
    by : (l : List Token) → move_of limits symbol a.counts (head_of l) ≡ goes_on (move_of limits first a.counts (head_of l)) rest (λ x. settle limits (rest x) a.counts (head_of l)) → read_off (through limits (Reads symbol Gives) a.counts l) ≡ read_off (through limits (Reads first rest) a.counts l)
    by [] h = refl
    by (t ∷ ts) h = ap (λ m. read_off (after m t ts a.counts (λ d made. through limits made d ts))) (goes_gives (move_of limits symbol a.counts t) ∙ h)

pub opened_onward : {A B : Type 0} (t : Token) (ranged : Bool) (count : Count) (rule : Opening A) (rest : A → Rule B) (next : A → Move B) → opened t ranged count None (onward rule rest) ≡ goes_on (opened t ranged count None rule) rest next
opened_onward t true (Fine c) (Some rule) rest next = refl
opened_onward t false (Fine c) (Some rule) rest next = refl
opened_onward t ranged (Above what) (Some rule) rest next = refl
opened_onward t ranged count None rest next = refl

pub same_end : {A : Type 0} (x y : A) (a b : Configuration) → Ended x a ≡ Ended y b → (x ≡ y) × (a ≡ b)
same_end x y a b e = (cc, cc)

-- no token comes back
fewer_at : {A : Type 0} (counting : Counting) (rule : Rule A) (c : PlanCounts) (ts : List Token) (x : A) (b : Configuration) → through counting rule c ts ≡ Ended x b → length b.rest ≤ length ts
fewer_at counting (Gives y) c ts x b e = let n = ap (λ (k : Configuration). length k.rest) (same_end y x (record { rest = ts; counts = c }) b e).1 in omega arith
fewer_at counting (Reads symbol rest) c [] x b e = absurd (cc)
fewer_at {A} counting (Reads symbol rest) c (t ∷ ts) x b e = by (settle counting (Reads symbol rest) c t) (λ d made. fewer_at counting made d ts x b) e
  where
    by : (m : Move A) → ((d : PlanCounts) (made : Rule A) → through counting made d ts ≡ Ended x b → length b.rest ≤ length ts) → after m t ts c (λ d made. through counting made d ts) ≡ Ended x b → length b.rest ≤ length (t ∷ ts)
    by (Takes d made) rec f = let n = rec d made f in omega arith
    by (Skips y) rec f = let n = ap (λ (k : Configuration). length k.rest) (same_end y x (record { rest = t ∷ ts; counts = c }) b f).1 in omega arith
    by (Faults g) rec f = absurd (cc)

abbrev ok : {A : Type 0} → A × Configuration → Reading A
ok p = Ok p

ok_same : {A : Type 0} (p q : A × Configuration) → ok p ≡ ok q → p ≡ q
ok_same p q e = cc

pub ended_of : {A : Type 0} (o : Outcome A) (x : A) (b : Configuration) → read_off o ≡ Ok (x, b) → o ≡ Ended x b
ended_of {A} (Ended y a) x b e = ap (λ (q : A × Configuration). Ended q.0 q.1) (ok_same (y, a) (x, b) e)
ended_of (Open rule c) x b e = absurd (cc)
ended_of (Failed f) x b e = absurd (cc)

pub fewer_run : {A : Type 0} (rule : Rule A) (a b : Configuration) (x : A) → runs rule a ≡ Ok (x, b) → length b.rest ≤ length a.rest
unfolding runs
fewer_run rule a b x e = fewer_at limits rule a.counts a.rest x b (ended_of (through limits rule a.counts a.rest) x b e)

pub fewer : (symbol : Symbol) (a b : Configuration) (x : Tree symbol) → reads symbol a ≡ Ok (x, b) → length b.rest ≤ length a.rest
unfolding reads runs
fewer symbol a b x e = fewer_run (Reads symbol Gives) a b x e
