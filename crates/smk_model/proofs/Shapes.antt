-- What is read up to the end takes the end as its last token, and none that can't be read; so tokens without a fault end in the end, and have a tree.
use Rattle.std.specs.Prelude.{Some, None, ◌-◌, if◌then◌else◌, take, IsTrue, not, ◌||◌}
use Rattle.std.proofs.Common.{◌≡◌, ℕ, zero, suc, ◌+◌, Bool, true, false, List, [], ◌∷◌, ap, subst, refl}
use Rattle.smk_base.specs.declared.book.token.TokenKind.{TokenKind}
use Rattle.smk_base.specs.declared.book.token.TokenKind.TheVariants as kinds
use Rattle.smk_model.specs.{Tokens.{Token, Front, Between, Begins, put, front, tokens_from, tokens, is_more}, Rules.{PlanCounts, Configuration, no_counts, Symbol, AStmts, AWholeLine, AWholeAnyLine, ASelected, Tree, Rule, Gives, Reads, behind}, LanguageTable.if_nothing, TokenReadings.{Counting, limits, Move, Takes, Skips, Faults, move_of, goes_on, settle, Ended, after, through, fault_in, fault_of, no_tally}, Spelled.Says, GrammarLaws.{Finishes, FaultlessHaveTrees}}
use Rattle.smk_model.proofs.{Opens.{is_known, is_end, readable, to_end, Shaped, opens_at}, Spelling.{takes, skips, says}}

-- the last token is one behind which no other is read, and no other is such
abbrev pub Closes : List Token → Type 0
Closes [] = ⊥
Closes (t ∷ []) = is_more t.kind ≡ false
Closes (t ∷ u ∷ ts) = (is_more t.kind ≡ true) × Closes (u ∷ ts)

put_closes : (f : Front) (at : ℕ) (bs : List ℕ) (more : ℕ → List Token) → ((n : ℕ) → Closes (more n)) → Closes (put f at bs more)
put_closes (Between n) at bs more h = h (n - 1)
put_closes (Begins kind n) at bs more h = by (is_more kind) refl (more (n - 1)) (h (n - 1))
  where
    by : (m : Bool) → is_more kind ≡ m → (ts : List Token) → Closes ts → Closes (record { at = at; kind = kind; text = take n bs } ∷ (if m then ts else []))
    by false e ts k = e
    by true e [] k = absurd k
    by true e (u ∷ ts) k = (e, k)

pub tokens_close : (passed at : ℕ) (bs : List ℕ) → Closes (tokens_from passed at bs)
tokens_close passed at [] = refl
tokens_close (suc passed) at (b ∷ bs) = tokens_close passed (at + 1) bs
tokens_close zero at (b ∷ bs) = put_closes (front (b ∷ bs)) at (b ∷ bs) (λ n. tokens_from n (at + 1) bs) (λ n. tokens_close n (at + 1) bs)

-- what is read up to the end is never nothing
not_nothing : (symbol : Symbol) (tree : Tree symbol) → if_nothing symbol ≡ Some tree → to_end symbol ≡ false
not_nothing ASelected tree e = cc
not_nothing _ tree e = cc

or_true : (o : Bool) → IsTrue (not o || true)
or_true true = refl
or_true false = refl

shaped_behind : {A B : Type 0} (whole over : Bool) (rule : Rule A) (next : A → Rule B) → Shaped whole over rule → ((x : A) → Shaped true whole (next x)) → Shaped true over (behind rule next)
shaped_behind true true (Gives x) next s h = h x
shaped_behind true false (Gives x) next s h = absurd (cc)
shaped_behind false true (Gives x) next s h = absurd (cc)
shaped_behind false false (Gives x) next s h = h x
shaped_behind whole over (Reads symbol rest) next s h = (s.0, s.1, or_true (to_end symbol), λ tree. shaped_behind whole (to_end symbol) (rest tree) next (s.3 tree) h)

-- the end is taken as the last token, no token that can't be read is taken, and nothing is passed over
abbrev pub StaysShaped : {A : Type 0} → Token → Move A → Type 0
StaysShaped t (Takes d rule) = IsTrue (is_known t.kind) × Shaped true (is_end t.kind) rule
StaysShaped t (Skips x) = ⊥
StaysShaped t (Faults fault) = Unit {0}

pub stays_shaped : {A : Type 0} (counting : Counting) (rule : Rule A) (c : PlanCounts) (t : Token) → Shaped true false rule → StaysShaped t (settle counting rule c t)
stays_shaped counting (Gives x) c t s = absurd (cc)
stays_shaped {A} counting (Reads symbol rest) c t s = by (move_of counting symbol c t) refl (λ v n. stays_shaped counting (rest v) c t (subst (λ (o : Bool). Shaped true o (rest v)) n (s.3 v)))
  where
    by : (m : Move (Tree symbol)) → move_of counting symbol c t ≡ m → ((v : Tree symbol) → to_end symbol ≡ false → StaysShaped t (settle counting (rest v) c t)) → StaysShaped t (goes_on m rest (λ v. settle counting (rest v) c t))
    by (Takes d made) is rec =
        let b = takes counting symbol c t d made is in
        let o = opens_at symbol t.kind t b.rule b.is in
        (o.known s.1, shaped_behind (to_end symbol) (is_end t.kind) made rest (subst (λ (r : Rule (Tree symbol)). Shaped (to_end symbol) (is_end t.kind) r) b.makes o.shaped) s.3)
    by (Skips v) is rec = rec v (not_nothing symbol v (skips counting symbol c t v is))
    by (Faults f) is rec = tt

kind_unknown : (k : TokenKind) → is_more k ≡ false → IsTrue (is_known k) → k ≡ kinds.End
kind_unknown kinds.End e h = refl
kind_unknown _ e h = absurd (cc)

pub more_is_no_end : (k : TokenKind) → is_more k ≡ true → k ≡ kinds.End → ⊥
more_is_no_end kinds.End h e = absurd (cc)
more_is_no_end _ h e = absurd (cc)

pub not_end : (k : TokenKind) → (k ≡ kinds.End → ⊥) → is_end k ≡ false
not_end kinds.End n = absurd (n refl)
not_end _ n = refl

-- tokens without a fault finish
finishes : {A : Type 0} (ts : List Token) (rule : Rule A) (c : PlanCounts) → Shaped true false rule → Closes ts → fault_in (through limits rule c ts) ≡ None → Finishes ts
finishes ts (Gives x) c s k e = absurd (cc)
finishes [] (Reads symbol rest) c s k e = absurd k
finishes {A} (t ∷ []) (Reads symbol rest) c s k e = by (settle limits (Reads symbol rest) c t) (stays_shaped limits (Reads symbol rest) c t s) e
  where
    by : (m : Move A) → StaysShaped t m → fault_in (after m t [] c (λ d made. through limits made d [])) ≡ None → t.kind ≡ kinds.End
    by (Takes d made) q f = kind_unknown t.kind k q.0
    by (Skips x) q f = absurd q
    by (Faults g) q f = absurd (cc)
finishes {A} (t ∷ u ∷ ts) (Reads symbol rest) c s k e = (more_is_no_end t.kind k.0, by (settle limits (Reads symbol rest) c t) (stays_shaped limits (Reads symbol rest) c t s) e (λ made d q f. finishes (u ∷ ts) made d q k.1 f))
  where
    by : (m : Move A) → StaysShaped t m → fault_in (after m t (u ∷ ts) c (λ d made. through limits made d (u ∷ ts))) ≡ None → ((made : Rule A) (d : PlanCounts) → Shaped true false made → fault_in (through limits made d (u ∷ ts)) ≡ None → Finishes (u ∷ ts)) → Finishes (u ∷ ts)
    by (Takes d made) q f rec = rec made d (subst (λ (o : Bool). Shaped true o made) (not_end t.kind (more_is_no_end t.kind k.0)) q.1) f
    by (Skips x) q f rec = absurd q
    by (Faults g) q f rec = absurd (cc)

-- each symbol that is read up to the end
pub whole : (symbol : Symbol) → to_end symbol ≡ true → IsTrue (readable symbol) → Shaped true false (Reads symbol Gives)
whole symbol e r = (refl, r, or_true (to_end symbol), λ tree. e)

pub faultless_finish : (symbol : Symbol) → to_end symbol ≡ true → IsTrue (readable symbol) → (text : List ℕ) → fault_of symbol (tokens text) ≡ None → Finishes (tokens text)
faultless_finish symbol h r text e = finishes (tokens text) (Reads symbol Gives) no_counts (whole symbol h r) (tokens_close 0 0 text) e

-- what is read up to the end, where it is behind
is_given : {A : Type 0} (rule : Rule A) → Shaped true true rule → (x : A) × (rule ≡ Gives x)
is_given (Gives x) s = (x, refl)
is_given (Reads symbol rest) s = absurd (cc (s.0))

-- tokens that finish, and have no fault, are read up to the end
read_whole : {A : Type 0} (ts : List Token) (rule : Rule A) (c : PlanCounts) → Shaped true false rule → Finishes ts → fault_in (through limits rule c ts) ≡ None → (tree : A) × (b : Configuration) × (through limits rule c ts ≡ Ended tree b)
read_whole ts (Gives x) c s f e = absurd (cc)
read_whole [] (Reads symbol rest) c s f e = absurd f
read_whole {A} (t ∷ []) (Reads symbol rest) c s f e = by (settle limits (Reads symbol rest) c t) (stays_shaped limits (Reads symbol rest) c t s) e
  where
    by : (m : Move A) → StaysShaped t m → fault_in (after m t [] c (λ d made. through limits made d [])) ≡ None → (tree : A) × (b : Configuration) × (after m t [] c (λ d made. through limits made d []) ≡ Ended tree b)
    by (Takes d made) q g = let r = is_given made (subst (λ (k : TokenKind). Shaped true (is_end k) made) f q.1) in (r.0, record { rest = []; counts = d }, ap (λ (rule : Rule A). through limits rule d []) r.1)
    by (Skips x) q g = absurd q
    by (Faults g) q h = absurd (cc)
read_whole {A} (t ∷ u ∷ ts) (Reads symbol rest) c s f e = by (settle limits (Reads symbol rest) c t) (stays_shaped limits (Reads symbol rest) c t s) e (λ made d q g. read_whole (u ∷ ts) made d q f.1 g)
  where
    by : (m : Move A) → StaysShaped t m → fault_in (after m t (u ∷ ts) c (λ d made. through limits made d (u ∷ ts))) ≡ None → ((made : Rule A) (d : PlanCounts) → Shaped true false made → fault_in (through limits made d (u ∷ ts)) ≡ None → (tree : A) × (b : Configuration) × (through limits made d (u ∷ ts) ≡ Ended tree b))
        → (tree : A) × (b : Configuration) × (after m t (u ∷ ts) c (λ d made. through limits made d (u ∷ ts)) ≡ Ended tree b)
    by (Takes d made) q g rec = rec made d (subst (λ (o : Bool). Shaped true o made) (not_end t.kind f.0) q.1) g
    by (Skips x) q g rec = absurd q
    by (Faults h) q g rec = absurd (cc)

pub has_tree : (symbol : Symbol) → to_end symbol ≡ true → IsTrue (readable symbol) → (ts : List Token) → Finishes ts → fault_of symbol ts ≡ None → (tree : Tree symbol) × Says symbol ts tree
has_tree symbol h r ts f e = let t = read_whole ts (Reads symbol Gives) no_counts (whole symbol h r) f e in (t.0, says symbol limits no_counts ts t.0 t.1 t.2)

pub faultless_have_trees : FaultlessHaveTrees
faultless_have_trees = record { book = has_tree (AStmts no_tally) refl refl; line = has_tree AWholeLine refl refl; any = has_tree AWholeAnyLine refl refl }
