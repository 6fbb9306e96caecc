-- What is read of tokens is spelled by them.
use Rattle.std.proofs.Common.{◌≡◌, Bool, true, false, List, [], ◌∷◌, refl, ap, sym, ◌∙◌, subst}
use Rattle.std.specs.Prelude.{Option, Some, None}
use Rattle.smk_model.specs.{Tokens.Token, Rules.{PlanCounts, Configuration, no_counts, Symbol, Tree, Rule, Gives, Reads, behind, Opening}, LanguageTable.{rule_of, if_nothing}, TokenReadings.{in_range, limits, Count, Fine, Above, Counting, Move, Takes, Skips, Faults, checked, or_nothing, opened, move_of, goes_on, settle, Outcome, Ended, Open, Failed, after, through}, Spelled.{Spells, begun, nothing, Follows, given, read, Says}}
use Rattle.smk_model.proofs.InTurn.{same_end}

-- a token that is taken begins the symbol, within its limit
pub record Begins (counting : Counting) (symbol : Symbol) (c d : PlanCounts) (t : Token) (made : Rule (Tree symbol)) : Type 0 where
  pub rule : Token → Rule (Tree symbol)
  pub is : rule_of symbol t.kind ≡ Some rule
  pub ranged : in_range symbol t ≡ true
  pub counted : counting symbol c t ≡ Fine d
  pub makes : rule t ≡ made

takes_by : (counting : Counting) (symbol : Symbol) (c d : PlanCounts) (t : Token) (made : Rule (Tree symbol)) (rule : Token → Rule (Tree symbol)) → rule_of symbol t.kind ≡ Some rule → (o : Bool) → in_range symbol t ≡ o → (count : Count) → counting symbol c t ≡ count → checked (rule t) o t count ≡ Takes d made → Begins counting symbol c d t made
takes_by counting symbol c d t made rule is true r (Fine f) k e = let same : f ≡ d = cc in record { rule = rule; is = is; ranged = r; counted = k ∙ ap Fine same; makes = cc }
takes_by counting symbol c d t made rule is false r (Fine f) k e = absurd (cc)
takes_by counting symbol c d t made rule is o r (Above what) k e = absurd (cc)

checked_skips : {A : Type 0} (rule : Rule A) (o : Bool) (t : Token) (count : Count) (tree : A) → checked rule o t count ≡ Skips tree → ⊥
checked_skips rule true t (Fine c) tree e = cc
checked_skips rule false t (Fine c) tree e = cc
checked_skips rule o t (Above what) tree e = cc

nothing_takes : {A : Type 0} (t : Token) (o : Option A) (d : PlanCounts) (made : Rule A) → or_nothing t o ≡ Takes d made → ⊥
nothing_takes t (Some tree) d made e = cc
nothing_takes t None d made e = cc

nothing_skips : {A : Type 0} (t : Token) (o : Option A) (tree : A) → or_nothing t o ≡ Skips tree → o ≡ Some tree
nothing_skips t (Some x) tree e = cc
nothing_skips t None tree e = absurd (cc)

pub takes : (counting : Counting) (symbol : Symbol) (c : PlanCounts) (t : Token) (d : PlanCounts) (made : Rule (Tree symbol)) → move_of counting symbol c t ≡ Takes d made → Begins counting symbol c d t made
takes counting symbol c t d made = by (rule_of symbol t.kind) refl
  where
    by : (o : Opening (Tree symbol)) → rule_of symbol t.kind ≡ o → opened t (in_range symbol t) (counting symbol c t) (if_nothing symbol) o ≡ Takes d made → Begins counting symbol c d t made
    by (Some rule) is e = takes_by counting symbol c d t made rule is (in_range symbol t) refl (counting symbol c t) refl e
    by None is e = absurd (nothing_takes t (if_nothing symbol) d made e)

pub skips : (counting : Counting) (symbol : Symbol) (c : PlanCounts) (t : Token) (tree : Tree symbol) → move_of counting symbol c t ≡ Skips tree → if_nothing symbol ≡ Some tree
skips counting symbol c t tree = by (rule_of symbol t.kind)
  where
    by : (o : Opening (Tree symbol)) → opened t (in_range symbol t) (counting symbol c t) (if_nothing symbol) o ≡ Skips tree → if_nothing symbol ≡ Some tree
    by (Some rule) e = absurd (checked_skips (rule t) (in_range symbol t) t (counting symbol c t) tree e)
    by None e = nothing_skips t (if_nothing symbol) tree e

-- what is read behind a symbol, from what is read of the whole
record Parts (outer inner : Symbol) (rule : Rule (Tree inner)) (rest : Tree inner → Rule (Tree outer)) (a c : List Token) (tree : Tree outer) : Type 0 where
  between : List Token
  first : Tree inner
  spelled : Follows inner rule a between first
  follows : Follows outer (rest first) between c tree

parted : {outer inner : Symbol} (rule : Rule (Tree inner)) (rest : Tree inner → Rule (Tree outer)) {a c : List Token} {tree : Tree outer} → Follows outer (behind rule rest) a c tree → Parts outer inner rule rest a c tree
parted (Gives x) rest {a} h = record { between = a; first = x; spelled = given; follows = h }
parted (Reads symbol more) rest (read s h) = let p = parted (more _) rest h in record { between = p.between; first = p.first; spelled = read s p.spelled; follows = p.follows }

settled_nothing : {symbol : Symbol} (counting : Counting) (rule : Rule (Tree symbol)) (c : PlanCounts) (t : Token) (tree : Tree symbol) (a : List Token) → settle counting rule c t ≡ Skips tree → Follows symbol rule a a tree
settled_nothing {symbol} counting (Gives x) c t tree a e = let same : x ≡ tree = cc in subst (Follows symbol (Gives x) a a) same given
settled_nothing {symbol} counting (Reads inner rest) c t tree a e = by (move_of counting inner c t) refl (λ v. settled_nothing counting (rest v) c t tree a) e
  where
    by : (m : Move (Tree inner)) → move_of counting inner c t ≡ m → ((v : Tree inner) → settle counting (rest v) c t ≡ Skips tree → Follows symbol (rest v) a a tree) → goes_on m rest (λ v. settle counting (rest v) c t) ≡ Skips tree → Follows symbol (Reads inner rest) a a tree
    by (Takes d made) is rec e = absurd (cc)
    by (Skips v) is rec e = read (nothing (skips counting inner c t v is)) (rec v e)
    by (Faults f) is rec e = absurd (cc)

-- a token that begins a symbol, and what is spelled behind it
pub beginning : {outer inner : Symbol} (rest : Tree inner → Rule (Tree outer)) (t : Token) (rule : Token → Rule (Tree inner)) (a b : List Token) (tree : Tree outer) → rule_of inner t.kind ≡ Some rule → in_range inner t ≡ true → Follows outer (behind (rule t) rest) a b tree → Follows outer (Reads inner rest) (t ∷ a) b tree
beginning rest t rule a b tree is ranged h = let p = parted (rule t) rest h in read (begun is ranged p.spelled) p.follows

pub settled_taken : {symbol : Symbol} (counting : Counting) (rule : Rule (Tree symbol)) (c d : PlanCounts) (t : Token) (made : Rule (Tree symbol)) (a b : List Token) (tree : Tree symbol) → Follows symbol made a b tree → settle counting rule c t ≡ Takes d made → Follows symbol rule (t ∷ a) b tree
settled_taken counting (Gives x) c d t made a b tree h e = absurd (cc)
settled_taken {symbol} counting (Reads inner rest) c d t made a b tree h e = by (move_of counting inner c t) refl (λ v. settled_taken counting (rest v) c d t made a b tree h) e
  where
    by : (m : Move (Tree inner)) → move_of counting inner c t ≡ m → ((v : Tree inner) → settle counting (rest v) c t ≡ Takes d made → Follows symbol (rest v) (t ∷ a) b tree) → goes_on m rest (λ v. settle counting (rest v) c t) ≡ Takes d made → Follows symbol (Reads inner rest) (t ∷ a) b tree
    by (Takes f rule) is rec e =
        let same : behind rule rest ≡ made = cc in
        let begins = takes counting inner c t f rule is in
        beginning rest t begins.rule a b tree begins.is begins.ranged (subst (λ (r : Rule (Tree inner)). Follows symbol (behind r rest) a b tree) (sym begins.makes) (subst (λ (r : Rule (Tree symbol)). Follows symbol r a b tree) (sym same) h))
    by (Skips v) is rec e = read (nothing (skips counting inner c t v is)) (rec v e)
    by (Faults f) is rec e = absurd (cc)

-- what is read is spelled by the tokens up to those that are left
pub sound : {symbol : Symbol} (counting : Counting) (rule : Rule (Tree symbol)) (c : PlanCounts) (a : List Token) (tree : Tree symbol) (b : Configuration) → through counting rule c a ≡ Ended tree b → Follows symbol rule a b.rest tree
sound {symbol} counting (Gives x) c a tree b e = let s = same_end x tree (record { rest = a; counts = c }) b e in subst (λ (z : Tree symbol). Follows symbol (Gives x) a b.rest z) s.0 (subst (λ (l : List Token). Follows symbol (Gives x) a l x) (ap (λ (k : Configuration). k.rest) s.1) given)
sound counting (Reads inner rest) c [] tree b e = absurd (cc)
sound {symbol} counting (Reads inner rest) c (t ∷ a) tree b e = by (settle counting (Reads inner rest) c t) refl (λ f made. sound counting made f a tree b) e
  where
    by : (m : Move (Tree symbol)) → settle counting (Reads inner rest) c t ≡ m → ((f : PlanCounts) (made : Rule (Tree symbol)) → through counting made f a ≡ Ended tree b → Follows symbol made a b.rest tree)
        → after m t a c (λ f made. through counting made f a) ≡ Ended tree b → Follows symbol (Reads inner rest) (t ∷ a) b.rest tree
    by (Takes f made) is rec e = settled_taken counting (Reads inner rest) c f t made a b.rest tree (rec f made e) is
    by (Skips x) is rec e =
        let s = same_end x tree (record { rest = t ∷ a; counts = c }) b e in
        subst (λ (l : List Token). Follows symbol (Reads inner rest) (t ∷ a) l tree) (ap (λ (k : Configuration). k.rest) s.1) (settled_nothing counting (Reads inner rest) c t tree (t ∷ a) (is ∙ ap Skips s.0))
    by (Faults f) is rec e = absurd (cc)

-- the rule of one symbol is that symbol
pub alone : {symbol : Symbol} {a b : List Token} {tree : Tree symbol} → Follows symbol (Reads symbol Gives) a b tree → Spells symbol a b tree
alone (read s given) = s

pub says : (symbol : Symbol) (counting : Counting) (c : PlanCounts) (a : List Token) (tree : Tree symbol) (b : Configuration) → through counting (Reads symbol Gives) c a ≡ Ended tree b → Says symbol a tree
says symbol counting c a tree b e = record { behind = b.rest; spells = alone (sound counting (Reads symbol Gives) c a tree b e) }

-- what is read by computing it
abbrev pub value_in : {A : Type 0} → Outcome A → Option A
value_in (Ended x a) = Some x
value_in (Open rule c) = None
value_in (Failed fault) = None

pub computed : {symbol : Symbol} {ts : List Token} {tree : Tree symbol} → value_in (through limits (Reads symbol Gives) no_counts ts) ≡ Some tree → Says symbol ts tree
computed {symbol} {ts} {tree} = by (through limits (Reads symbol Gives) no_counts ts) refl
  where
    by : (o : Outcome (Tree symbol)) → through limits (Reads symbol Gives) no_counts ts ≡ o → value_in o ≡ Some tree → Says symbol ts tree
    by (Ended x a) e f = let same : x ≡ tree = cc in says symbol limits no_counts ts tree a (e ∙ ap (λ y. Ended y a) same)
    by (Open rule c) e f = absurd (cc)
    by (Failed fault) e f = absurd (cc)
