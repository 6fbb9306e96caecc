-- What tokens spell is what is read of them, but where a limit is passed; so no tokens spell two trees.
use Rattle.std.proofs.{Common.{◌≡◌, ℕ, ◌≤◌, ◌<◌, Bool, true, false, List, [], ◌∷◌, refl, ap, sym, ◌∙◌, subst, arith}, lemmas.Bool.{leb-true, ltb-true}, Math.Nat.{le-max_left, le-max_right}}
use Rattle.std.specs.Prelude.{Some, None, cond, max, IsTrue, nat_lt, is_some, not, ◌||◌}
use Rattle.smk_base.specs.{declared.fault.BookFault.BookFault, declared.fault.BookFault.TheVariants.TooMany, declared.fault.Many.Many, declared.book.tree.Line.Line, Trees.{StmtImage, AnyLineImage}}
use Rattle.smk_model.specs.{Tokens.Token, Rules.{PlanCounts, no_counts, Symbol, ADefault, AStmts, AWholeLine, AWholeAnyLine, Tree, Rule, Gives, Reads, behind, Opening}, LanguageTable.{rule_of, if_nothing}, TokenReadings.{in_range, Count, Fine, Above, Counting, Move, Takes, Skips, Faults, checked, or_nothing, opened, move_of, goes_on, settle, Outcome, Ended, Failed, after, through, no_tally}, Spelled.{Spells, begun, nothing, Follows, given, read, Says, AreStmts, IsWholeLine, IsWholeAnyLine}}
use Rattle.smk_model.proofs.{InTurn.again, Opens.{rank, rank_of, least, follows, Fits, Throughout, opens_at}}

starts : {symbol : Symbol} {rule : Rule (Tree symbol)} {a c : List Token} {tree : Tree symbol} → Follows symbol rule a c tree → (last first : ℕ) → Fits last first rule → last ≤ rank_of c → first ≤ rank_of a
starts given last first fits s = let l : first ≤ last = leb-true first last fits in omega arith
starts (read {symbol} {inner} {rest} {a} (begun {symbol = inner'} {t} {a = a'} {rule} is ranged h) more) last first fits s =
    let o = opens_at inner t.kind t rule is in
    let l : first ≤ least inner = leb-true first (least inner) fits.0 in
    let m : least inner ≤ rank t.kind = leb-true (least inner) (rank t.kind) o.least in
    omega arith
starts (read {symbol} {inner} {rest} (nothing {tree = v} is) more) last first fits s =
    let some : is_some (if_nothing inner) ≡ true = ap is_some is in
    let r = starts more last (max first (follows inner)) (subst (λ (o : Bool). Fits last (cond o (max first (follows inner)) (follows inner)) (rest v)) some (fits.1 v)) s in
    let l = le-max_left first (follows inner) in
    omega arith

-- a symbol that may be nothing isn't so at the end of the tokens
positive : (symbol : Symbol) → IsTrue (not (is_some (if_nothing symbol)) || nat_lt 0 (follows symbol))
positive ADefault = refl
positive _ = refl

-- a limit that is passed
pub record IsLimit (counting : Counting) (P : Symbol → Type 0) (fault : BookFault) : Type 0 where
  pub symbol : Symbol
  pub counts : PlanCounts
  pub token : Token
  pub what : Many
  pub passed : counting symbol counts token ≡ Above what
  pub within : P symbol
  pub is : fault ≡ TooMany token.at what

-- what comes of something is what comes of another at some counts, or a limit that is passed
pub data GoesTo {A : Type 0} (counting : Counting) (P : Symbol → Type 0) (next : PlanCounts → Outcome A) : Outcome A → Type 0 where
  goes : (d : PlanCounts) → GoesTo counting P next (next d)
  stops : {fault : BookFault} → IsLimit counting P fault → GoesTo counting P next (Failed fault)

pub over_token : {A : Type 0} (counting : Counting) (symbol : Symbol) (rest : Tree symbol → Rule A) (c : PlanCounts) (t : Token) (ts : List Token) (m : Move (Tree symbol)) → move_of counting symbol c t ≡ m
    → through counting (Reads symbol rest) c (t ∷ ts) ≡ after (goes_on m rest (λ tree. settle counting (rest tree) c t)) t ts c (λ d made. through counting made d ts)
over_token counting symbol rest c t ts m is = ap (λ n. after (goes_on n rest (λ tree. settle counting (rest tree) c t)) t ts c (λ d made. through counting made d ts)) is

taken : {A : Type 0} (counting : Counting) (P : Symbol → Type 0) (symbol : Symbol) (rest : Tree symbol → Rule A) (c : PlanCounts) (t : Token) (ts : List Token) (rule : Token → Rule (Tree symbol)) (next : PlanCounts → Outcome A) → P symbol → rule_of symbol t.kind ≡ Some rule → in_range symbol t ≡ true
    → ((d : PlanCounts) → GoesTo counting P next (through counting (behind (rule t) rest) d ts)) → GoesTo counting P next (through counting (Reads symbol rest) c (t ∷ ts))
taken {A} counting P symbol rest c t ts rule next p is ranged rec = by (counting symbol c t) refl
  where
    by : (k : Count) → counting symbol c t ≡ k → GoesTo counting P next (through counting (Reads symbol rest) c (t ∷ ts))
    by (Fine d) e =
        let m : move_of counting symbol c t ≡ Takes d (rule t) = ap (opened t (in_range symbol t) (counting symbol c t) (if_nothing symbol)) is ∙ ap (λ o. checked (rule t) o t (counting symbol c t)) ranged ∙ ap (checked (rule t) true t) e in
        subst (GoesTo counting P next) (sym (over_token counting symbol rest c t ts (Takes d (rule t)) m)) (rec d)
    by (Above what) e =
        let m : move_of counting symbol c t ≡ Faults (TooMany t.at what) = ap (opened t (in_range symbol t) (counting symbol c t) (if_nothing symbol)) is ∙ ap (λ o. checked (rule t) o t (counting symbol c t)) ranged ∙ ap (checked (rule t) true t) e in
        subst (GoesTo counting P next) (sym (over_token counting symbol rest c t ts (Faults (TooMany t.at what)) m)) (stops (record { symbol = symbol; counts = c; token = t; what = what; passed = e; within = p; is = refl }))

skipped : {A : Type 0} (counting : Counting) (symbol : Symbol) (rest : Tree symbol → Rule A) (c : PlanCounts) (ts : List Token) (tree : Tree symbol) → if_nothing symbol ≡ Some tree → follows symbol ≤ rank_of ts
    → through counting (Reads symbol rest) c ts ≡ through counting (rest tree) c ts
skipped counting symbol rest c [] tree is late = let some : is_some (if_nothing symbol) ≡ true = ap is_some is in let l = ltb-true 0 (follows symbol) (subst (λ (o : Bool). IsTrue (not o || nat_lt 0 (follows symbol))) some (positive symbol)) in absurd (omega arith)
skipped counting symbol rest c (t ∷ ts) tree is late = by (rule_of symbol t.kind) refl
  where
    by : (o : Opening (Tree symbol)) → rule_of symbol t.kind ≡ o → through counting (Reads symbol rest) c (t ∷ ts) ≡ through counting (rest tree) c (t ∷ ts)
    by (Some rule) e =
        let some : IsTrue (is_some (if_nothing symbol)) = ap is_some is in
        let l : rank t.kind < follows symbol = ltb-true (rank t.kind) (follows symbol) ((opens_at symbol t.kind t rule e).apart some) in
        absurd (omega arith)
    by None e =
        let m : move_of counting symbol c t ≡ Skips tree = ap (opened t (in_range symbol t) (counting symbol c t) (if_nothing symbol)) e ∙ ap (or_nothing t) is in
        over_token counting symbol rest c t ts (Skips tree) m ∙ again counting (rest tree) c t ts

then_goes : {A : Type 0} {counting : Counting} {P : Symbol → Type 0} {middle next : PlanCounts → Outcome A} {o : Outcome A} → GoesTo counting P middle o → ((d : PlanCounts) → GoesTo counting P next (middle d)) → GoesTo counting P next o
then_goes (goes d) f = f d
then_goes (stops l) f = stops l

at_least : (o : Bool) (first n : ℕ) → n ≤ cond o (max first n) n
at_least true first n = le-max_right first n
at_least false first n = omega arith

-- P is so of all symbols that a symbol for which it is so has behind its first token
abbrev pub Inherits : (Symbol → Type 0) → Type 0
Inherits P = (symbol : Symbol) (t : Token) (rule : Token → Rule (Tree symbol)) → rule_of symbol t.kind ≡ Some rule → P symbol → Throughout P (rule t)

mutual
  spelled : {symbol : Symbol} {a c : List Token} {tree : Tree symbol} → Spells symbol a c tree → follows symbol ≤ rank_of c → (counting : Counting) (P : Symbol → Type 0) → Inherits P → P symbol → {A : Type 0} (rest : Tree symbol → Rule A) (d : PlanCounts) → GoesTo counting P (λ e. through counting (rest tree) e c) (through counting (Reads symbol rest) d a)
  spelled {symbol} {a} {c} {tree} (begun {t} {a = a'} {rule} is ranged h) s counting P inherits p rest d =
      taken counting P symbol rest d t a' rule (λ e. through counting (rest tree) e c) p is ranged (λ e. followed h (follows symbol) 0 (opens_at symbol t.kind t rule is).fits s counting P inherits (inherits symbol t rule is p) rest e)
  spelled {symbol} {a} {c} {tree} (nothing is) s counting P inherits p rest d =
      subst (GoesTo counting P (λ e. through counting (rest tree) e c)) (sym (skipped counting symbol rest d a tree is s)) (goes d)

  pub followed : {symbol : Symbol} {rule : Rule (Tree symbol)} {a c : List Token} {tree : Tree symbol} → Follows symbol rule a c tree → (last first : ℕ) → Fits last first rule → last ≤ rank_of c → (counting : Counting) (P : Symbol → Type 0) → Inherits P → Throughout P rule → {A : Type 0} (rest : Tree symbol → Rule A) (d : PlanCounts) → GoesTo counting P (λ e. through counting (rest tree) e c) (through counting (behind rule rest) d a)
  followed given last first fits s counting P inherits p rest d = goes d
  followed {c = c} {tree = tree} (read {inner} {rest = more} {first = v} h k) last first fits s counting P inherits p rest d =
      let r = starts k last (cond (is_some (if_nothing inner)) (max first (follows inner)) (follows inner)) (fits.1 v) s in
      let l = at_least (is_some (if_nothing inner)) first (follows inner) in
      then_goes (spelled h (omega arith) counting P inherits p.0 (λ w. behind (more w) rest) d)
      (λ e. followed k last (cond (is_some (if_nothing inner)) (max first (follows inner)) (follows inner)) (fits.1 v) s counting P inherits (p.1 v) rest e)

-- what tokens spell is read of them, where no limit is passed
pub complete : {symbol : Symbol} {a c : List Token} {tree : Tree symbol} → Spells symbol a c tree → follows symbol ≤ rank_of c → (counting : Counting) (P : Symbol → Type 0) → Inherits P → P symbol → (d : PlanCounts) → GoesTo counting P (λ e. Ended tree (record { rest = c; counts = e })) (through counting (Reads symbol Gives) d a)
complete {symbol} h s counting P inherits p d = spelled h s counting P inherits p Gives d

-- any symbol
abbrev pub Any : Symbol → Type 0
Any symbol = Unit {0}

pub any_rule : {A : Type 0} (rule : Rule A) → Throughout Any rule
any_rule (Gives x) = tt
any_rule (Reads symbol rest) = (tt, λ tree. any_rule (rest tree))

pub any_inherits : Inherits Any
any_inherits symbol t rule is p = any_rule (rule t)

-- without limits nothing stops
abbrev unlimited : Counting
unlimited symbol c t = Fine c

ended : {A : Type 0} (x : A) (c : List Token) (o : Outcome A) → GoesTo unlimited Any (λ e. Ended x (record { rest = c; counts = e })) o → (d : PlanCounts) × (o ≡ Ended x (record { rest = c; counts = d }))
ended x c o (goes d) = (d, refl)
ended x c o (stops l) = let e = l.passed in absurd (cc)

-- no tokens spell two trees
pub one_tree : (symbol : Symbol) (a : List Token) (x y : Tree symbol) → follows symbol ≡ 0 → Says symbol a x → Says symbol a y → x ≡ y
one_tree symbol a x y zero h k =
    let p = ended x h.behind (through unlimited (Reads symbol Gives) no_counts a) (complete h.spells (omega (arith, zero)) unlimited Any any_inherits tt no_counts) in
    let q = ended y k.behind (through unlimited (Reads symbol Gives) no_counts a) (complete k.spells (omega (arith, zero)) unlimited Any any_inherits tt no_counts) in
    let same : Ended x (record { rest = h.behind; counts = p.0 }) ≡ Ended y (record { rest = k.behind; counts = q.0 }) = sym p.1 ∙ q.1 in
    cc

pub one_book : (a : List Token) (ss us : List StmtImage) → AreStmts a ss → AreStmts a us → ss ≡ us
one_book a ss us h k = one_tree (AStmts no_tally) a ss us refl h k

pub one_line : (a : List Token) (l u : Line) → IsWholeLine a l → IsWholeLine a u → l ≡ u
one_line a l u h k = one_tree AWholeLine a l u refl h k

pub one_any_line : (a : List Token) (l u : AnyLineImage) → IsWholeAnyLine a l → IsWholeAnyLine a u → l ≡ u
one_any_line a l u h k = one_tree AWholeAnyLine a l u refl h k
