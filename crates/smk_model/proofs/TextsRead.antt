-- A text of the grammar is read, but where it passes a limit; and a line without steps passes none.
use Rattle.std.specs.Prelude.{Some, None, IsTrue}
use Rattle.std.proofs.Common.{rules, true, ◌≡◌, List, ap, ◌∙◌, sym, subst, refl, arith, inl, inr, ◌⊎◌}
use Rattle.smk_base.specs.{declared.book.token.TokenKind.TokenKind, declared.fault.Many.Many, declared.book.tree.Line.Line, Trees.{AnyLineImage, PlainLine, AskedLine, ProfiledLine, AppendedLine}}
use Rattle.smk_base.specs.declared.book.token.TokenKind.TheVariants as kinds
use Rattle.smk_model.specs.{Tokens.Token, Rules.{Mark, PlanCounts, no_counts, Symbol, One, More, AStmts, AWholeLine, AWholeAnyLine, Tree, Rule, Gives, Reads, behind, Opening, onward}, LanguageTable.rule_of, TokenReadings.{Fine, Above, limits, Takes, opened, Outcome, Ended, fault_in, fault_of, no_tally, any_fault}, Spelled.{Spells, begun, nothing, Follows, given, read, Says, IsWholeLine, IsWholeAnyLine}, GrammarLaws.{AtMostTooMany, TextsAreRead}}
use Rattle.smk_model.proofs.{Opens.{follows, is_free, Throughout, IfRule, opens_at}, OneTree.{GoesTo, goes, stops, Inherits, Any, any_inherits, over_token, followed, complete}}

at_most : {A : Type 0} {x : A} {b : List Token} {o : Outcome A} → GoesTo limits Any (λ e. Ended x (record { rest = b; counts = e })) o → AtMostTooMany (fault_in o)
at_most (goes d) = tt
at_most (stops l) = subst (λ f. AtMostTooMany (Some f)) (sym l.is) tt

of : (symbol : Symbol) → follows symbol ≡ 0 → (ts : List Token) (tree : Tree symbol) → Says symbol ts tree → AtMostTooMany (fault_of symbol ts)
of symbol zero ts tree h = at_most (complete h.spells (omega (arith, zero)) limits Any any_inherits tt no_counts)

-- what has no limit
abbrev Free : Symbol → Type 0
Free symbol = IsTrue (is_free symbol)

free_inherits : Inherits Free
free_inherits symbol t rule is p = (opens_at symbol t.kind t rule is).free p

free_fine : (symbol : Symbol) (c : PlanCounts) (t : Token) (what : Many) → Free symbol → limits symbol c t ≡ Above what → ⊥
free_fine (One Mark k) c t what f e = absurd (cc)
free_fine (More Mark k) c t what f e = absurd (cc)
free_fine _ c t what f e = absurd (cc)

none_passed : {A : Type 0} {x : A} {b : List Token} {o : Outcome A} → GoesTo limits Free (λ e. Ended x (record { rest = b; counts = e })) o → fault_in o ≡ None
none_passed (goes d) = refl
none_passed (stops l) = absurd (free_fine l.symbol l.counts l.token l.what l.within l.passed)

line : (ts : List Token) (l : Line) → IsWholeLine ts l → fault_of AWholeLine ts ≡ None
line ts l h = none_passed (complete h.spells (omega arith) limits Free free_inherits refl no_counts)

-- what a rule gives, whatever is read
abbrev Makes : {A : Type 0} → (A → Type 0) → Rule A → Type 0
Makes Q (Gives x) = Q x
Makes Q (Reads symbol rest) = (tree : Tree symbol) → Makes Q (rest tree)

made : {symbol : Symbol} {rule : Rule (Tree symbol)} {a b : List Token} {tree : Tree symbol} (Q : Tree symbol → Type 0) → Follows symbol rule a b tree → Makes Q rule → Q tree
made Q given m = m
made Q (read {first = first} s h) m = made Q h (m first)

abbrev IsAsked : AnyLineImage → Type 0
IsAsked (AskedLine asked) = Unit {0}
IsAsked _ = ⊥

-- behind the token that begins it, a line is an ask line, or has no limit
free_or_asked : (k : TokenKind) (t : Token) (rule : Token → Rule AnyLineImage) → rule_of AWholeAnyLine k ≡ Some rule → (Makes IsAsked (rule t) → ⊥) → Throughout Free (rule t)
free_or_asked k t rule is n = subst (λ (o : Opening AnyLineImage). IfRule (λ (r : Rule AnyLineImage). (Makes IsAsked r → ⊥) → Throughout Free r) o) is (by k) t n
  where
    by : (k : TokenKind) → IfRule (λ (r : Rule AnyLineImage). (Makes IsAsked r → ⊥) → Throughout Free r) (rule_of AWholeAnyLine k)
    by kinds.Ask = λ t n. absurd (n (λ u x v ss e. tt))
    by _ = search rules

unasked : (ts : List Token) (l : AnyLineImage) → (IsAsked l → ⊥) → IsWholeAnyLine ts l → any_fault ts ≡ None
unasked ts l n h = by h.spells
  where
    by : {a b : List Token} → Spells AWholeAnyLine a b l → any_fault a ≡ None
    by {b = b} (begun {t} {a} {rule = rule} is ranged f) =
        ap fault_in (over_token limits AWholeAnyLine Gives no_counts t a (Takes no_counts (rule t)) (ap (opened t true (Fine no_counts) None) is))
        ∙ none_passed (followed f 0 0 (opens_at AWholeAnyLine t.kind t rule is).fits (omega arith) limits Free free_inherits (free_or_asked t.kind t rule is (λ m. n (made IsAsked f m))) Gives no_counts)
    by (nothing is) = absurd (cc)

-- a line without steps is one of any kind
carried : {symbol other : Symbol} (make : Tree symbol → Tree other) {rule : Rule (Tree symbol)} {a b : List Token} {tree : Tree symbol} → Follows symbol rule a b tree → Follows other (behind rule (λ x. Gives (make x))) a b (make tree)
carried make given = given
carried make (read s h) = read s (carried make h)

plain_begins : (k : TokenKind) → rule_of AWholeLine k ≡ None ⊎ (rule_of AWholeAnyLine k ≡ onward (rule_of AWholeLine k) (λ l. Gives (PlainLine l)))
plain_begins kinds.Bad = inl refl
plain_begins _ = search (inl, inr)

plain_says : {a b : List Token} {l : Line} → Spells AWholeLine a b l → Spells AWholeAnyLine a b (PlainLine l)
plain_says (begun {t} {rule = rule} is ranged f) = elim (plain_begins t.kind) [
  | inl e ↦ absurd (cc)
  | inr e ↦ begun (e ∙ ap (λ (o : Opening Line). onward o (λ l. Gives (PlainLine l))) is) refl (carried PlainLine f)
]
plain_says (nothing is) = absurd (cc)

plain : (ts : List Token) (l : Line) → IsWholeLine ts l → any_fault ts ≡ None
plain ts l h = unasked ts (PlainLine l) (λ a. a) (record { behind = h.behind; spells = plain_says h.spells })

pub texts_are_read : TextsAreRead
texts_are_read = record {
  book = of (AStmts no_tally) refl;
  line = line;
  any = of AWholeAnyLine refl;
  plain = plain;
  profiled = λ ts view h. unasked ts (ProfiledLine view) (λ a. a) h;
  appended = λ ts table file h. unasked ts (AppendedLine table file) (λ a. a) h;
}
