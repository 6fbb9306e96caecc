-- Each rule is read in one way: no token that may begin a symbol which may be nothing is a token that may follow it. And only what is read up to the end takes the end, as its last token.
use Rattle.std.proofs.Common.{rules, ◌≡◌, ℕ, Bool, true, false, List, [], ◌∷◌, refl, subst}
use Rattle.std.specs.Prelude.{Some, None, cond, max, IsTrue, nat_le, nat_lt, is_some, not, ◌||◌}
use Rattle.smk_model.proofs.Alike.{same_is}
use Rattle.smk_base.specs.declared.book.token.TokenKind.{TokenKind}
use Rattle.smk_base.specs.declared.book.token.TokenKind.TheVariants as kinds
use Rattle.smk_model.specs.{Tokens.Token, TokenKinds.same_kind, Rules.{Member, Mark, Symbol, AToken, ANames, AMarked, ALineName, ALineColumn, ALiteral, AType, ADefault, AWhat, AKeys, AnAggs, AnOn, AnOp, AnAs, One, More, Listed, ASource, APlan, AStep, AUnited, AConj, APred, ASteps, AnAnds, AnOrs, AStmts, ALineage, AnExtra, AMarks, AThen, ACleared, ALine, AWholeLine, AnyLine, AWholeAnyLine, AnAskStep, AskSteps, APiped, ASelected, Tree, Rule, Gives, Reads, Opening}, LanguageTable.{if_nothing, rule_of, if_sign}}

-- the tokens that may begin a symbol which may be nothing, by how late they come
abbrev pub rank : TokenKind → ℕ
rank kinds.As = 1
rank kinds.Default = 1
rank kinds.Comma = 2
rank kinds.Name = 3
rank kinds.Quoted = 3
rank kinds.OpenBrace = 4
rank kinds.And = 5
rank kinds.Or = 6
rank kinds.Bar = 7
rank kinds.By = 8
rank kinds.Group = 8
rank kinds.Where = 8
rank _ = 10

abbrev pub rank_of : List Token → ℕ
rank_of [] = 0
rank_of (t ∷ ts) = rank t.kind

-- the least rank of a token that begins the symbol, and the least of one that may follow it
abbrev pub least : Symbol → ℕ
least (AToken kind) = rank kind
least ADefault = 1
least (AnAs word) = 1
least (More member k) = 2
least AnAggs = 4
least (AnAnds d p) = 5
least (AnOrs d p) = 6
least (ASteps d x) = 7
least AskSteps = 7
least AnExtra = 8
least AThen = 8
least (AStep d) = 8
least AnAskStep = 8
least APiped = 8
least (AStmts y) = 10
least (ASource d) = 10
least (APlan d) = 10
least AnOn = 10
least AnOp = 10
least AType = 10
least AWhat = 10
least (ALineage at) = 10
least AMarks = 10
least _ = 3

abbrev pub follows : Symbol → ℕ
follows ADefault = 2
follows (AnAs word) = 2
follows (One member k) = 2
follows (More member k) = 3
follows (Listed member) = 3
follows AMarks = 3
follows AKeys = 4
follows AnAggs = 5
follows (AConj d) = 6
follows (AnAnds d p) = 6
follows (APred d) = 7
follows (AnOrs d p) = 7
follows (AStep d) = 7
follows AnAskStep = 7
follows (APlan d) = 8
follows (ASteps d x) = 8
follows AskSteps = 8
follows APiped = 8
follows AnyLine = 9
follows ALine = 9
follows (ALineage at) = 9
follows AnExtra = 9
follows AThen = 9
follows ACleared = 9
follows _ = 0

-- a rule whose first token has at least a rank and that is read in one way, where the token behind it has at least another
abbrev pub Fits : {A : Type 0} → ℕ → ℕ → Rule A → Type 0
Fits last first (Gives x) = IsTrue (nat_le first last)
Fits last first (Reads symbol rest) = IsTrue (nat_le first (least symbol)) × ((tree : Tree symbol) → Fits last (cond (is_some (if_nothing symbol)) (max first (follows symbol)) (follows symbol)) (rest tree))

-- a token that can be read, and the end
abbrev pub is_known : TokenKind → Bool
is_known kinds.Bad = false
is_known kinds.Huge = false
is_known _ = true

abbrev pub is_end : TokenKind → Bool
is_end kinds.End = true
is_end _ = false

abbrev pub readable : Symbol → Bool
readable (AToken kind) = is_known kind
readable _ = true

-- what is read up to the end
abbrev pub to_end : Symbol → Bool
to_end (AToken kind) = is_end kind
to_end (AStmts y) = true
to_end AWholeLine = true
to_end AWholeAnyLine = true
to_end ASelected = true
to_end _ = false

abbrev pub both_or_none : Bool → Bool → Bool
both_or_none true o = o
both_or_none false o = not o

-- whether a rule is read up to the end, with the end behind it or passed already
abbrev pub Shaped : {A : Type 0} → Bool → Bool → Rule A → Type 0
Shaped whole over (Gives x) = IsTrue (both_or_none whole over)
Shaped whole over (Reads symbol rest) = IsTrue (not over) × IsTrue (readable symbol) × IsTrue (not (to_end symbol) || whole) × ((tree : Tree symbol) → Shaped whole (to_end symbol) (rest tree))

-- what may be read of a line without steps: nothing of it is limited
abbrev pub is_free : Symbol → Bool
is_free (AToken kind) = true
is_free (AMarked between) = true
is_free ALineName = true
is_free ALineColumn = true
is_free ALiteral = true
is_free (One Mark k) = true
is_free (More Mark k) = true
is_free AMarks = true
is_free AThen = true
is_free ACleared = true
is_free AWholeLine = true
is_free _ = false

-- what is read within a node of a plan, or where there is none
abbrev pub is_quiet : Symbol → Bool
is_quiet (ASource d) = false
is_quiet (APlan d) = false
is_quiet (ASteps d x) = false
is_quiet (AStep d) = false
is_quiet (AUnited d) = false
is_quiet (AStmts y) = false
is_quiet (ALineage at) = false
is_quiet AnyLine = false
is_quiet AWholeAnyLine = false
is_quiet AnAskStep = false
is_quiet AskSteps = false
is_quiet APiped = false
is_quiet ASelected = false
is_quiet _ = true

-- what is so of each symbol of a rule
abbrev pub Throughout : {A : Type 0} → (Symbol → Type 0) → Rule A → Type 0
Throughout P (Gives x) = Unit {0}
Throughout P (Reads symbol rest) = P symbol × ((tree : Tree symbol) → Throughout P (rest tree))

-- what a token that begins a symbol is, and what is read behind it
pub record Opens (symbol : Symbol) (kind : TokenKind) (rule : Rule (Tree symbol)) : Type 0 where
  pub least : IsTrue (nat_le (least symbol) (rank kind))
  pub apart : IsTrue (is_some (if_nothing symbol)) → IsTrue (nat_lt (rank kind) (follows symbol))
  pub fits : Fits (follows symbol) 0 rule
  pub known : IsTrue (readable symbol) → IsTrue (is_known kind)
  pub shaped : Shaped (to_end symbol) (is_end kind) rule
  pub free : IsTrue (is_free symbol) → Throughout (λ s. IsTrue (is_free s)) rule
  pub quiet : IsTrue (is_quiet symbol) → Throughout (λ s. IsTrue (is_quiet s)) rule

-- what is so of each rule, where there is one
abbrev pub IfRule : {A : Type 0} → (Rule A → Type 0) → Opening A → Type 0
IfRule P (Some rule) = (t : Token) → P (rule t)
IfRule P None = Unit {0}

sign_rule : {A : Type 0} (P : TokenKind → Rule A → Type 0) (wanted kind : TokenKind) (rule : Token → Rule A) → ((t : Token) → P wanted (rule t)) → IfRule (P kind) (if_sign wanted rule kind)
sign_rule {A} P wanted kind rule p = by (same_kind wanted kind) refl
  where
    by : (o : Bool) → same_kind wanted kind ≡ o → IfRule (P kind) (cond o (Some rule) None)
    by true e = subst (λ (k : TokenKind). (t : Token) → P k (rule t)) (same_is wanted kind e) p
    by false e = tt

abbrev pub OpensAt : Symbol → TokenKind → Type 0
OpensAt symbol kind = IfRule (Opens symbol kind) (rule_of symbol kind)

token_opens : (kind : TokenKind) (t : Token) → Opens (AToken kind) kind (Gives t)
token_opens kind t = record {
  least = same (rank kind);
  apart = λ h. absurd (cc);
  fits = refl;
  known = λ h. h;
  shaped = both (is_end kind);
  free = λ h. tt;
  quiet = λ h. tt;
}
  where
    same : (n : ℕ) → IsTrue (nat_le n n)
    same n = search rules

    both : (o : Bool) → IsTrue (both_or_none o o)
    both true = refl
    both false = refl

names_opens : (between : TokenKind) → OpensAt (ANames between) kinds.Name
names_opens kinds.On = search depth 12
names_opens _ = search depth 12

marked_opens : (between : TokenKind) → OpensAt (AMarked between) kinds.Name
marked_opens kinds.On = search depth 12
marked_opens _ = search depth 12

member_opens : (member : Member) (k : ℕ) (kind : TokenKind) → OpensAt (One member k) kind
member_opens Mark k kinds.Bad = tt
member_opens _ k kinds.Bad = tt
member_opens _ k _ = search depth 12

list_opens : (member : Member) (kind : TokenKind) → OpensAt (Listed member) kind
list_opens Mark kinds.Bad = tt
list_opens _ kinds.Bad = tt
list_opens _ _ = search depth 12

more_opens : (member : Member) (k : ℕ) (kind : TokenKind) → OpensAt (More member k) kind
more_opens Mark k kinds.Comma = search depth 12
more_opens _ k kinds.Comma = search depth 12
more_opens _ k _ = tt

-- each rule is read in one way, and up to the end or not
pub opens : (symbol : Symbol) (kind : TokenKind) → OpensAt symbol kind
opens (AToken wanted) kind = sign_rule (Opens (AToken wanted)) wanted kind Gives (token_opens wanted)
opens (One member k) kind = member_opens member k kind
opens (More member k) kind = more_opens member k kind
opens (Listed member) kind = list_opens member kind
opens (ANames between) kinds.Name = names_opens between
opens (AMarked between) kinds.Name = marked_opens between
opens _ kinds.Bad = tt
opens _ _ = search depth 12

pub opens_at : (symbol : Symbol) (kind : TokenKind) (t : Token) (rule : Token → Rule (Tree symbol)) → rule_of symbol kind ≡ Some rule → Opens symbol kind (rule t)
opens_at symbol kind t rule is = subst (IfRule (Opens symbol kind)) is (opens symbol kind) t
