-- What a list of tokens is read as, token by token, up to the end or to the first fault, which may be a limit.
use Rattle.std.specs.Prelude.{ℕ, ◌+◌, ◌^◌, ◌&&◌, ℤ, pos, Bool, true, false, cond, List, [], ◌∷◌, Option, Some, None, Result, Ok, Err, nat_lt, nat_le, int_le, int_lt, length}
use Rattle.smk_base.specs.{declared.book.token.TokenKind.TokenKind, declared.fault.Many.Many, declared.fault.Many.TheVariants.{Tables, Views, Lineages, Links, Columns, Nodes, Compares, Depth, NameBytes}, declared.fault.BookFault.BookFault, declared.fault.BookFault.TheVariants.{BadToken, Unexpected, TooMany, BadNumber, NoMemory}, declared.book.limits.TheConstants.{TABLE_LIMIT, VIEW_LIMIT, LINEAGE_LIMIT, LINK_LIMIT, NODE_LIMIT, COMPARE_LIMIT, DEPTH_LIMIT, NAME_LIMIT}, declared.rel.TheConstants.COLUMN_LIMIT}
use Rattle.smk_base.specs.declared.book.token.TokenKind.TheVariants as kinds
use Rattle.smk_model.specs.{Tokens.{Token, inner, int_value}, Rules.{Tally, PlanCounts, Configuration, no_counts, Member, LinkedView, Mark, OutputItem, Symbol, ANames, AName, AColumn, AWidth, AKeys, AnOn, ATerm, AFirst, One, Listed, ASource, APlan, AStep, AUnited, APrim, AConj, APred, AStmts, AMarks, AWholeLine, AWholeAnyLine, AnAskStep, APiped, ASelected, Tree, Rule, Gives, Reads, behind, Opening}, LanguageTable.{rule_of, if_nothing}}

-- a name of at most 64 bytes by its value
abbrev pub is_short : Token → Bool
is_short t = by t.kind t.text
  where
    by : TokenKind → List ℕ → Bool
    by kinds.Quoted text = nat_le (length (inner text)) NAME_LIMIT
    by _ text = nat_le (length text) NAME_LIMIT

abbrev pub is_mark_number : ℤ → Bool
is_mark_number v = int_le (pos 0) v && int_lt v (pos (2 ^ 32))

-- one node more, with none of its comparisons yet
abbrev pub node_more : PlanCounts → PlanCounts
node_more c = record { nodes = c.nodes + 1; compares = 0 }

-- the fault at a wrong token: that it can't be read, that it is out of range, or else that it is unexpected
abbrev pub token_fault : Token → BookFault
token_fault t = wrong t.kind t.at
  where
    wrong : TokenKind → ℕ → BookFault
    wrong kinds.Bad at = BadToken at
    wrong kinds.Huge at = BadNumber at
    wrong _ at = Unexpected at

-- whether the number of a token is in the symbol's range
abbrev pub member_in_range : Member → Token → Bool
member_in_range Mark t = is_mark_number (int_value t.text)
member_in_range _ t = true

abbrev pub marks_in_range : Token → TokenKind → Bool
marks_in_range t kinds.Number = is_mark_number (int_value t.text)
marks_in_range t _ = true

abbrev pub in_range : Symbol → Token → Bool
in_range AWidth t = int_le (pos 1) (int_value t.text)
in_range (One member k) t = member_in_range member t
in_range (Listed member) t = member_in_range member t
in_range AMarks t = marks_in_range t t.kind
in_range _ t = true

-- what is counted after a token, or what there is one too many of
pub data Count : Type 0 where
  Fine : PlanCounts → Count
  Above : Many → Count

abbrev pub within : Bool → Many → Count → Count
within fits what count = cond fits count (Above what)

abbrev pub short : PlanCounts → Token → Count
short c t = within (is_short t) NameBytes (Fine c)

abbrev pub first_count : ℕ → PlanCounts → Token → Count
first_count k c t = within (nat_lt k COLUMN_LIMIT) Columns (short c t)

abbrev pub item_count : ℕ → PlanCounts → Token → TokenKind → Count
item_count k c t kinds.Bin = within (nat_lt k COLUMN_LIMIT) Columns (Fine c)
item_count k c t _ = first_count k c t

abbrev pub member_count : Member → ℕ → PlanCounts → Token → Count
member_count LinkedView k c t = within (nat_lt k LINK_LIMIT) Links (short c t)
member_count Mark k c t = Fine c
member_count OutputItem k c t = item_count k c t t.kind
member_count _ k c t = first_count k c t

abbrev pub term_count : PlanCounts → Token → TokenKind → Count
term_count c t kinds.Number = Fine c
term_count c t kinds.Str = Fine c
term_count c t _ = short c t

abbrev pub prim_count : ℕ → PlanCounts → Token → TokenKind → Count
prim_count d c t kinds.Not = within (nat_lt d DEPTH_LIMIT) Depth (Fine c)
prim_count d c t kinds.Open = within (nat_lt d DEPTH_LIMIT) Depth (Fine c)
prim_count d c t _ = within (nat_lt c.compares COMPARE_LIMIT) Compares (short (record { nodes = c.nodes; compares = c.compares + 1 }) t)

abbrev pub node_count : PlanCounts → Count
node_count c = within (nat_lt c.nodes NODE_LIMIT) Nodes (Fine (node_more c))

abbrev pub source_count : ℕ → PlanCounts → TokenKind → Count
source_count d c kinds.Scan = node_count c
source_count d c kinds.Open = within (nat_lt d DEPTH_LIMIT) Depth (Fine c)
source_count d c _ = Fine c

abbrev pub stmt_count : Tally → TokenKind → Count
stmt_count y kinds.Table = within (nat_lt y.tables TABLE_LIMIT) Tables (Fine no_counts)
stmt_count y kinds.View = within (nat_lt y.views VIEW_LIMIT) Views (Fine no_counts)
stmt_count y kinds.Lineage = within (nat_lt y.lineages LINEAGE_LIMIT) Lineages (Fine no_counts)
stmt_count y kinds.Link = within (nat_lt y.links LINK_LIMIT) Links (Fine no_counts)
stmt_count y kinds.Fd = within (nat_lt y.views VIEW_LIMIT) Views (within (nat_lt y.lineages LINEAGE_LIMIT) Lineages (Fine no_counts))
stmt_count y _ = Fine no_counts

-- what is counted where a token begins a symbol
abbrev pub Counting : Type 0
Counting = Symbol → PlanCounts → Token → Count

abbrev pub limits : Counting
limits AName c t = short c t
limits (ANames between) c t = short c t
limits AColumn c t = short c t
limits AKeys c t = first_count 0 c t
limits ATerm c t = term_count c t t.kind
limits AnOn c t = Fine (record { nodes = c.nodes; compares = 0 })
limits (AFirst k) c t = first_count k c t
limits (One member k) c t = member_count member k c t
limits (Listed member) c t = member_count member 0 c t
limits (ASource d) c t = source_count d c t.kind
limits (APlan d) c t = source_count d c t.kind
limits (AUnited d) c t = source_count d c t.kind
limits (AStep d) c t = node_count c
limits AnAskStep c t = node_count c
limits APiped c t = node_count c
limits (APrim d) c t = prim_count d c t t.kind
limits (AConj d) c t = prim_count d c t t.kind
limits (APred d) c t = prim_count d c t t.kind
limits (AStmts y) c t = stmt_count y t.kind
limits _ c t = Fine c

-- what a token does: it is taken, with these counts, and this rule is read after it; or the symbol is left out here; or the token is a fault
pub data Move (A : Type 0) : Type 0 where
  Takes : PlanCounts → Rule A → Move A
  Skips : A → Move A
  Faults : BookFault → Move A

abbrev pub checked : {A : Type 0} → Rule A → Bool → Token → Count → Move A
checked rule true t (Fine c) = Takes c rule
checked rule false t (Fine c) = Faults (BadNumber t.at)
checked rule ranged t (Above what) = Faults (TooMany t.at what)

abbrev pub or_nothing : {A : Type 0} → Token → Option A → Move A
or_nothing t (Some tree) = Skips tree
or_nothing t None = Faults (token_fault t)

abbrev pub opened : {A : Type 0} → Token → Bool → Count → Option A → Opening A → Move A
opened t ranged count empty (Some rule) = checked (rule t) ranged t count
opened t ranged count empty None = or_nothing t empty

abbrev pub move_of : Counting → (symbol : Symbol) → PlanCounts → Token → Move (Tree symbol)
move_of counting symbol c t = opened t (in_range symbol t) (counting symbol c t) (if_nothing symbol) (rule_of symbol t.kind)

-- how a rule goes on at a token: its symbols are left out, up to the first that can't be
abbrev pub goes_on : {A B : Type 0} → Move B → (B → Rule A) → (B → Move A) → Move A
goes_on (Takes c rule) rest next = Takes c (behind rule rest)
goes_on (Skips tree) rest next = next tree
goes_on (Faults fault) rest next = Faults fault

abbrev pub settle : {A : Type 0} → Counting → Rule A → PlanCounts → Token → Move A
settle counting (Gives x) c t = Skips x
settle counting (Reads symbol rest) c t = goes_on (move_of counting symbol c t) rest (λ tree. settle counting (rest tree) c t)

-- the outcome of a rule over tokens: what it gives, with the tokens that are left and the counts; what is still to be read after the last token; or the first fault
pub data Outcome (A : Type 0) : Type 0 where
  Ended : A → Configuration → Outcome A
  Open : Rule A → PlanCounts → Outcome A
  Failed : BookFault → Outcome A

abbrev pub after : {A : Type 0} → Move A → Token → List Token → PlanCounts → (PlanCounts → Rule A → Outcome A) → Outcome A
after (Takes d rule) t ts c next = next d rule
after (Skips x) t ts c next = Ended x (record { rest = t ∷ ts; counts = c })
after (Faults fault) t ts c next = Failed fault

abbrev pub through : {A : Type 0} → Counting → Rule A → PlanCounts → List Token → Outcome A
through counting (Gives x) c ts = Ended x (record { rest = ts; counts = c })
through counting (Reads symbol rest) c [] = Open (Reads symbol rest) c
through counting (Reads symbol rest) c (t ∷ ts) = after (settle counting (Reads symbol rest) c t) t ts c (λ d rule. through counting rule d ts)

-- what is read, with the tokens and counts after it, or the first fault; a reader always has a token in hand, so nothing stays open
abbrev pub Reading : Type 0 → Type 0
Reading A = Result (A × Configuration) BookFault

abbrev pub read_off : {A : Type 0} → Outcome A → Reading A
read_off (Ended x a) = Ok (x, a)
read_off (Open rule c) = Err NoMemory
read_off (Failed fault) = Err fault

-- a symbol from here on, and a rule
unfoldable pub reads : (symbol : Symbol) → Configuration → Reading (Tree symbol)
reads symbol a = read_off (through limits (Reads symbol Gives) a.counts a.rest)

unfoldable pub runs : {A : Type 0} → Rule A → Configuration → Reading A
runs rule a = read_off (through limits rule a.counts a.rest)

abbrev pub fault_in : {A : Type 0} → Outcome A → Option BookFault
fault_in (Ended x a) = None
fault_in (Open rule c) = None
fault_in (Failed fault) = Some fault

-- the first fault of the tokens of a symbol: of a book, a line, a line of any kind, and a table with steps
abbrev pub fault_of : Symbol → List Token → Option BookFault
fault_of symbol ts = fault_in (through limits (Reads symbol Gives) no_counts ts)

abbrev pub no_tally : Tally
no_tally = record { tables = 0; views = 0; lineages = 0; links = 0 }

abbrev pub book_fault : List Token → Option BookFault
book_fault = fault_of (AStmts no_tally)

abbrev pub line_fault : List Token → Option BookFault
line_fault = fault_of AWholeLine

abbrev pub any_fault : List Token → Option BookFault
any_fault = fault_of AWholeAnyLine

abbrev pub selected_fault : List Token → Option BookFault
selected_fault = fault_of ASelected
