-- The answers of the readers of symbols.
use Rattle.std.specs.Prelude.{◌≡◌, ◌<◌, ℕ, Bool, true, false, List, [], ◌∷◌, ◌++◌, length, Option, Some, None, Result, Ok, Err}
use Rattle.smk_parse.specs.{Vocabulary.{BookFault, NoMemory, TokenKind, Word, Token, token_fault, head_of, inner, Configuration, Member, MemberTree, Symbol, Tree, Rule, One, More, Listed, AStmts, StmtImage, Reading, reads, runs}, declared.book.Tally.Tally}
use Rattle.smk_base.specs.declared.book.token.TokenKind.TheVariants as kinds
use Rattle.smk_model.specs.Rules as rules

-- whether memory ran out
abbrev pub is_memory : BookFault → Bool
is_memory NoMemory = true
is_memory _ = false

-- what was read, with the state after it, or its fault; or memory ran out
abbrev pub Answers : {A X : Type 0} → Reading A → (X → A) → Configuration → Result X BookFault → Type 0
Answers reading image b (Ok x) = reading ≡ Ok (image x, b)
Answers reading image b (Err f) = is_memory f ≡ false → reading ≡ Err f

-- a symbol, and a rule
abbrev pub IsRead : {X : Type 0} → (symbol : Symbol) → (X → Tree symbol) → Configuration → Configuration → Result X BookFault → Type 0
IsRead symbol image a b answer = Answers (reads symbol a) image b answer

abbrev pub IsRun : {A X : Type 0} → Rule A → (X → A) → Configuration → Configuration → Result X BookFault → Type 0
IsRun rule image a b answer = Answers (runs rule a) image b answer

-- a rule if there is one, else a wrong token
abbrev pub ran : {A : Type 0} → Option (Rule A) → Configuration → Reading A
ran (Some rule) a = runs rule a
ran None a = Err (token_fault (head_of a.rest))

-- a symbol, by a reader that gives nothing
abbrev pub IsPassed : (symbol : Symbol) → Tree symbol → Configuration → Configuration → Result (Unit {0}) BookFault → Type 0
IsPassed symbol x a b answer = Answers (reads symbol a) (λ u. x) b answer

-- what was read, wherever it ends
abbrev pub value_of : {A : Type 0} → Reading A → Result A BookFault
value_of (Ok p) = Ok p.0
value_of (Err f) = Err f

-- a symbol that is read up to the end
abbrev pub IsWhole : {X : Type 0} → (symbol : Symbol) → (X → Tree symbol) → Configuration → Result X BookFault → Type 0
IsWhole symbol image a (Ok x) = value_of (reads symbol a) ≡ Ok (image x)
IsWhole symbol image a (Err f) = is_memory f ≡ false → value_of (reads symbol a) ≡ Err f

-- the statements counted
abbrev pub tally_of : Tally → rules.Tally
tally_of t = record { tables = t.tables; views = t.views; lineages = t.lineages; links = t.links }

-- these before those that are read
abbrev pub before : {A : Type 0} → List A → Reading (List A) → Reading (List A)
before xs (Ok p) = Ok (xs ++ p.0, p.1)
before xs (Err f) = Err f

-- a statement, with the statements after it, which are shorter
abbrev pub StmtReads : {X : Type 0} → (X → StmtImage) → Tally → Tally → Configuration → Configuration → Result X BookFault → Type 0
StmtReads image t u a b (Ok x) = (reads (AStmts (tally_of t)) a ≡ before (image x ∷ []) (reads (AStmts (tally_of u)) b)) × (length b.rest < length a.rest)
StmtReads image t u a b (Err f) = is_memory f ≡ false → reads (AStmts (tally_of t)) a ≡ Err f

-- a member of a list and its list, by their symbols
pub data MemberRule : Type 0 → Type 1 where
  of : (member : Member) → MemberRule (MemberTree member)

abbrev pub reads_one : {T : Type 0} → MemberRule T → ℕ → Configuration → Reading T
reads_one (of member) k a = reads (One member k) a

abbrev pub reads_more : {T : Type 0} → MemberRule T → ℕ → Configuration → Reading (List T)
reads_more (of member) k a = reads (More member k) a

abbrev pub reads_list : {T : Type 0} → MemberRule T → Configuration → Reading (List T)
reads_list (of member) a = reads (Listed member) a

-- whether a token of this kind is a column
abbrev pub is_column : TokenKind → Bool
is_column kinds.Name = true
is_column kinds.Quoted = true
is_column _ = false

-- the bytes of a name, without backquotes
abbrev pub column_name : Token → List ℕ
column_name t = by t.kind t.text
  where
    by : TokenKind → List ℕ → List ℕ
    by kinds.Quoted text = inner text
    by _ text = text

-- the word of a column
abbrev pub column_word : Token → Word
column_word t = record { name = column_name t; at = t.at }
