-- What makes the grammar and the first fault believable: each law over all lists of tokens.
use Rattle.std.specs.Prelude.{◌≡◌, ℕ, List, [], ◌∷◌, ◌++◌, Option, Some, None}
use Rattle.smk_base.specs.{declared.book.token.TokenKind.TheVariants.End, declared.fault.BookFault.BookFault, declared.fault.BookFault.TheVariants.{BadToken, Unexpected, TooMany, BadNumber, NoMemory}, declared.book.tree.Line.Line, Trees.{StmtImage, AskImage, AnyLineImage, AskedLine, ProfiledLine, AppendedLine}}
use Rattle.smk_model.specs.{Tokens.{Token, tokens}, Spelled.{AreStmts, IsWholeLine, IsWholeAnyLine}, Limits.{KeepsLimits, KeepsAsk}, TokenReadings.{book_fault, line_fault, any_fault, token_fault}}

-- The tokens leave the grammar at this place: what stands before the token there has no fault and begins a text, and no text goes on with a token of its kind.
-- Other faults are different. A token that can't be read, and a number outside i64, are faults whatever comes before them. With one thing too many, texts of the grammar do go on, and so they do with another number where one is out of range.
pub record LeavesGrammar {T : Type 0} (Spells : List Token → T → Type 0) (fault_of : List Token → Option BookFault) (ts : List Token) (at : ℕ) : Type 0 where
  pub before : List Token
  pub token : Token
  pub behind : List Token
  pub are : ts ≡ before ++ token ∷ behind
  pub place : token_fault token ≡ Unexpected at
  pub faultless : fault_of before ≡ None
  pub begins : (more : List Token) × (tree : T) × Spells (before ++ more) tree
  pub none : (text : List ℕ) (more : List Token) (tree : T) → Spells (before ++ record { at = token.at; kind = token.kind; text = text } ∷ more) tree → ⊥

-- the first fault of a text is an unexpected token exactly if its tokens leave the grammar
pub record IsUnexpected {T : Type 0} (Spells : List Token → T → Type 0) (fault_of : List Token → Option BookFault) : Type 0 where
  pub leaves : (text : List ℕ) (at : ℕ) → fault_of (tokens text) ≡ Some (Unexpected at) → LeavesGrammar Spells fault_of (tokens text) at
  pub unexpected : (text : List ℕ) (at : ℕ) → LeavesGrammar Spells fault_of (tokens text) at → fault_of (tokens text) ≡ Some (Unexpected at)

-- for books, for lines without steps and for lines of any kind
pub record UnexpectedLeaves : Type 0 where
  pub book : IsUnexpected AreStmts book_fault
  pub line : IsUnexpected IsWholeLine line_fault
  pub any : IsUnexpected IsWholeAnyLine any_fault

-- no fault, or that there are too many of something
abbrev pub AtMostTooMany : Option BookFault → Type 0
AtMostTooMany None = Unit {0}
AtMostTooMany (Some (TooMany at what)) = Unit {0}
AtMostTooMany (Some _) = ⊥

-- a text of the grammar is read: a book and a line of any kind have no fault but where they pass a limit, and a line without steps has none
pub record TextsAreRead : Type 0 where
  pub book : (ts : List Token) (ss : List StmtImage) → AreStmts ts ss → AtMostTooMany (book_fault ts)
  pub line : (ts : List Token) (l : Line) → IsWholeLine ts l → line_fault ts ≡ None
  pub any : (ts : List Token) (l : AnyLineImage) → IsWholeAnyLine ts l → AtMostTooMany (any_fault ts)
  pub plain : (ts : List Token) (l : Line) → IsWholeLine ts l → any_fault ts ≡ None
  pub profiled : (ts : List Token) (view : List ℕ) → IsWholeAnyLine ts (ProfiledLine view) → any_fault ts ≡ None
  pub appended : (ts : List Token) (table file : List ℕ) → IsWholeAnyLine ts (AppendedLine table file) → any_fault ts ≡ None

-- the fault is at this place
abbrev pub IsAt : ℕ → BookFault → Type 0
IsAt place (BadToken at) = at ≡ place
IsAt place (Unexpected at) = at ≡ place
IsAt place (TooMany at what) = at ≡ place
IsAt place (BadNumber at) = at ≡ place
IsAt place NoMemory = ⊥

-- the tokens have this fault at one of them and none before it, and would have it with any other tokens after that one
pub record Stays (fault_of : List Token → Option BookFault) (ts : List Token) (f : BookFault) : Type 0 where
  pub before : List Token
  pub faulty : Token
  pub behind : List Token
  pub are : ts ≡ before ++ faulty ∷ behind
  pub place : IsAt faulty.at f
  pub faultless : fault_of before ≡ None
  pub stays : (others : List Token) → fault_of (before ++ faulty ∷ others) ≡ Some f

-- a fault stays the fault whatever follows
pub record FaultsStay : Type 0 where
  pub book : (ts : List Token) (f : BookFault) → book_fault ts ≡ Some f → Stays book_fault ts f
  pub line : (ts : List Token) (f : BookFault) → line_fault ts ≡ Some f → Stays line_fault ts f
  pub any : (ts : List Token) (f : BookFault) → any_fault ts ≡ Some f → Stays any_fault ts f

-- the end is the last token, and no other
abbrev pub Finishes : List Token → Type 0
Finishes [] = ⊥
Finishes (t ∷ []) = t.kind ≡ End
Finishes (t ∷ u ∷ ts) = (t.kind ≡ End → ⊥) × Finishes (u ∷ ts)

-- tokens up to the end without a fault have a tree
pub record FaultlessHaveTrees : Type 0 where
  pub book : (ts : List Token) → Finishes ts → book_fault ts ≡ None → (ss : List StmtImage) × AreStmts ts ss
  pub line : (ts : List Token) → Finishes ts → line_fault ts ≡ None → (l : Line) × IsWholeLine ts l
  pub any : (ts : List Token) → Finishes ts → any_fault ts ≡ None → (l : AnyLineImage) × IsWholeAnyLine ts l

-- a text that spells a book and has no fault keeps the limits
abbrev pub FaultlessKeepLimits : Type 0
FaultlessKeepLimits = (text : List ℕ) (ss : List StmtImage) → AreStmts (tokens text) ss → book_fault (tokens text) ≡ None → KeepsLimits ss

-- a text that spells an ask line and has no fault keeps the limits
abbrev pub FaultlessAsksKeepLimits : Type 0
FaultlessAsksKeepLimits = (text : List ℕ) (asked : AskImage) → IsWholeAnyLine (tokens text) (AskedLine asked) → any_fault (tokens text) ≡ None → KeepsAsk asked
