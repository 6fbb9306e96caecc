-- Which tokens spell which tree, by the rules.
use Rattle.std.specs.Prelude.{◌≡◌, ℕ, true, List, ◌∷◌, Some}
use Rattle.smk_base.specs.{declared.book.tree.Line.Line, Trees.{StmtImage, AskStepImage, AnyLineImage}}
use Rattle.smk_model.specs.{Tokens.Token, Rules.{Symbol, AStmts, AWholeLine, AWholeAnyLine, ASelected, Tree, Rule, Gives, Reads}, LanguageTable.{rule_of, if_nothing}, TokenReadings.{in_range, no_tally}}

mutual
  -- the tokens from the first list up to the second spell the tree of the symbol: the first of them begins it, and the others follow the rule; or the symbol is left out
  pub data Spells : (symbol : Symbol) → List Token → List Token → Tree symbol → Type 0 where
    begun : {symbol : Symbol} {t : Token} {a b : List Token} {rule : Token → Rule (Tree symbol)} {tree : Tree symbol} → rule_of symbol t.kind ≡ Some rule → in_range symbol t ≡ true → Follows symbol (rule t) a b tree → Spells symbol (t ∷ a) b tree
    nothing : {symbol : Symbol} {a : List Token} {tree : Tree symbol} → if_nothing symbol ≡ Some tree → Spells symbol a a tree

  -- they follow a rule of the symbol: one symbol after the other, and what is made of what they spell
  pub data Follows : (symbol : Symbol) → Rule (Tree symbol) → List Token → List Token → Tree symbol → Type 0 where
    given : {symbol : Symbol} {a : List Token} {tree : Tree symbol} → Follows symbol (Gives tree) a a tree
    read : {symbol inner : Symbol} {rest : Tree inner → Rule (Tree symbol)} {a b c : List Token} {first : Tree inner} {tree : Tree symbol} → Spells inner a b first → Follows symbol (rest first) b c tree → Follows symbol (Reads inner rest) a c tree

-- tokens that spell a tree, whatever comes after them: of a book, a line, a line of any kind, and a table with steps
pub record Says (symbol : Symbol) (ts : List Token) (tree : Tree symbol) : Type 0 where
  pub behind : List Token
  pub spells : Spells symbol ts behind tree

abbrev pub AreStmts : List Token → List StmtImage → Type 0
AreStmts = Says (AStmts no_tally)

abbrev pub IsWholeLine : List Token → Line → Type 0
IsWholeLine = Says AWholeLine

abbrev pub IsWholeAnyLine : List Token → AnyLineImage → Type 0
IsWholeAnyLine = Says AWholeAnyLine

abbrev pub AreSelected : List Token → List ℕ → List AskStepImage → Type 0
AreSelected ts table steps = Says ASelected ts (table, steps)
