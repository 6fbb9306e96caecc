-- A text of each symbol, with which tokens are completed.
use Rattle.std.specs.Prelude.{Option, Some, None, cond, option_map, option_and_then, is_some}
use Rattle.std.proofs.Common.{◌≡◌, ℕ, zero, suc, Bool, true, List, [], ◌∷◌, refl, ap}
use Rattle.smk_base.specs.declared.book.token.TokenKind.{TokenKind}
use Rattle.smk_base.specs.declared.book.token.TokenKind.TheVariants as kinds
use Rattle.smk_model.specs.{Tokens.Token, Rules.{Mark, Symbol, AToken, ALiteral, AWidth, AType, AWhat, AnOn, AnOp, One, Listed, ASource, APlan, AStep, AUnited, AStmts, ALineage, AMarks, ALine, AWholeLine, AnyLine, AWholeAnyLine, AnAskStep, APiped, Tree, Rule, Gives, Reads, Opening}, LanguageTable.{rule_of, if_nothing}, TokenReadings.in_range, Spelled.{Spells, begun, nothing, Follows, given, read}}
use Rattle.smk_model.proofs.Alike.{same_self}

abbrev pub tok : TokenKind → Token
tok k = record { at = 0; kind = k; text = 49 ∷ [] }

-- a text of a symbol, and one of a rule, whatever is behind
record Short (symbol : Symbol) : Type 0 where
  tree : Tree symbol
  text : (b : List Token) → (a : List Token) × Spells symbol a b tree

pub record ShortRule (symbol : Symbol) (rule : Rule (Tree symbol)) : Type 0 where
  pub tree : Tree symbol
  pub text : (b : List Token) → (a : List Token) × Follows symbol rule a b tree

gives : {symbol : Symbol} (x : Tree symbol) → ShortRule symbol (Gives x)
gives x = record { tree = x; text = λ b. (b, given) }

then : {symbol inner : Symbol} {rest : Tree inner → Rule (Tree symbol)} (s : Short inner) → ShortRule symbol (rest s.tree) → ShortRule symbol (Reads inner rest)
then s r = record { tree = r.tree; text = λ b. let k = r.text b in let h = s.text k.0 in (h.0, read h.1 k.1) }

-- by the token that begins it, and by nothing
begun_by : (symbol : Symbol) (k : TokenKind) (rule : Token → Rule (Tree symbol)) → rule_of symbol k ≡ Some rule → in_range symbol (tok k) ≡ true → ShortRule symbol (rule (tok k)) → Short symbol
begun_by symbol k rule is ranged r = record { tree = r.tree; text = λ b. let h = r.text b in (tok k ∷ h.0, begun is ranged h.1) }

nothing_is : (symbol : Symbol) (tree : Tree symbol) → if_nothing symbol ≡ Some tree → Short symbol
nothing_is symbol tree is = record { tree = tree; text = λ b. (b, nothing is) }

is_sign : (k : TokenKind) → rule_of (AToken k) k ≡ Some Gives
is_sign k = ap (λ (o : Bool). cond o (Some Gives) None) (same_self k)

a_sign : (k : TokenKind) → Short (AToken k)
a_sign k = record { tree = tok k; text = λ b. (tok k ∷ b, begun (is_sign k) refl given) }

-- the kind of a token that begins a text of a symbol which isn't nothing
abbrev begins_by : Symbol → TokenKind
begins_by ALiteral = kinds.Str
begins_by AWidth = kinds.Number
begins_by (One Mark k) = kinds.Number
begins_by (Listed Mark) = kinds.Number
begins_by AType = kinds.Int
begins_by AWhat = kinds.Count
begins_by AnOn = kinds.On
begins_by AnOp = kinds.Equal
begins_by (ASource d) = kinds.Scan
begins_by (APlan d) = kinds.Scan
begins_by (AUnited d) = kinds.Scan
begins_by (AStep d) = kinds.Group
begins_by AnAskStep = kinds.Group
begins_by APiped = kinds.Group
begins_by (AStmts y) = kinds.End
begins_by (ALineage at) = kinds.Fwd
begins_by AMarks = kinds.All
begins_by ALine = kinds.Clear
begins_by AWholeLine = kinds.Clear
begins_by AnyLine = kinds.Clear
begins_by AWholeAnyLine = kinds.Clear
begins_by _ = kinds.Name

-- a text of a symbol, by those of rules
short_by : (symbol : Symbol) → ((rule : Rule (Tree symbol)) → Option (ShortRule symbol rule)) → Option (Short symbol)
short_by symbol close = by (if_nothing symbol) refl (rule_of symbol (begins_by symbol)) refl (in_range symbol (tok (begins_by symbol))) refl
  where
    by : (empty : Option (Tree symbol)) → if_nothing symbol ≡ empty → (o : Opening (Tree symbol)) → rule_of symbol (begins_by symbol) ≡ o → (r : Bool) → in_range symbol (tok (begins_by symbol)) ≡ r → Option (Short symbol)
    by (Some tree) is o e r f = Some (nothing_is symbol tree is)
    by None is (Some rule) e true f = option_map (begun_by symbol (begins_by symbol) rule e f) (close (rule (tok (begins_by symbol))))
    by None is o e r f = None

close_by : ((symbol : Symbol) → Option (Short symbol)) → {symbol : Symbol} (rule : Rule (Tree symbol)) → Option (ShortRule symbol rule)
close_by short (Gives x) = Some (gives x)
close_by short (Reads inner rest) = option_and_then (λ (s : Short inner). option_map (then s) (close_by short (rest s.tree))) (short inner)

-- those that come of this, where so many symbols stand in one another
short_in : ℕ → (symbol : Symbol) → Option (Short symbol)
short_in n (AToken k) = Some (a_sign k)
short_in zero symbol = None
short_in (suc n) symbol = short_by symbol (λ rule. close_by (λ inner. short_in n inner) rule)

-- each symbol has one
enough : (symbol : Symbol) → is_some (short_in 6 symbol) ≡ true
unfolding short_in short_by close_by
enough (One Mark k) = refl
enough (Listed Mark) = refl
enough _ = refl

short : (symbol : Symbol) → Short symbol
short symbol = by (short_in 6 symbol) (enough symbol)
  where
    by : (o : Option (Short symbol)) → is_some o ≡ true → Short symbol
    by (Some s) e = s
    by None e = absurd (cc)

-- a text of each rule
pub close : {symbol : Symbol} (rule : Rule (Tree symbol)) → ShortRule symbol rule
close (Gives x) = gives x
close (Reads inner rest) = let s = short inner in then s (close (rest s.tree))
