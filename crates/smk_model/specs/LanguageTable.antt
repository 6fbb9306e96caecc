-- The grammar as a table: for each symbol and the kind of its first token, what is read after that token and the tree that it makes; and what a symbol gives when it is left out. Each rule is above its lines.
use Rattle.std.specs.Prelude.{ℕ, ℤ, pos, negsuc, ◌+◌, Bool, true, false, cond, List, [], ◌∷◌, Option, Some, None}
use Rattle.smk_base.specs.{declared.book.token.TokenKind.TokenKind, declared.book.plan.CmpOp.CmpOp, declared.book.tree.Word.Word, declared.book.tree.Lit.Lit, declared.book.tree.AggTree.AggTree, declared.book.tree.AggWhat.AggWhat, declared.book.tree.Extra.Extra, declared.book.tree.ItemTree.ItemTree, declared.book.tree.Term.Term, declared.book.tree.Marks.Marks, declared.book.tree.Then.Then, declared.book.tree.Line.Line, Trees.{PredImage, CompareNode, AndNode, OrNode, NotNode, TreeImage, ScanNode, StepNode, StepImage, SelectNode, ProjectNode, DistinctNode, GroupNode, JoinNode, ThetaNode, ProductNode, UnionAllNode, UnionNode, StmtImage, AskStepImage, TableNode, ViewNode, BackNode, FwdNode, LinkNode, DependsNode, AnyLineImage, PlainLine, AskedLine, ProfiledLine, AppendedLine}}
use Rattle.smk_base.specs.declared.book.token.TokenKind.TheVariants as kinds
use Rattle.smk_base.specs.declared.value.Value.TheVariants as values
use Rattle.smk_base.specs.declared.book.plan.CmpOp.TheVariants as ops
use Rattle.smk_base.specs.declared.book.tree.Extra.TheVariants as extras
use Rattle.smk_base.specs.declared.book.tree.ItemTree.TheVariants as items
use Rattle.smk_base.specs.declared.book.tree.AggWhat.TheVariants as whats
use Rattle.smk_base.specs.declared.book.tree.Term.TheVariants as terms
use Rattle.smk_base.specs.declared.book.tree.Marks.TheVariants as markings
use Rattle.smk_base.specs.declared.book.tree.Then.TheVariants as thens
use Rattle.smk_base.specs.declared.book.tree.Line.TheVariants as lines
use Rattle.smk_model.specs.{Tokens.{Token, inner, int_value, string_value}, TokenKinds.same_kind, Rules.{Tally, Member, Declaration, OutputItem, KeyColumn, Aggregation, ColumnPair, LinkedView, Mark, MemberTree, Symbol, AToken, ANames, AMarked, AName, ALineName, AColumn, ALineColumn, ALiteral, AWidth, AType, ADefault, AWhat, AKeys, AnAggs, AnOn, AnOp, ATerm, AFirst, AnAs, One, More, Listed, ASource, APlan, AStep, AUnited, APrim, AConj, APred, ASteps, AnAnds, AnOrs, AStmts, ALineage, AnExtra, AMarks, AThen, ACleared, ALine, AWholeLine, AnyLine, AWholeAnyLine, AnAskStep, AskSteps, APiped, ASelected, Tree, Rule, Gives, Reads, behind, Opening, onward}}

-- the words of a name, and of a column in backquotes
abbrev pub plain_word : Token → Word
plain_word t = record { name = t.text; at = t.at }

abbrev pub quoted_word : Token → Word
quoted_word t = record { name = inner t.text; at = t.at }

-- a keyword or a sign, the name of a file, and the end of the text
abbrev pub sign : {A : Type 0} → TokenKind → Rule A → Rule A
sign kind next = Reads (AToken kind) (λ t. next)

abbrev pub file : {A : Type 0} → (List ℕ → Rule A) → Rule A
file next = Reads (AToken kinds.Str) (λ t. next (string_value t.text))

abbrev pub ends : {A : Type 0} → A → Rule A
ends x = sign kinds.End (Gives x)

-- what is read after a token of one kind, after a name, and after a column
abbrev pub if_sign : {A : Type 0} → TokenKind → (Token → Rule A) → TokenKind → Opening A
if_sign wanted rule kind = cond (same_kind wanted kind) (Some rule) None

abbrev pub if_name : {A : Type 0} → (Word → Rule A) → TokenKind → Opening A
if_name next kinds.Name = Some (λ t. next (plain_word t))
if_name next _ = None

-- column = NAME | QUOTED
abbrev pub if_column : {A : Type 0} → (Word → Rule A) → TokenKind → Opening A
if_column next kinds.Name = Some (λ t. next (plain_word t))
if_column next kinds.Quoted = Some (λ t. next (quoted_word t))
if_column next _ = None

-- literal = INT | TEXT
abbrev pub if_literal : {A : Type 0} → (Lit → Rule A) → TokenKind → Opening A
if_literal next kinds.Number = Some (λ t. next (record { value = values.Int (int_value t.text); at = t.at }))
if_literal next kinds.Str = Some (λ t. next (record { value = values.Text (string_value t.text); at = t.at }))
if_literal next _ = None

-- declared = column ('int' | 'text') ['default' literal]
abbrev pub type_rule : TokenKind → Opening Bool
type_rule kinds.Int = Some (λ t. Gives false)
type_rule kinds.Text = Some (λ t. Gives true)
type_rule _ = None

-- item = column ['as' column] | 'bin' '(' column ',' INT ')' 'as' column
abbrev pub item_rule : TokenKind → Opening ItemTree
item_rule kinds.Bin = Some (λ t. sign kinds.Open (Reads AColumn (λ w. sign kinds.Comma (Reads AWidth (λ n. sign kinds.Close (sign kinds.As (Reads AColumn (λ v. Gives (items.Bin w n v)))))))))
item_rule kind = if_column (λ w. Reads (AnAs w) (λ v. Gives (items.Col w v))) kind

-- a mark is from 0 to 4,294,967,295
abbrev pub mark_of : ℤ → ℕ
mark_of (pos n) = n
mark_of (negsuc n) = 0

-- pair = column '=' column
abbrev pub member_rule : (member : Member) → TokenKind → Opening (MemberTree member)
member_rule Declaration kind = if_column (λ w. Reads AType (λ x. Reads ADefault (λ o. Gives (record { name = w; text = x; def = o })))) kind
member_rule OutputItem kind = item_rule kind
member_rule KeyColumn kind = if_column Gives kind
member_rule Aggregation kind = if_column (λ w. sign kinds.Equal (Reads AWhat (λ x. Gives (record { name = w; what = x })))) kind
member_rule ColumnPair kind = if_column (λ w. sign kinds.Equal (Reads AColumn (λ v. Gives (record { left = w; right = v })))) kind
member_rule LinkedView kind = if_name Gives kind
member_rule Mark kind = if_sign kinds.Number (λ t. Gives (mark_of (int_value t.text))) kind

-- x,+ is one x or more with commas between them
abbrev pub listed_rule : (member : Member) → TokenKind → Opening (List (MemberTree member))
listed_rule member kind = onward (member_rule member kind) (λ x. Reads (More member 1) (λ xs. Gives (x ∷ xs)))

-- aggregate = column '=' ('count' | ('sum' | 'min' | 'max') column)
abbrev pub what_rule : TokenKind → Opening AggWhat
what_rule kinds.Count = Some (λ t. Gives whats.Count)
what_rule kinds.Sum = Some (λ t. Reads AColumn (λ w. Gives (whats.Sum w)))
what_rule kinds.Min = Some (λ t. Reads AColumn (λ w. Gives (whats.Min w)))
what_rule kinds.Max = Some (λ t. Reads AColumn (λ w. Gives (whats.Max w)))
what_rule _ = None

-- OPERATOR = '=' | '!=' | '<' | '<=' | '>' | '>='
abbrev pub op_rule : TokenKind → Opening CmpOp
op_rule kinds.Equal = Some (λ t. Gives ops.Eq)
op_rule kinds.NotEqual = Some (λ t. Gives ops.Ne)
op_rule kinds.Less = Some (λ t. Gives ops.Lt)
op_rule kinds.LessEqual = Some (λ t. Gives ops.Le)
op_rule kinds.Greater = Some (λ t. Gives ops.Gt)
op_rule kinds.GreaterEqual = Some (λ t. Gives ops.Ge)
op_rule _ = None

abbrev pub term_rule : TokenKind → Opening Term
term_rule kinds.Number = if_literal (λ l. Gives (terms.Lit l)) kinds.Number
term_rule kinds.Str = if_literal (λ l. Gives (terms.Lit l)) kinds.Str
term_rule kind = if_column (λ w. Gives (terms.Col w)) kind

-- one = 'not' one | '(' test ')' | column OPERATOR (column | literal)
abbrev pub prim_rule : ℕ → TokenKind → Opening PredImage
prim_rule d kinds.Not = Some (λ t. Reads (APrim (d + 1)) (λ p. Gives (NotNode p)))
prim_rule d kinds.Open = Some (λ t. Reads (APred (d + 1)) (λ p. sign kinds.Close (Gives p)))
prim_rule d kind = if_column (λ w. Reads AnOp (λ o. Reads ATerm (λ x. Gives (CompareNode w o x)))) kind

-- all_of = one ('and' one)*
abbrev pub conj_rule : ℕ → TokenKind → Opening PredImage
conj_rule d kind = onward (prim_rule d kind) (λ p. Reads (AnAnds d p) Gives)

-- test = all_of ('or' all_of)*
abbrev pub pred_rule : ℕ → TokenKind → Opening PredImage
pred_rule d kind = onward (conj_rule d kind) (λ p. Reads (AnOrs d p) Gives)

-- source = 'scan' NAME | '(' plan ')'
abbrev pub source_rule : ℕ → TokenKind → Opening TreeImage
source_rule d kinds.Scan = Some (λ t. Reads AName (λ w. Gives (ScanNode w)))
source_rule d kinds.Open = Some (λ t. Reads (APlan (d + 1)) (λ x. sign kinds.Close (Gives x)))
source_rule d _ = None

-- plan = source ('|' step)*
abbrev pub plan_rule : ℕ → TokenKind → Opening TreeImage
plan_rule d kind = onward (source_rule d kind) (λ x. Reads (ASteps d x) Gives)

-- step = .. | 'union' 'all' source | 'union' source
abbrev pub united_rule : ℕ → TokenKind → Opening StepImage
united_rule d kinds.All = Some (λ t. Reads (ASource d) (λ x. Gives (UnionAllNode x)))
united_rule d kind = onward (source_rule d kind) (λ x. Gives (UnionNode x))

-- [column,+] ['{' aggregate,+ '}']
abbrev pub grouping : {A : Type 0} → (List Word → List AggTree → Rule A) → Rule A
grouping next = Reads AKeys (λ ws. Reads AnAggs (λ xs. next ws xs))

-- step = 'where' test | 'project' item,+ | 'distinct' item,+ | 'group' [column,+] ['{' aggregate,+ '}'] | 'join' source 'on' pair,+ | 'theta' source 'on' test | 'product' source | ..
abbrev pub step_rule : ℕ → TokenKind → Option (Rule StepImage)
step_rule d kinds.Where = Some (Reads (APred d) (λ p. Gives (SelectNode p)))
step_rule d kinds.Project = Some (Reads (Listed OutputItem) (λ xs. Gives (ProjectNode xs)))
step_rule d kinds.Distinct = Some (Reads (Listed OutputItem) (λ xs. Gives (DistinctNode xs)))
step_rule d kinds.Group = Some (grouping (λ ws xs. Gives (GroupNode ws xs)))
step_rule d kinds.Join = Some (Reads (ASource d) (λ x. sign kinds.On (Reads (Listed ColumnPair) (λ ps. Gives (JoinNode x ps)))))
step_rule d kinds.Theta = Some (Reads (ASource d) (λ x. Reads AnOn (λ t. Reads (APred d) (λ p. Gives (ThetaNode x p)))))
step_rule d kinds.Product = Some (Reads (ASource d) (λ x. Gives (ProductNode x)))
step_rule d kinds.Union = Some (Reads (AUnited d) Gives)
step_rule d _ = None

-- the steps with one input
abbrev pub one_input : TokenKind → Option (Rule StepImage)
one_input kinds.Where = step_rule 0 kinds.Where
one_input kinds.Project = step_rule 0 kinds.Project
one_input kinds.Distinct = step_rule 0 kinds.Distinct
one_input kinds.Group = step_rule 0 kinds.Group
one_input _ = None

-- one of these steps, with the place of its keyword
abbrev pub with_place : {A : Type 0} → (ℕ → StepImage → A) → Option (Rule StepImage) → Opening A
with_place make (Some rule) = Some (λ t. behind rule (λ s. Gives (make t.at s)))
with_place make None = None

-- the keyword between two names
abbrev pub joint : TokenKind → TokenKind
joint kinds.On = kinds.On
joint _ = kinds.To

-- NAME, a keyword, and another NAME
abbrev pub names_rule : TokenKind → TokenKind → Opening (Word × Word)
names_rule between kind = if_name (λ w. sign (joint between) (Reads AName (λ z. Gives (w, z)))) kind

-- finished = 'by' column | 'group' [column,+] ['{' aggregate,+ '}']
abbrev pub extra_rule : TokenKind → Opening Extra
extra_rule kinds.By = Some (λ t. Reads AColumn (λ w. Gives (extras.By w)))
extra_rule kinds.Group = Some (λ t. grouping (λ ws xs. Gives (extras.Grouped t.at ws xs)))
extra_rule _ = None

-- 'table' NAME 'from' TEXT '(' declared,+ ')'
abbrev pub table_rule : Rule StmtImage
table_rule = Reads AName (λ w. sign kinds.From (file (λ f. sign kinds.Open (Reads (Listed Declaration) (λ ds. sign kinds.Close (Gives (TableNode w f ds)))))))

-- 'view' NAME '=' plan
abbrev pub view_rule : Rule StmtImage
view_rule = Reads AName (λ w. sign kinds.Equal (Reads (APlan 0) (λ x. Gives (ViewNode w x))))

-- 'lineage' 'back' NAME 'to' NAME [finished] | 'lineage' 'fwd' NAME 'to' NAME
abbrev pub lineage_rule : ℕ → TokenKind → Opening StmtImage
lineage_rule at kinds.Back = Some (λ t. Reads (ANames kinds.To) (λ n. Reads AnExtra (λ x. Gives (BackNode at n.0 n.1 x))))
lineage_rule at kinds.Fwd = Some (λ t. Reads (ANames kinds.To) (λ n. Gives (FwdNode at n.0 n.1)))
lineage_rule at _ = None

-- 'link' NAME 'on' NAME 'to' NAME,+
abbrev pub link_rule : Rule StmtImage
link_rule = Reads (ANames kinds.On) (λ n. sign kinds.To (Reads (Listed LinkedView) (λ ws. Gives (LinkNode n.0 n.1 ws))))

-- 'fd' NAME 'on' NAME column,+ 'to' column
abbrev pub depends_rule : ℕ → Rule StmtImage
depends_rule at = Reads (ANames kinds.On) (λ n. Reads (Listed KeyColumn) (λ ws. sign kinds.To (Reads AColumn (λ c. Gives (DependsNode at n.0 n.1 ws c)))))

-- statement, by its keyword
abbrev pub stmt_rule : TokenKind → Opening StmtImage
stmt_rule kinds.Table = Some (λ t. table_rule)
stmt_rule kinds.View = Some (λ t. view_rule)
stmt_rule kinds.Lineage = Some (λ t. Reads (ALineage t.at) Gives)
stmt_rule kinds.Link = Some (λ t. link_rule)
stmt_rule kinds.Fd = Some (λ t. depends_rule t.at)
stmt_rule _ = None

abbrev pub counted : TokenKind → Tally → Tally
counted kinds.Table y = record y { tables = y.tables + 1 }
counted kinds.View y = record y { views = y.views + 1 }
counted kinds.Lineage y = record y { lineages = y.lineages + 1 }
counted kinds.Link y = record y { links = y.links + 1 }
counted kinds.Fd y = record y { views = y.views + 1; lineages = y.lineages + 1 }
counted _ y = y

-- book = statement*, up to the end
abbrev pub stmts_rule : Tally → TokenKind → Opening (List StmtImage)
stmts_rule y kinds.End = Some (λ t. Gives [])
stmts_rule y kind = onward (stmt_rule kind) (λ s. Reads (AStmts (counted kind y)) (λ ss. Gives (s ∷ ss)))

-- marks = 'all' | INT,+
abbrev pub marks_rule : TokenKind → Opening Marks
marks_rule kinds.All = Some (λ t. Gives markings.All)
marks_rule kind = onward (listed_rule Mark kind) (λ ms. Gives (markings.Listed ms))

-- part = 'where' column '=' literal | 'group'
abbrev pub then_rule : TokenKind → Opening Then
then_rule kinds.Where = Some (λ t. Reads ALineColumn (λ w. sign kinds.Equal (Reads ALiteral (λ l. Gives (thens.Matching w.name l.value)))))
then_rule kinds.Group = Some (λ t. Gives thens.Grouped)
then_rule _ = None

-- NAME marks, a keyword, and another NAME
abbrev pub marked_rule : TokenKind → TokenKind → Opening (Word × Marks × Word)
marked_rule between kind = if_name (λ w. Reads AMarks (λ m. sign (joint between) (Reads ALineName (λ z. Gives (w, m, z))))) kind

-- line = 'show' NAME | 'back' NAME marks 'to' NAME [part] | 'fwd' NAME marks 'to' NAME | 'brush' NAME marks 'on' NAME | 'clear' [NAME 'on' NAME] | ..
abbrev pub line_rule : TokenKind → Opening Line
line_rule kinds.Show = Some (λ t. Reads ALineName (λ w. Gives (lines.Show w.name)))
line_rule kinds.Back = Some (λ t. Reads (AMarked kinds.To) (λ x. Reads AThen (λ y. Gives (lines.Back x.0.name x.1 x.2.name y))))
line_rule kinds.Fwd = Some (λ t. Reads (AMarked kinds.To) (λ x. Gives (lines.Fwd x.0.name x.1 x.2.name)))
line_rule kinds.Brush = Some (λ t. Reads (AMarked kinds.On) (λ x. Gives (lines.Brush x.0.name x.1 x.2.name)))
line_rule kinds.Clear = Some (λ t. Reads ACleared Gives)
line_rule _ = None

-- .. | 'ask' 'back' NAME marks 'to' NAME ('|' step)+
abbrev pub ask_rule : Rule AnyLineImage
ask_rule = sign kinds.Back (Reads (AMarked kinds.To) (λ x. sign kinds.Bar (Reads APiped (λ ss. Gives (AskedLine (record { view = x.0.name; marks = x.1; table = x.2.name; steps = ss }))))))

-- .. | 'append' NAME TEXT
abbrev pub append_rule : Rule AnyLineImage
append_rule = Reads ALineName (λ w. file (λ f. Gives (AppendedLine w.name f)))

-- line = .. | 'ask' 'back' NAME marks 'to' NAME ('|' step)+ | 'fd' NAME | 'append' NAME TEXT
abbrev pub any_rule : TokenKind → Opening AnyLineImage
any_rule kinds.Ask = Some (λ t. ask_rule)
any_rule kinds.Fd = Some (λ t. Reads ALineName (λ w. Gives (ProfiledLine w.name)))
any_rule kinds.Append = Some (λ t. append_rule)
any_rule kind = onward (line_rule kind) (λ l. Gives (PlainLine l))

-- the steps after a bar, one or more
abbrev pub asked_rule : TokenKind → Opening AskStepImage
asked_rule kind = with_place (λ at s. record { at = at; what = s }) (one_input kind)

abbrev pub piped_rule : TokenKind → Opening (List AskStepImage)
piped_rule kind = onward (asked_rule kind) (λ s. Reads AskSteps (λ ss. Gives (s ∷ ss)))

-- what is read after the first token of a symbol
abbrev pub rule_of : (symbol : Symbol) → TokenKind → Opening (Tree symbol)
rule_of (AToken wanted) kind = if_sign wanted Gives kind
rule_of (ANames between) kind = names_rule between kind
rule_of (AMarked between) kind = marked_rule between kind
rule_of AName kind = if_name Gives kind
rule_of ALineName kind = if_name Gives kind
rule_of AColumn kind = if_column Gives kind
rule_of ALineColumn kind = if_column Gives kind
rule_of ALiteral kind = if_literal Gives kind
rule_of AWidth kind = if_sign kinds.Number (λ t. Gives (int_value t.text)) kind
rule_of AType kind = type_rule kind
rule_of ADefault kind = if_sign kinds.Default (λ t. Reads ALiteral (λ l. Gives (Some l))) kind
rule_of AWhat kind = what_rule kind
rule_of AKeys kind = listed_rule KeyColumn kind
rule_of AnAggs kind = if_sign kinds.OpenBrace (λ t. Reads (Listed Aggregation) (λ xs. sign kinds.CloseBrace (Gives xs))) kind
rule_of AnOn kind = if_sign kinds.On Gives kind
rule_of AnOp kind = op_rule kind
rule_of ATerm kind = term_rule kind
rule_of (AFirst k) kind = if_column Gives kind
rule_of (AnAs word) kind = if_sign kinds.As (λ t. Reads AColumn Gives) kind
rule_of (One member k) kind = member_rule member kind
rule_of (More member k) kind = if_sign kinds.Comma (λ t. Reads (One member k) (λ x. Reads (More member (k + 1)) (λ xs. Gives (x ∷ xs)))) kind
rule_of (Listed member) kind = listed_rule member kind
rule_of (ASource d) kind = source_rule d kind
rule_of (APlan d) kind = plan_rule d kind
rule_of (AStep d) kind = with_place (λ at s. (at, s)) (step_rule d kind)
rule_of (AUnited d) kind = united_rule d kind
rule_of (APrim d) kind = prim_rule d kind
rule_of (AConj d) kind = conj_rule d kind
rule_of (APred d) kind = pred_rule d kind
rule_of (ASteps d x) kind = if_sign kinds.Bar (λ t. Reads (AStep d) (λ s. Reads (ASteps d (StepNode s.0 x s.1)) Gives)) kind
rule_of (AnAnds d p) kind = if_sign kinds.And (λ t. Reads (APrim d) (λ q. Reads (AnAnds d (AndNode p q)) Gives)) kind
rule_of (AnOrs d p) kind = if_sign kinds.Or (λ t. Reads (AConj d) (λ q. Reads (AnOrs d (OrNode p q)) Gives)) kind
rule_of (AStmts y) kind = stmts_rule y kind
rule_of (ALineage at) kind = lineage_rule at kind
rule_of AnExtra kind = extra_rule kind
rule_of AMarks kind = marks_rule kind
rule_of AThen kind = then_rule kind
rule_of ACleared kind = if_name (λ w. sign kinds.On (Reads ALineName (λ z. Gives (lines.ClearOne w.name z.name)))) kind
rule_of ALine kind = line_rule kind
rule_of AWholeLine kind = onward (line_rule kind) ends
rule_of AnyLine kind = any_rule kind
rule_of AWholeAnyLine kind = onward (any_rule kind) ends
rule_of AnAskStep kind = asked_rule kind
rule_of AskSteps kind = if_sign kinds.Bar (λ t. Reads APiped Gives) kind
rule_of APiped kind = piped_rule kind
-- NAME ('|' step)*, up to the end: a table, and steps over its rows
rule_of ASelected kind = if_name (λ w. Reads AskSteps (λ ss. ends (w.name, ss))) kind

-- what a symbol gives when it is left out
abbrev pub if_nothing : (symbol : Symbol) → Option (Tree symbol)
if_nothing ADefault = Some None
if_nothing AKeys = Some []
if_nothing AnAggs = Some []
if_nothing (AnAs word) = Some word
if_nothing (More member k) = Some []
if_nothing (ASteps d x) = Some x
if_nothing (AnAnds d p) = Some p
if_nothing (AnOrs d p) = Some p
if_nothing AnExtra = Some extras.Plain
if_nothing AThen = Some thens.Plain
if_nothing ACleared = Some lines.Clear
if_nothing AskSteps = Some []
if_nothing _ = None
