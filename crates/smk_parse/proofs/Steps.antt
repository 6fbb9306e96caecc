-- How a symbol goes on at the token in hand, and what begins with another symbol.
use Rattle.std.specs.Prelude.{Result, Ok, Err, Option, Some, None, true, false, is_some}
use Rattle.std.proofs.{Common.{◌≡◌, ◌<◌, ◌+◌, ℕ, List, [], ◌∷◌, ◌++◌, length, ap, ◌∙◌, sym, subst, refl, arith, append_assoc, append-nil}, lemmas.Bool.lt-ltb, lemmas.List.{map_push, length_push}}
use Rattle.smk_base.specs.{declared.book.token.TokenKind.TokenKind, declared.book.tree.ItemTree.ItemTree, declared.fault.Many.TheVariants.Nodes, declared.book.limits.TheConstants.NODE_LIMIT, Trees.{StmtImage, StepImage, AskStepImage, TreeImage, UnionNode, AnyLineImage, PlainLine}}
use Rattle.smk_base.specs.declared.book.token.TokenKind.TheVariants as kinds
use Rattle.smk_base.specs.declared.book.tree.ItemTree.TheVariants as items
use Rattle.smk_base.specs.declared.book.tree.Marks.TheVariants as markings
use Rattle.smk_model.specs.{Rules.{Mark, Tally, AUnited, behind}, LanguageTable.{rule_of, if_name, if_column, ends, item_rule, listed_rule, marks_rule, source_rule, united_rule, line_rule, any_rule, stmt_rule, stmts_rule, counted, step_rule, one_input, with_place}, TokenReadings.{Count, Fine, within, limits, member_in_range, marks_in_range, first_count, item_count, source_count, node_count, stmt_count, short, Move, Skips, checked, opened, move_of, goes_on}}
use Rattle.smk_model.proofs.InTurn.{Here, then, goes, reading, runs_gives, runs_reads, runs_behind, begins_with, opened_onward, only, fewer, fewer_run}
use Rattle.smk_parse.specs.declared.book.Tally as code
use Rattle.smk_parse.specs.{Vocabulary.{BookFault, Token, Word, Marks, Line, head_of, tail_of, Configuration, PlanCounts, Symbol, Tree, Rule, Gives, Reads, onward, sign, Member, Declaration, OutputItem, KeyColumn, Aggregation, ColumnPair, AName, ALineName, AColumn, AType, ADefault, AnAs, AWhat, AFirst, ANames, AMarked, AMarks, AKeys, APrim, AnAnds, AnOrs, AConj, APred, ASource, ASteps, APlan, One, More, Listed, AnAskStep, AskSteps, APiped, ASelected, AStmts, AStep, no_counts, node_more, ALine, AWholeLine, AnyLine, AWholeAnyLine, Reading, reads, runs, joint}, Texts.Advances, Reads.{MemberRule, of, reads_one, reads_more, reads_list, before, is_column, ran, Answers, StmtReads, tally_of}}

-- a token is taken, and none comes back
pub smaller : (symbol : Symbol) (c : PlanCounts) (a b d : Configuration) (x : Tree symbol) → Advances c a b → reads symbol b ≡ Ok (x, d) → length d.rest < length a.rest
smaller symbol c a b d x h e = let n = ap length h.first in let l = fewer symbol b d x e in omega (arith, n, l)

pub behind_smaller : (symbol : Symbol) (c : PlanCounts) (a b d : Configuration) (x : Tree symbol) → reads symbol a ≡ Ok (x, b) → Advances c b d → length d.rest < length a.rest
behind_smaller symbol c a b d x e h = let n = ap length h.first in let l = fewer symbol a b x e in omega (arith, n, l)

pub advanced : (c : PlanCounts) (a b : Configuration) → Advances c a b → b ≡ record { rest = tail_of a.rest; counts = c }
advanced c a b h = λ i. record { rest = sym (ap tail_of h.first) i; counts = h.counted i }

-- what begins with another symbol, whatever token is in hand
pub conj_begins : (d : ℕ) (a : Configuration) → reads (AConj d) a ≡ then (reads (APrim d) a) (λ p b. runs (Reads (AnAnds d p) Gives) b)
conj_begins d a = begins_with (AConj d) (APrim d) (λ p. Reads (AnAnds d p) Gives) a (opened_onward (head_of a.rest) true (limits (APrim d) a.counts (head_of a.rest)) _ _ _)

pub pred_begins : (d : ℕ) (a : Configuration) → reads (APred d) a ≡ then (reads (AConj d) a) (λ p b. runs (Reads (AnOrs d p) Gives) b)
pred_begins d a = begins_with (APred d) (AConj d) (λ p. Reads (AnOrs d p) Gives) a (opened_onward (head_of a.rest) true (limits (AConj d) a.counts (head_of a.rest)) _ _ _)

pub plan_begins : (d : ℕ) (a : Configuration) → reads (APlan d) a ≡ then (reads (ASource d) a) (λ x b. runs (Reads (ASteps d x) Gives) b)
plan_begins d a = begins_with (APlan d) (ASource d) (λ x. Reads (ASteps d x) Gives) a (opened_onward (head_of a.rest) true (limits (ASource d) a.counts (head_of a.rest)) _ _ _)

pub piped_begins : (a : Configuration) → reads APiped a ≡ then (reads AnAskStep a) (λ s b. runs (Reads AskSteps (λ ss. Gives (s ∷ ss))) b)
piped_begins a = begins_with APiped AnAskStep (λ s. Reads AskSteps (λ ss. Gives (s ∷ ss))) a (opened_onward (head_of a.rest) true (limits AnAskStep a.counts (head_of a.rest)) _ _ _)

pub line_begins : (a : Configuration) → reads AWholeLine a ≡ then (reads ALine a) (λ l b. runs (ends l) b)
line_begins a = begins_with AWholeLine ALine ends a (opened_onward (head_of a.rest) true (limits ALine a.counts (head_of a.rest)) _ _ _)

pub any_begins : (a : Configuration) → reads AWholeAnyLine a ≡ then (reads AnyLine a) (λ l b. runs (ends l) b)
any_begins a = begins_with AWholeAnyLine AnyLine ends a (opened_onward (head_of a.rest) true (limits AnyLine a.counts (head_of a.rest)) _ _ _)

-- a name or a column, and what is read behind it
name_onward : {A : Type 0} (rest : Word → Rule A) (kind : TokenKind) → if_name rest kind ≡ onward (if_name Gives kind) rest
name_onward rest kinds.Name = refl
name_onward rest _ = refl

column_onward : {A : Type 0} (rest : Word → Rule A) (kind : TokenKind) → if_column rest kind ≡ onward (if_column Gives kind) rest
column_onward rest kinds.Name = refl
column_onward rest kinds.Quoted = refl
column_onward rest _ = refl

name_move : {A : Type 0} (count : Count) (rest : Word → Rule A) (t : Token) (next : Word → Move A) → opened t true count None (if_name rest t.kind) ≡ goes_on (opened t true count None (if_name Gives t.kind)) rest next
name_move count rest t next = ap (opened t true count None) (name_onward rest t.kind) ∙ opened_onward t true count (if_name Gives t.kind) rest next

column_move : {A : Type 0} (count : Count) (rest : Word → Rule A) (t : Token) (kind : TokenKind) (next : Word → Move A) → opened t true count None (if_column rest kind) ≡ goes_on (opened t true count None (if_column Gives kind)) rest next
column_move count rest t kind next = ap (opened t true count None) (column_onward rest kind) ∙ opened_onward t true count (if_column Gives kind) rest next

pub names_begin : (between : TokenKind) (a : Configuration) → reads (ANames between) a ≡ then (reads AName a) (λ w b. runs (sign (joint between) (Reads AName (λ z. Gives (w, z)))) b)
names_begin between a = begins_with (ANames between) AName (λ w. sign (joint between) (Reads AName (λ z. Gives (w, z)))) a (name_move (short a.counts (head_of a.rest)) _ (head_of a.rest) _)

pub marked_begins : (between : TokenKind) (a : Configuration) → reads (AMarked between) a ≡ then (reads ALineName a) (λ w b. runs (Reads AMarks (λ m. sign (joint between) (Reads ALineName (λ z. Gives (w, m, z))))) b)
marked_begins between a = begins_with (AMarked between) ALineName (λ w. Reads AMarks (λ m. sign (joint between) (Reads ALineName (λ z. Gives (w, m, z))))) a (name_move (Fine a.counts) _ (head_of a.rest) _)

pub selected_begins : (a : Configuration) → reads ASelected a ≡ then (reads ALineName a) (λ w b. runs (Reads AskSteps (λ ss. ends (w.name, ss))) b)
selected_begins a = begins_with ASelected ALineName (λ w. Reads AskSteps (λ ss. ends (w.name, ss))) a (name_move (Fine a.counts) _ (head_of a.rest) _)

pub decl_begins : (k : ℕ) (a : Configuration) → reads (One Declaration k) a ≡ then (reads (AFirst k) a) (λ w b. runs (Reads AType (λ x. Reads ADefault (λ o. Gives (record { name = w; text = x; def = o })))) b)
decl_begins k a = begins_with (One Declaration k) (AFirst k) (λ w. Reads AType (λ x. Reads ADefault (λ o. Gives (record { name = w; text = x; def = o })))) a (column_move (first_count k a.counts (head_of a.rest)) _ (head_of a.rest) _ _)

pub key_begins : (k : ℕ) (a : Configuration) → reads (One KeyColumn k) a ≡ then (reads (AFirst k) a) (λ w b. runs (Gives w) b)
key_begins k a = begins_with (One KeyColumn k) (AFirst k) Gives a (column_move (first_count k a.counts (head_of a.rest)) _ (head_of a.rest) _ _)

pub agg_begins : (k : ℕ) (a : Configuration) → reads (One Aggregation k) a ≡ then (reads (AFirst k) a) (λ w b. runs (sign kinds.Equal (Reads AWhat (λ x. Gives (record { name = w; what = x })))) b)
agg_begins k a = begins_with (One Aggregation k) (AFirst k) (λ w. sign kinds.Equal (Reads AWhat (λ x. Gives (record { name = w; what = x })))) a (column_move (first_count k a.counts (head_of a.rest)) _ (head_of a.rest) _ _)

pub pair_begins : (k : ℕ) (a : Configuration) → reads (One ColumnPair k) a ≡ then (reads (AFirst k) a) (λ w b. runs (sign kinds.Equal (Reads AColumn (λ v. Gives (record { left = w; right = v })))) b)
pair_begins k a = begins_with (One ColumnPair k) (AFirst k) (λ w. sign kinds.Equal (Reads AColumn (λ v. Gives (record { left = w; right = v })))) a (column_move (first_count k a.counts (head_of a.rest)) _ (head_of a.rest) _ _)

-- an output column that is no bin
item_move : (k : ℕ) (c : PlanCounts) (t : Token) (kind : TokenKind) (next : Word → Move ItemTree) → (kind ≡ kinds.Bin → ⊥) → opened t true (item_count k c t kind) None (item_rule kind) ≡ goes_on (opened t true (first_count k c t) None (if_column Gives kind)) (λ w. Reads (AnAs w) (λ v. Gives (items.Col w v))) next
item_move k c t kinds.Bin next n = absurd (n refl)
item_move k c t kind next n = column_move (first_count k c t) (λ w. Reads (AnAs w) (λ v. Gives (items.Col w v))) t kind next

pub item_begins : (k : ℕ) (a : Configuration) → ((head_of a.rest).kind ≡ kinds.Bin → ⊥) → reads (One OutputItem k) a ≡ then (reads (AFirst k) a) (λ w b. runs (Reads (AnAs w) (λ v. Gives (items.Col w v))) b)
item_begins k a n = begins_with (One OutputItem k) (AFirst k) (λ w. Reads (AnAs w) (λ v. Gives (items.Col w v))) a (item_move k a.counts (head_of a.rest) (head_of a.rest).kind _ n)

-- marks in a list, and the other side of a union
marks_move : (t : Token) (kind : TokenKind) (c : PlanCounts) (next : List ℕ → Move Marks) → (kind ≡ kinds.All → ⊥) → opened t (marks_in_range t kind) (Fine c) None (marks_rule kind) ≡ goes_on (opened t (member_in_range Mark t) (Fine c) None (listed_rule Mark kind)) (λ ms. Gives (markings.Listed ms)) next
marks_move t kinds.All c next n = absurd (n refl)
marks_move t kinds.Number c next n = opened_onward t (member_in_range Mark t) (Fine c) (listed_rule Mark kinds.Number) (λ ms. Gives (markings.Listed ms)) next
marks_move t _ c next n = refl

pub marks_begin : (a : Configuration) → ((head_of a.rest).kind ≡ kinds.All → ⊥) → reads AMarks a ≡ then (reads (Listed Mark) a) (λ ms b. runs (Gives (markings.Listed ms)) b)
marks_begin a n = begins_with AMarks (Listed Mark) (λ ms. Gives (markings.Listed ms)) a (marks_move (head_of a.rest) (head_of a.rest).kind a.counts _ n)

united_move : (d : ℕ) (c : PlanCounts) (t : Token) (kind : TokenKind) (next : TreeImage → Move StepImage) → (kind ≡ kinds.All → ⊥) → opened t true (source_count d c kind) None (united_rule d kind) ≡ goes_on (opened t true (source_count d c kind) None (source_rule d kind)) (λ x. Gives (UnionNode x)) next
united_move d c t kinds.All next n = absurd (n refl)
united_move d c t kind next n = opened_onward t true (source_count d c kind) (source_rule d kind) (λ x. Gives (UnionNode x)) next

pub united_begins : (d : ℕ) (a : Configuration) → ((head_of a.rest).kind ≡ kinds.All → ⊥) → reads (AUnited d) a ≡ then (reads (ASource d) a) (λ x b. runs (Gives (UnionNode x)) b)
united_begins d a n = begins_with (AUnited d) (ASource d) (λ x. Gives (UnionNode x)) a (united_move d a.counts (head_of a.rest) (head_of a.rest).kind _ n)

-- a line without steps
plain_move : (c : PlanCounts) (t : Token) (kind : TokenKind) (next : Line → Move AnyLineImage) → (kind ≡ kinds.Ask → ⊥) → (kind ≡ kinds.Fd → ⊥) → (kind ≡ kinds.Append → ⊥) → opened t true (Fine c) None (any_rule kind) ≡ goes_on (opened t true (Fine c) None (line_rule kind)) (λ l. Gives (PlainLine l)) next
plain_move c t kinds.Ask next e f g = absurd (e refl)
plain_move c t kinds.Fd next e f g = absurd (f refl)
plain_move c t kinds.Append next e f g = absurd (g refl)
plain_move c t kind next e f g = opened_onward t true (Fine c) (line_rule kind) (λ l. Gives (PlainLine l)) next

pub plain_begins : (a : Configuration) → ((head_of a.rest).kind ≡ kinds.Ask → ⊥) → ((head_of a.rest).kind ≡ kinds.Fd → ⊥) → ((head_of a.rest).kind ≡ kinds.Append → ⊥) → reads AnyLine a ≡ then (reads ALine a) (λ l b. runs (Gives (PlainLine l)) b)
plain_begins a e f g = begins_with AnyLine ALine (λ l. Gives (PlainLine l)) a (plain_move a.counts (head_of a.rest) (head_of a.rest).kind _ e f g)

-- the keys of a grouping, where a column is in hand
keys_move : (c : PlanCounts) (t : Token) (kind : TokenKind) → is_column kind ≡ true → opened t true (first_count 0 c t) (Some []) (listed_rule KeyColumn kind) ≡ opened t true (first_count 0 c t) None (listed_rule KeyColumn kind)
keys_move c t kinds.Name e = refl
keys_move c t kinds.Quoted e = refl
keys_move c t _ e = absurd (cc)

pub keys_begin : (a : Configuration) → Here a → is_column (head_of a.rest).kind ≡ true → reads AKeys a ≡ reads (Listed KeyColumn) a
keys_begin a here e = reading AKeys a here ∙ ap (goes a) (keys_move a.counts (head_of a.rest) (head_of a.rest).kind e) ∙ sym (reading (Listed KeyColumn) a here)

keys_none : (c : PlanCounts) (t : Token) (kind : TokenKind) → is_column kind ≡ false → opened t true (first_count 0 c t) (Some []) (listed_rule KeyColumn kind) ≡ Skips []
keys_none c t kinds.Name e = absurd (cc)
keys_none c t kinds.Quoted e = absurd (cc)
keys_none c t _ e = refl

pub no_keys : (a : Configuration) → Here a → is_column (head_of a.rest).kind ≡ false → reads AKeys a ≡ Ok ([], a)
no_keys a here e = reading AKeys a here ∙ ap (goes a) (keys_none a.counts (head_of a.rest) (head_of a.rest).kind e)

-- what follows a first of several
pub prepended : {T : Type 0} (x : T) (r : Reading (List T)) → then r (λ xs c. runs (Gives (x ∷ xs)) c) ≡ before (x ∷ []) r
prepended x (Ok p) = runs_gives (x ∷ p.0) p.1
prepended x (Err f) = refl

pub before_push : {T : Type 0} (xs : List T) (x : T) (r : Reading (List T)) → before (xs ++ x ∷ []) r ≡ before xs (before (x ∷ []) r)
before_push xs x (Ok p) = ap (λ ys. Ok (ys, p.1)) (append_assoc xs (x ∷ []) p.0)
before_push xs x (Err f) = refl

pub before_none : {T : Type 0} (r : Reading (List T)) → before [] r ≡ r
before_none (Ok p) = refl
before_none (Err f) = refl

-- the members of a list from a place on, where one is in hand
abbrev pub reads_rest : {T : Type 0} → MemberRule T → ℕ → Configuration → Reading (List T)
reads_rest rule k a = then (reads_one rule k a) (λ x b. before (x ∷ []) (reads_more rule (k + 1) b))

rest_of : (member : Member) (k : ℕ) (a : Configuration) → then (reads (One member k) a) (λ x b. runs (Reads (More member (k + 1)) (λ xs. Gives (x ∷ xs))) b) ≡ reads_rest (of member) k a
rest_of member k a = ap (then (reads (One member k) a)) (λ i x b. (runs_reads (More member (k + 1)) (λ xs. Gives (x ∷ xs)) b ∙ prepended x (reads (More member (k + 1)) b)) i)

pub list_begins : {T : Type 0} (rule : MemberRule T) (a : Configuration) → reads_list rule a ≡ before [] (reads_rest rule 0 a)
list_begins (of member) a = begins_with (Listed member) (One member 0) (λ x. Reads (More member 1) (λ xs. Gives (x ∷ xs))) a (opened_onward _ _ _ _ _ _) ∙ rest_of member 0 a ∙ sym (before_none (reads_rest (of member) 0 a))

more_goes : (member : Member) (k : ℕ) (b d : Configuration) → Here b → (head_of b.rest).kind ≡ kinds.Comma → Advances b.counts b d → reads (More member k) b ≡ reads_rest (of member) k d
more_goes member k b d here is moved =
    reading (More member k) b here
    ∙ ap (λ kind. goes b (opened (head_of b.rest) true (Fine b.counts) (Some []) (rule_of (More member k) kind))) is
    ∙ ap (runs (Reads (One member k) (λ x. Reads (More member (k + 1)) (λ xs. Gives (x ∷ xs))))) (sym (advanced b.counts b d moved))
    ∙ runs_reads (One member k) (λ x. Reads (More member (k + 1)) (λ xs. Gives (x ∷ xs))) d
    ∙ rest_of member k d

more_none : (member : Member) (k : ℕ) (c : PlanCounts) (t : Token) (kind : TokenKind) → (kind ≡ kinds.Comma → ⊥) → opened t true (Fine c) (Some []) (rule_of (More member k) kind) ≡ Skips []
more_none member k c t kinds.Comma n = absurd (n refl)
more_none member k c t _ n = refl

-- a member behind those so far, with a comma behind it, without one, and one that isn't read
pub list_goes : {T : Type 0} (rule : MemberRule T) (r : Reading (List T)) (xs ys : List T) (x : T) (a b d : Configuration) → r ≡ before xs (reads_rest rule (length xs) a) → reads_one rule (length xs) a ≡ Ok (x, b) → Here b → (head_of b.rest).kind ≡ kinds.Comma → Advances b.counts b d → ys ≡ xs ++ x ∷ [] → r ≡ before ys (reads_rest rule (length ys) d)
list_goes (of member) r xs ys x a b d h e here is moved p =
    let n : length xs + 1 ≡ length ys = sym (length_push xs x) ∙ sym (ap length p) in
    h ∙ ap (λ q. before xs (then q (λ x b. before (x ∷ []) (reads (More member (length xs + 1)) b)))) e
    ∙ ap (λ q. before xs (before (x ∷ []) q)) (more_goes member (length xs + 1) b d here is moved)
    ∙ sym (before_push xs x (reads_rest (of member) (length xs + 1) d))
    ∙ ap (λ k. before (xs ++ x ∷ []) (reads_rest (of member) k d)) n ∙ ap (λ l. before l (reads_rest (of member) (length ys) d)) (sym p)

pub list_ends : {T : Type 0} (rule : MemberRule T) (r : Reading (List T)) (xs ys : List T) (x : T) (a b : Configuration) → r ≡ before xs (reads_rest rule (length xs) a) → reads_one rule (length xs) a ≡ Ok (x, b) → Here b → ((head_of b.rest).kind ≡ kinds.Comma → ⊥) → ys ≡ xs ++ x ∷ [] → r ≡ Ok (ys, b)
list_ends (of member) r xs ys x a b h e here n p =
    h ∙ ap (λ q. before xs (then q (λ x b. before (x ∷ []) (reads (More member (length xs + 1)) b)))) e
    ∙ ap (λ q. before xs (before (x ∷ []) q)) (reading (More member (length xs + 1)) b here ∙ ap (goes b) (more_none member (length xs + 1) b.counts (head_of b.rest) (head_of b.rest).kind n)) ∙ ap (λ l. Ok (l, b)) (sym p)

pub list_smaller : {T : Type 0} (rule : MemberRule T) (k : ℕ) (c : PlanCounts) (a b d : Configuration) (x : T) → reads_one rule k a ≡ Ok (x, b) → Advances c b d → length d.rest < length a.rest
list_smaller (of member) k c a b d x e h = behind_smaller (One member k) c a b d x e h

-- a statement, and the statements behind it
with_rest : (y : Tally) (s : StmtImage) (a : Configuration) → runs (Reads (AStmts y) (λ ss. Gives (s ∷ ss))) a ≡ before (s ∷ []) (reads (AStmts y) a)
with_rest y s a = runs_reads (AStmts y) (λ ss. Gives (s ∷ ss)) a ∙ prepended s (reads (AStmts y) a)

stmts_onward : (y : Tally) (kind : TokenKind) (rule : Token → Rule StmtImage) → stmt_rule kind ≡ Some rule → stmts_rule y kind ≡ Some (λ t. behind (rule t) (λ s. Reads (AStmts (counted kind y)) (λ ss. Gives (s ∷ ss))))
stmts_onward y kinds.End rule e = absurd (cc)
stmts_onward y kind rule e = ap (λ o. onward o (λ s. Reads (AStmts (counted kind y)) (λ ss. Gives (s ∷ ss)))) e

pub stmt_reads : (y : Tally) (rule : Token → Rule StmtImage) (a b : Configuration) → stmt_rule (head_of a.rest).kind ≡ Some rule → stmt_count y (head_of a.rest).kind ≡ Fine no_counts → Here a → Advances no_counts a b
    → reads (AStmts y) a ≡ then (runs (rule (head_of a.rest)) b) (λ s c. before (s ∷ []) (reads (AStmts (counted (head_of a.rest).kind y)) c))
stmt_reads y rule a b is fine here moved =
    let t = head_of a.rest in
    let next : StmtImage → Rule (List StmtImage) = λ s. Reads (AStmts (counted t.kind y)) (λ ss. Gives (s ∷ ss)) in
    reading (AStmts y) a here
    ∙ ap (goes a) (ap (opened t true (stmt_count y t.kind) None) (stmts_onward y t.kind rule is) ∙ ap (checked (behind (rule t) next) true t) fine)
    ∙ ap (λ (d : Configuration). runs (behind (rule t) next) d) (sym (advanced no_counts a b moved))
    ∙ runs_behind (rule t) next b
    ∙ ap (then (runs (rule t) b)) (λ i s c. with_rest (counted t.kind y) s c i)

-- a statement behind its keyword
pub stmt_answers : {X : Type 0} (image : X → StmtImage) (t u : code.Tally) (kind : TokenKind) (rule : Token → Rule StmtImage) (a b e : Configuration) (r : Result X BookFault) → (head_of a.rest).kind ≡ kind → stmt_rule kind ≡ Some rule → stmt_count (tally_of t) kind ≡ Fine no_counts → Here a → Advances no_counts a b → tally_of u ≡ counted kind (tally_of t) → Answers (runs (rule (head_of a.rest)) b) image e r → StmtReads image t u a e r
stmt_answers {X} image t u kind rule a b e r k is fine here moved tallied = by r
  where
    reads_so : reads (AStmts (tally_of t)) a ≡ then (runs (rule (head_of a.rest)) b) (λ s c. before (s ∷ []) (reads (AStmts (tally_of u)) c))
    reads_so = stmt_reads (tally_of t) rule a b (ap stmt_rule k ∙ is) (ap (stmt_count (tally_of t)) k ∙ fine) here moved ∙ ap (λ (y : Tally). then (runs (rule (head_of a.rest)) b) (λ s c. before (s ∷ []) (reads (AStmts y) c))) (ap (λ k. counted k (tally_of t)) k ∙ sym tallied)

    by : (r : Result X BookFault) → Answers (runs (rule (head_of a.rest)) b) image e r → StmtReads image t u a e r
    by (Ok x) h = let n = ap length moved.first in let l = fewer_run (rule (head_of a.rest)) b e (image x) h in (reads_so ∙ ap (λ q. then q (λ s c. before (s ∷ []) (reads (AStmts (tally_of u)) c))) h, omega (arith, n, l))
    by (Err f) h = λ m. reads_so ∙ ap (λ q. then q (λ s c. before (s ∷ []) (reads (AStmts (tally_of u)) c))) (h m)

-- a step behind its keyword
placed_reads : (symbol : Symbol) (make : ℕ → StepImage → Tree symbol) (rule : Rule StepImage) (a b : Configuration) → move_of limits symbol a.counts (head_of a.rest) ≡ opened (head_of a.rest) true (node_count a.counts) None (with_place make (Some rule)) → a.counts.nodes < NODE_LIMIT → Here a → Advances (node_more a.counts) a b → reads symbol a ≡ then (runs rule b) (λ s c. Ok (make (head_of a.rest).at s, c))
placed_reads symbol make rule a b is few here moved =
    let t = head_of a.rest in
    reading symbol a here
    ∙ ap (goes a) (is ∙ ap (checked (behind rule (λ s. Gives (make t.at s))) true t) (ap (λ o. within o Nodes (Fine (node_more a.counts))) (lt-ltb a.counts.nodes NODE_LIMIT few)))
    ∙ ap (runs (behind rule (λ s. Gives (make t.at s)))) (sym (advanced (node_more a.counts) a b moved))
    ∙ runs_behind rule (λ s. Gives (make t.at s)) b
    ∙ ap (then (runs rule b)) (λ i s c. runs_gives (make t.at s) c i)

there_is : {A : Type 0} (o : Option A) → is_some o ≡ true → (x : A) × (o ≡ Some x)
there_is (Some x) e = (x, refl)
there_is None e = absurd (cc)

asked_step : (kind : TokenKind) → is_some (one_input kind) ≡ true → one_input kind ≡ step_rule 0 kind
asked_step kinds.Where e = refl
asked_step kinds.Project e = refl
asked_step kinds.Distinct e = refl
asked_step kinds.Group e = refl
asked_step _ e = absurd (cc)

abbrev step_of : ℕ → StepImage → ℕ × StepImage
step_of at s = (at, s)

abbrev pub asked_of : ℕ → StepImage → AskStepImage
asked_of at s = record { at = at; what = s }

pub step_reads : (d : ℕ) (kind : TokenKind) (a b : Configuration) → kind ≡ (head_of a.rest).kind → is_some (step_rule d kind) ≡ true → a.counts.nodes < NODE_LIMIT → Here a → Advances (node_more a.counts) a b → reads (AStep d) a ≡ then (ran (step_rule d kind) b) (λ s c. Ok (((head_of a.rest).at, s), c))
step_reads d kind a b k some few here moved =
    let p = there_is (step_rule d kind) some in
    placed_reads (AStep d) step_of p.0 a b (ap (λ o. opened (head_of a.rest) true (node_count a.counts) None (with_place step_of o)) (ap (step_rule d) (sym k) ∙ p.1)) few here moved
    ∙ ap (λ o. then (ran o b) (λ s c. Ok (((head_of a.rest).at, s), c))) (sym p.1)

pub asked_reads : (kind : TokenKind) (a b : Configuration) → kind ≡ (head_of a.rest).kind → is_some (one_input kind) ≡ true → a.counts.nodes < NODE_LIMIT → Here a → Advances (node_more a.counts) a b → reads AnAskStep a ≡ then (ran (step_rule 0 kind) b) (λ s c. Ok (asked_of (head_of a.rest).at s, c))
asked_reads kind a b k some few here moved =
    let p = there_is (one_input kind) some in
    placed_reads AnAskStep asked_of p.0 a b (ap (λ o. opened (head_of a.rest) true (node_count a.counts) None (with_place asked_of o)) (ap one_input (sym k) ∙ p.1)) few here moved
    ∙ ap (λ o. then (ran o b) (λ s c. Ok (asked_of (head_of a.rest).at s, c))) (sym p.1 ∙ asked_step kind some)

-- an answer that is made of another
pub answered : {X A B : Type 0} (image : X → A) (make : A → B) (e : Configuration) (r : Result X BookFault) (q : Reading B) (p : Reading A) → q ≡ then p (λ s c. Ok (make s, c)) → Answers p image e r → Answers q (λ x. make (image x)) e r
answered image make e (Ok x) q p h k = h ∙ ap (λ p. then p (λ s c. Ok (make s, c))) k
answered image make e (Err f) q p h k = λ m. h ∙ ap (λ p. then p (λ s c. Ok (make s, c))) (k m)

pub ruleset in_order = (reading, runs_gives, runs_reads, runs_behind, advanced, names_begin, marked_begins, line_begins, any_begins, selected_begins)

pub ruleset members = (decl_begins, key_begins, agg_begins, pair_begins, item_begins, keys_begin, no_keys)

pub ruleset in_loop = (in_order, only, conj_begins, pred_begins, plan_begins, piped_begins, smaller)

pub ruleset in_pipe = (in_loop, prepended, before_push, before_none, map_push, append-nil)

pub ruleset in_step = (in_order, only, united_begins)
