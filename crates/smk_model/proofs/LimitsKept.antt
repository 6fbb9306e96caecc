-- A book and an ask line of the grammar without a fault keep their limits.
use Rattle.std.proofs.{Common.{T, ◌≡◌, ℕ, ◌+◌, ◌≤◌, ◌<◌, Bool, true, false, List, [], ◌∷◌, length, refl, ap, sym, ◌∙◌, subst, arith}, lemmas.List.Elements.{All-nil, All-cons}, lemmas.List.Sums.sum_by-cons}
use Rattle.std.specs.Prelude.{pos, ◌≤ℤ◌, Some, None, cond, nat_lt, All, IsTrue, count_by}
use Rattle.smk_base.specs.{declared.fault.Many.Many, declared.fault.Many.TheVariants.{Compares, Depth, Views}, declared.book.token.TokenKind.TokenKind, declared.book.limits.TheConstants.{NODE_LIMIT, TABLE_LIMIT, VIEW_LIMIT, COMPARE_LIMIT, DEPTH_LIMIT}, declared.rel.TheConstants.COLUMN_LIMIT, declared.book.tree.Decl.Decl, declared.book.tree.ItemTree.ItemTree, Trees.{TreeImage, UnionNode, StmtImage, AskStepImage, AnyLineImage, AskedLine}}
use Rattle.smk_base.specs.declared.book.token.TokenKind.TheVariants as kinds
use Rattle.smk_model.specs.{Tokens.{Token, tokens}, Limits.{Divides, KeepsItems, KeepsTree, KeepsStep, nodes, nodes_of_step, DefaultInRange, IsInRange, KeepsDecls, KeepsStmt, KeepsAskStep, KeepsSteps, HasMarks, KeepsAsk, is_table, is_view}, Rules.{Tally, PlanCounts, no_counts, Member, Declaration, OutputItem, MemberTree, Symbol, AMarked, ATerm, APrim, AConj, APred, ALiteral, AWidth, ADefault, One, More, Listed, ASource, APlan, AStep, AUnited, ASteps, AStmts, ALineage, AMarks, AnyLine, AWholeAnyLine, AnAskStep, AskSteps, APiped, ASelected, Tree, Rule, Gives, Reads, Opening}, LanguageTable.{rule_of, if_nothing, member_rule, source_rule, asked_rule}, TokenReadings.{Count, Fine, within, short, first_count, item_count, member_count, term_count, prim_count, node_count, limits, Outcome, Ended, through, fault_in, fault_of, no_tally, selected_fault}, Spelled.{Says, AreSelected}, GrammarLaws.{FaultlessKeepLimits, FaultlessAsksKeepLimits}}
use Rattle.smk_model.proofs.{Opens.{follows, is_quiet, Throughout, opens_at}, OneTree.{GoesTo, goes, stops, Any, any_inherits, complete}, NumberRanges.tokens_ranged, Limited.{in_hand, Good, Keeps, onward_keeps, kept}}

-- the nodes grow by so many, or as from m to n, and stay within the limit
abbrev SameNodes : PlanCounts → PlanCounts → Type 0
SameNodes c d = d.nodes ≡ c.nodes

record Grows (m n : ℕ) (c d : PlanCounts) : Type 0 where
  grows : d.nodes + m ≡ c.nodes + n
  few : c.nodes ≤ NODE_LIMIT → d.nodes ≤ NODE_LIMIT

-- a member of a list at a place, and the members from a place on
abbrev Fact : (member : Member) → ℕ → MemberTree member → Type 0
Fact Declaration k x = (k < COLUMN_LIMIT) × DefaultInRange x.def
Fact OutputItem k x = (k < COLUMN_LIMIT) × Divides x
Fact _ k x = Unit {0}

abbrev Facts : (member : Member) → ℕ → List (MemberTree member) → Type 0
Facts Declaration k xs = (k ≤ COLUMN_LIMIT → k + length xs ≤ COLUMN_LIMIT) × All (λ x. DefaultInRange x.def) xs
Facts OutputItem k xs = (k ≤ COLUMN_LIMIT → k + length xs ≤ COLUMN_LIMIT) × All Divides xs
Facts _ k xs = Unit {0}

-- these statements, behind as many tables and views as are counted, keep the limits
record Held (y : Tally) (ss : List StmtImage) : Type 0 where
  few_tables : y.tables ≤ TABLE_LIMIT → y.tables + count_by is_table ss ≤ TABLE_LIMIT
  few_views : y.views ≤ VIEW_LIMIT → y.views + count_by is_view ss ≤ VIEW_LIMIT
  each : All KeepsStmt ss

-- a statement that is neither a table nor a view, and has no limits of its own
record Other (s : StmtImage) : Type 0 where
  no_table : is_table s ≡ false
  no_view : is_view s ≡ false
  keeps : KeepsStmt s

abbrev KeepsLine : AnyLineImage → Type 0
KeepsLine (AskedLine asked) = KeepsAsk asked
KeepsLine _ = Unit {0}

-- what each symbol keeps, from what is counted before it to what is counted behind it
abbrev Kept : (symbol : Symbol) → PlanCounts → PlanCounts → Tree symbol → Type 0
Kept ALiteral c d l = SameNodes c d × IsInRange l.value
Kept ADefault c d o = SameNodes c d × DefaultInRange o
Kept AWidth c d n = SameNodes c d × (pos 1 ≤ℤ n)
Kept AMarks c d m = SameNodes c d × HasMarks m
Kept (AMarked between) c d x = SameNodes c d × HasMarks x.1
Kept (One member k) c d x = SameNodes c d × Fact member k x
Kept (More member k) c d xs = SameNodes c d × Facts member k xs
Kept (Listed member) c d xs = SameNodes c d × Facts member 0 xs
Kept (ASource n) c d x = Grows 0 (nodes x) c d × KeepsTree x
Kept (APlan n) c d x = Grows 0 (nodes x) c d × KeepsTree x
Kept (ASteps n y) c d x = Grows (nodes y) (nodes x) c d × (KeepsTree y → KeepsTree x)
Kept (AStep n) c d s = Grows 0 (nodes_of_step s.1) c d × KeepsStep s.1
Kept (AUnited n) c d s = Grows 1 (nodes_of_step s) c d × KeepsStep s
Kept (AStmts y) c d ss = Held y ss
Kept (ALineage at) c d s = Other s
Kept AnyLine c d l = Unit {0}
Kept AWholeAnyLine c d l = c.nodes ≡ 0 → KeepsLine l
Kept AnAskStep c d s = Grows 0 1 c d × KeepsAskStep s.what
Kept AskSteps c d ss = Grows 0 (length ss) c d × All (λ (s : AskStepImage). KeepsAskStep s.what) ss
Kept APiped c d ss = Grows 0 (length ss) c d × All (λ (s : AskStepImage). KeepsAskStep s.what) ss × (ss ≡ [] → ⊥)
Kept ASelected c d x = c.nodes ≡ 0 → KeepsSteps x.1
Kept _ c d x = SameNodes c d

fine_same : (c d : PlanCounts) → Fine c ≡ Fine d → c ≡ d
fine_same c d e = cc

short_fine : (c d : PlanCounts) (t : Token) → short c t ≡ Fine d → c ≡ d
short_fine c d t e = grind arith

first_fine : (k : ℕ) (c d : PlanCounts) (t : Token) → first_count k c t ≡ Fine d → (k < COLUMN_LIMIT) × (c ≡ d)
first_fine k c d t e = grind arith

node_fine : (c d : PlanCounts) → node_count c ≡ Fine d → Grows 0 1 c d
node_fine c d e = record { grows = grind arith; few = λ b. grind arith }

-- what is read within a node counts none
abbrev Quiet : Symbol → Type 0
Quiet symbol = IsTrue (is_quiet symbol)

some_same : {A : Type 0} (x y : A) → Some x ≡ Some y → x ≡ y
some_same x y e = cc

same_nodes : (symbol : Symbol) (c d : PlanCounts) (x : Tree symbol) → Quiet symbol → Kept symbol c d x → SameNodes c d
same_nodes ALiteral c d x q k = k.0
same_nodes _ c d x q k = search

quiet_good : {A : Type 0} (P : PlanCounts → A → Type 0) (rule : Rule A) (c d : PlanCounts) → SameNodes c d → Throughout Quiet rule → ((e : PlanCounts) (x : A) → SameNodes c e → P e x) → Good Kept P rule d
quiet_good P (Gives x) c d s q h = h d x s
quiet_good P (Reads symbol rest) c d s q h = λ tree e k. quiet_good P (rest tree) c e (same_nodes symbol d e tree q.0 k ∙ s) (q.1 tree) h

even : (c d : PlanCounts) → c ≡ d → SameNodes c d
even c d e = ap (λ (k : PlanCounts). k.nodes) (sym e)

compared_fine : (c d : PlanCounts) (t : Token) → within (nat_lt c.compares COMPARE_LIMIT) Compares (short (record { nodes = c.nodes; compares = c.compares + 1 }) t) ≡ Fine d → SameNodes c d
compared_fine c d t e = grind arith

deep_fine : (n : ℕ) (c d : PlanCounts) → within (nat_lt n DEPTH_LIMIT) Depth (Fine c) ≡ Fine d → c ≡ d
deep_fine n c d e = grind arith

prim_quiet : (n : ℕ) (c d : PlanCounts) (t : Token) (k : TokenKind) → prim_count n c t k ≡ Fine d → SameNodes c d
prim_quiet n c d t kinds.Not e = grind arith
prim_quiet n c d t kinds.Open e = grind arith
prim_quiet n c d t _ e = compared_fine c d t e

item_fine : (k : ℕ) (c d : PlanCounts) (t : Token) (kind : TokenKind) → item_count k c t kind ≡ Fine d → (k < COLUMN_LIMIT) × (c ≡ d)
item_fine k c d t kinds.Bin e = grind arith
item_fine k c d t _ e = first_fine k c d t e

member_quiet : (member : Member) (k : ℕ) (c d : PlanCounts) (t : Token) → member_count member k c t ≡ Fine d → SameNodes c d
member_quiet OutputItem k c d t e = even c d (item_fine k c d t t.kind e).1
member_quiet _ k c d t e = grind arith

term_quiet : (c d : PlanCounts) (t : Token) (k : TokenKind) → term_count c t k ≡ Fine d → SameNodes c d
term_quiet c d t kinds.Number e = cc
term_quiet c d t kinds.Str e = cc
term_quiet c d t _ e = even c d (short_fine c d t e)

quiet_counts : (symbol : Symbol) (c d : PlanCounts) (t : Token) → Quiet symbol → limits symbol c t ≡ Fine d → SameNodes c d
quiet_counts ATerm c d t q e = term_quiet c d t t.kind e
quiet_counts (One member k) c d t q e = member_quiet member k c d t e
quiet_counts (Listed member) c d t q e = member_quiet member 0 c d t e
quiet_counts (APrim n) c d t q e = prim_quiet n c d t t.kind e
quiet_counts (AConj n) c d t q e = prim_quiet n c d t t.kind e
quiet_counts (APred n) c d t q e = prim_quiet n c d t t.kind e
quiet_counts _ c d t q e = first_of (cc, grind arith)

quiet_keeps : (symbol : Symbol) → Quiet symbol → ((c d : PlanCounts) (x : Tree symbol) → SameNodes c d → Kept symbol c d x) → (kind : TokenKind) → Keeps Kept symbol kind (rule_of symbol kind)
quiet_keeps symbol q h kind = by (rule_of symbol kind) refl
  where
    by : (o : Opening (Tree symbol)) → rule_of symbol kind ≡ o → Keeps Kept symbol kind o
    by (Some rule) is = λ at text c d r i l. quiet_good (Kept symbol c) (rule (in_hand at kind text)) c d (quiet_counts symbol c d (in_hand at kind text) q l) ((opens_at symbol kind (in_hand at kind text) rule is).quiet q) (λ e x s. h c e x s)
    by None is = tt

abbrev KeepsAt : Symbol → TokenKind → Type 0
KeepsAt symbol kind = Keeps Kept symbol kind (rule_of symbol kind)

-- a member, and a list of them
few_more : (k n : ℕ) → k < COLUMN_LIMIT → (k + 1 ≤ COLUMN_LIMIT → k + 1 + n ≤ COLUMN_LIMIT) → k ≤ COLUMN_LIMIT → k + (n + 1) ≤ COLUMN_LIMIT
few_more k n l h b = let f = h (omega (arith, l)) in omega (arith, f)

one_more : (member : Member) (k : ℕ) (x : MemberTree member) (xs : List (MemberTree member)) → Fact member k x → Facts member (k + 1) xs → Facts member k (x ∷ xs)
one_more Declaration k x xs f g = (λ b. let r = few_more k (length xs) f.0 g.0 b in omega (arith, r), All-cons (λ x. DefaultInRange x.def) x xs f.1 g.1)
one_more OutputItem k x xs f g = (λ b. let r = few_more k (length xs) f.0 g.0 b in omega (arith, r), All-cons Divides x xs f.1 g.1)
one_more _ k x xs f g = tt

no_more : (member : Member) (k : ℕ) → Facts member k []
no_more Declaration k = (λ b. omega (arith, b), All-nil (λ x. DefaultInRange x.def))
no_more OutputItem k = (λ b. omega (arith, b), All-nil Divides)
no_more _ k = tt

one_keeps : (member : Member) (k : ℕ) (kind : TokenKind) → KeepsAt (One member k) kind
one_keeps Declaration k kinds.Name = λ at text c d r i l x e a o f b. let w = first_fine k c d (in_hand at kinds.Name text) l in (b.0 ∙ a ∙ even c d w.1, (w.0, b.1))
one_keeps Declaration k kinds.Quoted = λ at text c d r i l x e a o f b. let w = first_fine k c d (in_hand at kinds.Quoted text) l in (b.0 ∙ a ∙ even c d w.1, (w.0, b.1))
one_keeps Declaration k _ = tt
one_keeps OutputItem k kinds.Name = λ at text c d r i l v e a. let w = first_fine k c d (in_hand at kinds.Name text) l in (a ∙ even c d w.1, (w.0, tt))
one_keeps OutputItem k kinds.Quoted = λ at text c d r i l v e a. let w = first_fine k c d (in_hand at kinds.Quoted text) l in (a ∙ even c d w.1, (w.0, tt))
one_keeps OutputItem k kinds.Bin = λ at text c d r i l t1 e1 a1 w e2 a2 t3 e3 a3 n e4 a4 t5 e5 a5 t6 e6 a6 v e7 a7. let f = item_fine k c d (in_hand at kinds.Bin text) kinds.Bin l in (a7 ∙ a6 ∙ a5 ∙ a4.0 ∙ a3 ∙ a2 ∙ a1 ∙ even c d f.1, (f.0, a4.1))
one_keeps OutputItem k _ = tt
one_keeps member k kind = quiet_keeps (One member k) refl (λ c d x s. (s, tt)) kind

more_keeps : (member : Member) (k : ℕ) (kind : TokenKind) → KeepsAt (More member k) kind
more_keeps member k kinds.Comma = λ at text c d r i l x e a xs f b. (b.0 ∙ a.0 ∙ even c d (fine_same c d l), one_more member k x xs a.1 b.1)
more_keeps member k _ = tt

-- a node, what it holds, and what is read around it
around : {m n : ℕ} {c d e f : PlanCounts} → SameNodes c d → Grows m n d e → SameNodes e f → Grows m n c f
around s g t = record { grows = let h = g.grows in omega (arith, s, h, t); few = λ b. let h = g.few (omega (arith, s, b)) in omega (arith, h, t) }

joined : {m n i j p q : ℕ} {c d e : PlanCounts} → n + j + p ≡ m + i + q → Grows m n c d → Grows i j d e → Grows p q c e
joined z g h = record { grows = let s = g.grows in let t = h.grows in omega (arith, z, s, t); few = λ b. h.few (g.few b) }

still : {n : ℕ} {c d : PlanCounts} → SameNodes c d → Grows n n c d
still s = record { grows = omega (arith, s); few = λ b. omega (arith, s, b) }

source_keeps : (n : ℕ) (kind : TokenKind) → KeepsAt (ASource n) kind
source_keeps n kinds.Scan = λ at text c d r i l w e a. (joined (omega arith) (node_fine c d l) (still {n = 0} a), tt)
source_keeps n kinds.Open = λ at text c d r i l x e a t f b. (around (even c d (deep_fine n c d l)) a.0 b, a.1)
source_keeps n _ = tt

items_kept : {xs : List ItemTree} → Facts OutputItem 0 xs → KeepsItems xs
items_kept {xs} f = record { few = let u = f.0 (omega arith) in omega (arith, u); divide = f.1 }

decls_kept : {xs : List Decl} → Facts Declaration 0 xs → KeepsDecls xs
decls_kept {xs} f = record { few = let u = f.0 (omega arith) in omega (arith, u); ranges = f.1 }

step_keeps : (n : ℕ) (kind : TokenKind) → KeepsAt (AStep n) kind
step_keeps n kinds.Where = λ at text c d r i l p e a. (joined (omega arith) (node_fine c d l) (still {n = 0} a), tt)
step_keeps n kinds.Project = λ at text c d r i l xs e a. (joined (omega arith) (node_fine c d l) (still {n = 0} a.0), items_kept a.1)
step_keeps n kinds.Distinct = λ at text c d r i l xs e a. (joined (omega arith) (node_fine c d l) (still {n = 0} a.0), items_kept a.1)
step_keeps n kinds.Group = λ at text c d r i l ws e a xs f b. (joined (omega arith) (node_fine c d l) (still {n = 0} (b ∙ a)), tt)
step_keeps n kinds.Join = λ at text c d r i l x e a t f b ps g k. (joined (omega arith) (node_fine c d l) (around (even d d refl) a.0 (k.0 ∙ b)), a.1)
step_keeps n kinds.Theta = λ at text c d r i l x e a t f b p g k. (joined (omega arith) (node_fine c d l) (around (even d d refl) a.0 (k ∙ b)), a.1)
step_keeps n kinds.Product = λ at text c d r i l x e a. (joined (omega arith) (node_fine c d l) a.0, a.1)
step_keeps n kinds.Union = λ at text c d r i l s e a. (joined (omega arith) (node_fine c d l) a.0, a.1)
step_keeps n _ = tt

asked_keeps : (kind : TokenKind) → KeepsAt AnAskStep kind
asked_keeps kinds.Where = λ at text c d r i l p e a. (joined (omega arith) (node_fine c d l) (still {n = 0} a), tt)
asked_keeps kinds.Project = λ at text c d r i l xs e a. (joined (omega arith) (node_fine c d l) (still {n = 0} a.0), items_kept a.1)
asked_keeps kinds.Distinct = λ at text c d r i l xs e a. (joined (omega arith) (node_fine c d l) (still {n = 0} a.0), items_kept a.1)
asked_keeps kinds.Group = λ at text c d r i l ws e a xs f b. (joined (omega arith) (node_fine c d l) (still {n = 0} (b ∙ a)), tt)
asked_keeps _ = tt

united_keeps : (n : ℕ) (kind : TokenKind) → KeepsAt (AUnited n) kind
united_keeps n kinds.All = λ at text c d r i l x e a. (joined (omega arith) (still {n = 1} (even c d (fine_same c d l))) a.0, a.1)
united_keeps n kind = onward_keeps Kept (AUnited n) (ASource n) kind (source_rule n kind) (λ x. Gives (UnionNode x)) (λ at text. refl) (λ at text c. refl) (source_keeps n kind) (λ c d x k. (joined (omega arith) (still {n = 1} (even c c refl)) k.0, k.1))

count_by-cons : (p : StmtImage → Bool) (s : StmtImage) (ss : List StmtImage) → count_by p (s ∷ ss) ≡ cond (p s) 1 0 + count_by p ss
count_by-cons p s ss = sum_by-cons (λ x. cond (p x) 1 0) s ss

-- one statement more
held_more : {y z : Tally} (s : StmtImage) (ss : List StmtImage) (t v : Bool) → is_table s ≡ t → is_view s ≡ v → z.tables ≡ y.tables + cond t 1 0 → z.views ≡ y.views + cond v 1 0 → (t ≡ true → y.tables < TABLE_LIMIT) → (v ≡ true → y.views < VIEW_LIMIT) → KeepsStmt s → Held z ss → Held y (s ∷ ss)
held_more {y} {z} s ss t v i j p q m n k h = record {
  few_tables = λ b. (let g = h.few_tables (omega (arith, p, grown t m b)) in let r = count_by-cons is_table s ss ∙ ap (λ o. cond o 1 0 + count_by is_table ss) i in omega (arith, g, r, p));
  few_views = λ b. (let g = h.few_views (omega (arith, q, grown v n b)) in let r = count_by-cons is_view s ss ∙ ap (λ o. cond o 1 0 + count_by is_view ss) j in omega (arith, g, r, q));
  each = All-cons KeepsStmt s ss k h.each;
}
  where
    grown : {a l : ℕ} (o : Bool) → (o ≡ true → a < l) → a ≤ l → a + cond o 1 0 ≤ l
    grown true f b = let g = f refl in omega (arith, g)
    grown false f b = omega (arith, b)

other_more : {y z : Tally} (s : StmtImage) (ss : List StmtImage) → z.tables ≡ y.tables → z.views ≡ y.views → is_table s ≡ false → is_view s ≡ false → KeepsStmt s → Held z ss → Held y (s ∷ ss)
other_more s ss p q i j k h = held_more s ss false false i j (omega (arith, p)) (omega (arith, q)) (λ e. absurd (cc)) (λ e. absurd (cc)) k h

few : (n l : ℕ) (what : Many) (count : Count) (d : PlanCounts) → within (nat_lt n l) what count ≡ Fine d → n < l
few n l what count d e = grind arith

stmts_keep : (y : Tally) (kind : TokenKind) → KeepsAt (AStmts y) kind
stmts_keep y kinds.Table = λ at text c d r i l w e1 a1 t2 e2 a2 f e3 a3 t4 e4 a4 ds e5 a5 t6 e6 a6 ss e7 h. held_more _ ss true false refl refl refl (omega arith) (λ z. few y.tables TABLE_LIMIT _ _ d l) (λ z. absurd (cc)) (decls_kept a5.1) h
stmts_keep y kinds.View = λ at text c d r i l w e1 a1 t2 e2 a2 x e3 a3 ss e4 h. held_more _ ss false true refl refl (omega arith) refl (λ z. absurd (cc)) (λ z. few y.views VIEW_LIMIT _ _ d l) (record { lists = a3.1; few = plan_few c d e1 e2 e3 x l a1 a2 a3.0 }) h
  where
    plan_few : (c d e1 e2 e3 : PlanCounts) (x : TreeImage) → within (nat_lt y.views VIEW_LIMIT) Views (Fine no_counts) ≡ Fine d → SameNodes d e1 → SameNodes e1 e2 → Grows 0 (nodes x) e2 e3 → nodes x ≤ NODE_LIMIT
    plan_few c d e1 e2 e3 x l a b g = let h = g.grows in let k = g.few in grind arith
stmts_keep y kinds.Lineage = λ at text c d r i l s e1 o ss e2 h. other_more s ss refl refl o.no_table o.no_view o.keeps h
stmts_keep y kinds.Link = λ at text c d r i l n e1 a1 t2 e2 a2 ws e3 a3 ss e4 h. other_more _ ss refl refl refl refl tt h
stmts_keep y kinds.Fd = λ at text c d r i l n e1 a1 ws e2 a2 t3 e3 a3 x e4 a4 ss e5 h. held_more _ ss false true refl refl (omega arith) refl (λ z. absurd (cc)) (λ z. few y.views VIEW_LIMIT _ _ d l) tt h
stmts_keep y kinds.End = λ at text c d r i l. record { few_tables = λ b. omega (arith, b); few_views = λ b. omega (arith, b); each = All-nil KeepsStmt }
stmts_keep y _ = tt

steps_kept : {c d : PlanCounts} {ss : List AskStepImage} → Grows 0 (length ss) c d → All (λ (s : AskStepImage). KeepsAskStep s.what) ss → c.nodes ≡ 0 → KeepsSteps ss
steps_kept g a z = record { few = let h = g.grows in let k = g.few (omega (arith, z)) in omega (arith, h, k, z); each = a }

one_step : (s : AskStepImage) (ss : List AskStepImage) {c d e : PlanCounts} → Grows 0 1 c d → Grows 0 (length ss) d e → Grows 0 (length (s ∷ ss)) c e
one_step s ss g h = joined (omega arith) g h

whole_keeps : (kind : TokenKind) → KeepsAt AWholeAnyLine kind
whole_keeps kinds.Ask = λ at text c d r i l t1 e1 a1 x e2 a2 t3 e3 a3 ss e4 a4 t5 e5 a5 zero. record {
  marked = a2.1;
  some = a4.2;
  steps = steps_kept {c = c} {d = e4} (around (a3 ∙ a2.0 ∙ a1 ∙ even c d (fine_same c d l)) a4.0 (even e4 e4 refl)) a4.1 zero;
}
whole_keeps _ = search

unit_good : {A : Type 0} (rule : Rule A) (d : PlanCounts) → Good Kept (λ e x. Unit {0}) rule d
unit_good (Gives x) d = tt
unit_good (Reads symbol rest) d = λ tree e k. unit_good (rest tree) e

any_keeps : (o : Opening AnyLineImage) (kind : TokenKind) → Keeps Kept AnyLine kind o
any_keeps (Some rule) kind = λ at text c d r i l. unit_good (rule (in_hand at kind text)) d
any_keeps None kind = tt

keeps : (symbol : Symbol) (kind : TokenKind) → KeepsAt symbol kind
keeps ALiteral kinds.Number = λ at text c d r i l. (even c d (fine_same c d l), r refl)
keeps ALiteral kinds.Str = λ at text c d r i l. (even c d (fine_same c d l), tt)
keeps ALiteral _ = tt
keeps ADefault kinds.Default = λ at text c d r i l x e a. (a.0 ∙ even c d (fine_same c d l), a.1)
keeps ADefault _ = tt
keeps AWidth kinds.Number = λ at text c d r i l. (even c d (fine_same c d l), record { le = subst T (sym i) tt })
keeps AWidth _ = tt
keeps AMarks kinds.All = λ at text c d r i l. (even c d (fine_same c d l), tt)
keeps AMarks kinds.Number = λ at text c d r i l xs e a. (a.0 ∙ even c d (fine_same c d l), λ e. absurd (cc))
keeps AMarks _ = tt
keeps (AMarked between) kinds.Name = λ at text c d r i l m e a t f b z g k. (k ∙ b ∙ a.0 ∙ even c d (fine_same c d l), a.1)
keeps (AMarked between) _ = tt
keeps (One member k) kind = one_keeps member k kind
keeps (More member k) kind = more_keeps member k kind
keeps (Listed member) kind = onward_keeps Kept (Listed member) (One member 0) kind (member_rule member kind) (λ x. Reads (More member 1) (λ xs. Gives (x ∷ xs))) (λ at text. refl) (λ at text c. refl) (one_keeps member 0 kind) (λ c d x h xs e k. (k.0 ∙ h.0, one_more member 0 x xs h.1 k.1))
keeps (ASource n) kind = source_keeps n kind
keeps (APlan n) kind = onward_keeps Kept (APlan n) (ASource n) kind (source_rule n kind) (λ x. Reads (ASteps n x) Gives) (λ at text. refl) (λ at text c. refl) (source_keeps n kind) (λ c d x h y e k. (joined (omega arith) h.0 k.0, k.1 h.1))
keeps (AStep n) kind = step_keeps n kind
keeps (AUnited n) kind = united_keeps n kind
keeps (ASteps n x) kinds.Bar = λ at text c d r i l s e a y f b. (joined (omega arith) (around (even c d (fine_same c d l)) a.0 (even e e refl)) b.0, λ k. b.1 (k, a.1))
keeps (ASteps n x) _ = tt
keeps (AStmts y) kind = stmts_keep y kind
keeps (ALineage at) kinds.Back = λ at text c d r i l n e1 a1 x e2 a2. record { no_table = refl; no_view = refl; keeps = tt }
keeps (ALineage at) kinds.Fwd = λ at text c d r i l n e1 a1. record { no_table = refl; no_view = refl; keeps = tt }
keeps (ALineage at) _ = tt
keeps AnyLine kind = any_keeps (rule_of AnyLine kind) kind
keeps AWholeAnyLine kind = whole_keeps kind
keeps AnAskStep kind = asked_keeps kind
keeps AskSteps kinds.Bar = λ at text c d r i l ss e a. (around (even c d (fine_same c d l)) a.0 (even e e refl), a.1)
keeps AskSteps _ = tt
keeps APiped kind = onward_keeps Kept APiped AnAskStep kind (asked_rule kind) (λ s. Reads AskSteps (λ ss. Gives (s ∷ ss))) (λ at text. refl) (λ at text c. refl) (asked_keeps kind) (λ c d s h ss e k. (one_step s ss h.0 k.0, All-cons (λ (s : AskStepImage). KeepsAskStep s.what) s ss h.1 k.1, λ e. absurd (cc)))
keeps ASelected kinds.Name = λ at text c d r i l ss e a t f b zero. steps_kept {c = c} {d = e} (around (even c d (fine_same c d l)) a.0 (even e e refl)) a.1 zero
keeps ASelected _ = tt
keeps symbol kind = quiet_keeps symbol refl (λ c d x s. s) kind

empty : (symbol : Symbol) (c : PlanCounts) (tree : Tree symbol) → if_nothing symbol ≡ Some tree → Kept symbol c c tree
empty ADefault c tree e = (refl, subst (λ o. DefaultInRange o) (some_same None tree e) tt)
empty (More member k) c tree e = (refl, subst (Facts member k) (some_same [] tree e) (no_more member k))
empty (ASteps n x) c tree e = subst (λ (y : TreeImage). Grows (nodes x) (nodes y) c c × (KeepsTree x → KeepsTree y)) (some_same x tree e) (still {n = nodes x} (even c c refl), λ k. k)
empty AskSteps c tree e = subst (λ (ss : List AskStepImage). Grows 0 (length ss) c c × All (λ (s : AskStepImage). KeepsAskStep s.what) ss) (some_same [] tree e) (still {n = 0} (even c c refl), All-nil (λ (s : AskStepImage). KeepsAskStep s.what))
empty _ c tree e = first_of (cc, grind arith)

-- a symbol that is read without a fault, and that these tokens spell
read_kept : (symbol : Symbol) → follows symbol ≡ 0 → (text : List ℕ) (tree : Tree symbol) → Says symbol (tokens text) tree → fault_of symbol (tokens text) ≡ None → (d : PlanCounts) × Kept symbol no_counts d tree
read_kept symbol zero text tree h none = by (through limits (Reads symbol Gives) no_counts (tokens text)) refl (complete h.spells (omega (arith, zero)) limits Any any_inherits tt no_counts) none
  where
    by : (o : Outcome (Tree symbol)) → through limits (Reads symbol Gives) no_counts (tokens text) ≡ o → GoesTo limits Any (λ e. Ended tree (record { rest = h.behind; counts = e })) o → fault_in o ≡ None → (d : PlanCounts) × Kept symbol no_counts d tree
    by o e (goes d) n = (d, kept Kept keeps empty (Kept symbol no_counts) (Reads symbol Gives) no_counts (tokens text) tree (record { rest = h.behind; counts = d }) (tokens_ranged text) (λ x c k. k) e)
    by o e (stops l) n = absurd (cc)

pub faultless_keep_limits : FaultlessKeepLimits
faultless_keep_limits text ss h none = let k = read_kept (AStmts no_tally) refl text ss h none in record { few_tables = let u = k.1.few_tables (omega arith) in omega (arith, u); few_views = let u = k.1.few_views (omega arith) in omega (arith, u); each = k.1.each }

pub faultless_asks_keep_limits : FaultlessAsksKeepLimits
faultless_asks_keep_limits text asked h none = (read_kept AWholeAnyLine refl text (AskedLine asked) h none).1 refl

pub selected_keep_limits : (text table : List ℕ) (steps : List AskStepImage) → AreSelected (tokens text) table steps → selected_fault (tokens text) ≡ None → KeepsSteps steps
selected_keep_limits text table steps h none = (read_kept ASelected refl text (table, steps) h none).1 refl
