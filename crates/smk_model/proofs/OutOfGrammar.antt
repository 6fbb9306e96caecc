-- The first fault is an unexpected token exactly where the tokens leave the grammar.
use Rattle.std.specs.Prelude.{Option, Some, None, IsTrue}
use Rattle.std.proofs.Common.{◌≡◌, ℕ, Bool, List, [], ◌∷◌, ◌++◌, true, false, ap, ◌∙◌, sym, subst, refl, inl, inr, ◌⊎◌}
use Rattle.smk_base.specs.{declared.book.token.TokenKind.TokenKind, declared.fault.BookFault.BookFault, declared.fault.BookFault.TheVariants.Unexpected}
use Rattle.smk_base.specs.declared.book.token.TokenKind.TheVariants as kinds
use Rattle.smk_model.specs.{Tokens.{Token, tokens}, Rules.{PlanCounts, no_counts, Mark, Symbol, AMarks, One, Listed, AStmts, AWholeLine, AWholeAnyLine, Tree, Rule, Gives, Reads, behind, Opening}, LanguageTable.{rule_of, if_nothing}, TokenReadings.{in_range, marks_in_range, limits, Count, Fine, Above, Move, Takes, Skips, Faults, token_fault, checked, or_nothing, opened, goes_on, settle, after, through, fault_in, fault_of, no_tally}, Spelled.{nothing, Follows, read, Says}, GrammarLaws.{AtMostTooMany, Stays, LeavesGrammar, UnexpectedLeaves}}
use Rattle.smk_model.proofs.{Opens.{readable, to_end, Shaped}, InTurn.again, Spelling.{alone, beginning, settled_taken}, Shapes.{Closes, tokens_close, StaysShaped, stays_shaped, more_is_no_end, not_end, whole}, ShortTexts.close, FinalFaults.faults_stay, TextsRead.texts_are_read}

abbrev Of : {A : Type 0} → Rule A → PlanCounts → List Token → Option BookFault
Of rule c ts = fault_in (through limits rule c ts)

-- the same token with another text
abbrev with_text : Token → List ℕ → Token
with_text t text = record { at = t.at; kind = t.kind; text = text }

-- the end isn't among the tokens
abbrev NoEnds : List Token → Type 0
NoEnds [] = Unit {0}
NoEnds (t ∷ ts) = (t.kind ≡ kinds.End → ⊥) × NoEnds ts

-- it isn't before another one
free : (before : List Token) (t : Token) (behind : List Token) → Closes (before ++ t ∷ behind) → NoEnds before
free [] t behind h = tt
free (u ∷ []) t behind h = (more_is_no_end u.kind h.0, tt)
free (u ∷ v ∷ us) t behind h = (more_is_no_end u.kind h.0, free (v ∷ us) t behind h.1)

-- what is left to be read behind some tokens
record Comes (symbol : Symbol) (rule : Rule (Tree symbol)) (c : PlanCounts) (before : List Token) : Type 0 where
  left : Rule (Tree symbol)
  counts : PlanCounts
  goes : (us : List Token) → Of rule c (before ++ us) ≡ Of left counts us
  spells : (a b : List Token) (tree : Tree symbol) → Follows symbol left a b tree → Follows symbol rule (before ++ a) b tree
  shaped : Shaped true false left

comes : {symbol : Symbol} (before : List Token) (rule : Rule (Tree symbol)) (c : PlanCounts) → Shaped true false rule → NoEnds before → Of rule c before ≡ None → Comes symbol rule c before
comes [] rule c s f e = record { left = rule; counts = c; goes = λ us. refl; spells = λ a b tree p. p; shaped = s }
comes (t ∷ ts) (Gives x) c s f e = absurd (cc)
comes {symbol} (t ∷ ts) (Reads inner rest) c s f e = by (settle limits (Reads inner rest) c t) refl (stays_shaped limits (Reads inner rest) c t s) e (λ made d k g. comes ts made d k f.1 g)
  where
    by : (m : Move (Tree symbol)) → settle limits (Reads inner rest) c t ≡ m → StaysShaped t m → fault_in (after m t ts c (λ d made. through limits made d ts)) ≡ None → ((made : Rule (Tree symbol)) (d : PlanCounts) → Shaped true false made → Of made d ts ≡ None → Comes symbol made d ts) → Comes symbol (Reads inner rest) c (t ∷ ts)
    by (Takes d made) q k g rec = let r = rec made d (subst (λ (o : Bool). Shaped true o made) (not_end t.kind f.0) k.1) g in record {
      left = r.left;
      counts = r.counts;
      goes = λ us. ap (λ m. fault_in (after m t (ts ++ us) c (λ d made. through limits made d (ts ++ us)))) q ∙ r.goes us;
      spells = λ a b tree p. settled_taken limits (Reads inner rest) c d t made (ts ++ a) b tree (r.spells a b tree p) q;
      shaped = r.shaped;
    }
    by (Skips x) q k g rec = absurd k
    by (Faults h) q k g rec = absurd (cc)

-- a text with which each symbol may begin
ranged : (symbol : Symbol) (t : Token) → in_range symbol (with_text t (49 ∷ [])) ≡ true
ranged (One Mark k) t = refl
ranged (Listed Mark) t = refl
ranged AMarks t = marks_ranged t.kind
  where
    marks_ranged : (k : TokenKind) → marks_in_range (with_text t (49 ∷ [])) k ≡ true
    marks_ranged kinds.Number = refl
    marks_ranged _ = refl
ranged _ t = refl

-- a text of the rule goes on with a token of this kind
record GoesOn (symbol : Symbol) (rule : Rule (Tree symbol)) (t : Token) : Type 0 where
  text : List ℕ
  left : Rule (Tree symbol)
  spells : (a b : List Token) (tree : Tree symbol) → Follows symbol left a b tree → Follows symbol rule (with_text t text ∷ a) b tree

-- a token of this kind is wrong, whatever its text
abbrev IsWrong : {A : Type 0} → Rule A → Token → Type 0
IsWrong rule t = (c : PlanCounts) (text : List ℕ) → settle limits rule c (with_text t text) ≡ Faults (token_fault t)

-- a fault is that of a wrong token, or a text goes on with another of its kind
abbrev Decided : (symbol : Symbol) → Rule (Tree symbol) → Token → Move (Tree symbol) → Type 0
Decided symbol rule t (Faults f) = ((f ≡ token_fault t) × IsWrong rule t) ⊎ (GoesOn symbol rule t × ((at : ℕ) → f ≡ Unexpected at → ⊥))
Decided symbol rule t _ = Unit {0}

-- a token that begins a symbol is taken, or there is too much of something, or it is out of range
begins_so : {outer : Symbol} (inner : Symbol) (rule : Rule (Tree outer)) (made : Rule (Tree inner)) (o : Bool) (count : Count) (t : Token) (rest : Tree inner → Rule (Tree outer)) (next : Tree inner → Move (Tree outer)) → GoesOn outer rule t → Decided outer rule t (goes_on (checked made o t count) rest next)
begins_so inner rule made true (Fine d) t rest next g = tt
begins_so inner rule made false (Fine d) t rest next g = inr (g, λ at e. absurd (cc))
begins_so inner rule made o (Above what) t rest next g = inr (g, λ at e. absurd (cc))

passed_by : (outer inner : Symbol) (rest : Tree inner → Rule (Tree outer)) (x : Tree inner) (t : Token) → if_nothing inner ≡ Some x → ((c : PlanCounts) (text : List ℕ) → settle limits (Reads inner rest) c (with_text t text) ≡ settle limits (rest x) c (with_text t text)) → (m : Move (Tree outer)) → Decided outer (rest x) t m → Decided outer (Reads inner rest) t m
passed_by outer inner rest x t is same (Takes d made) h = tt
passed_by outer inner rest x t is same (Skips y) h = tt
passed_by outer inner rest x t is same (Faults f) (inl h) = inl (h.0, λ c text. same c text ∙ h.1 c text)
passed_by outer inner rest x t is same (Faults f) (inr h) = inr (record { text = h.0.text; left = h.0.left; spells = λ a b tree p. read (nothing is) (h.0.spells a b tree p) }, h.1)

decided : (symbol : Symbol) (rule : Rule (Tree symbol)) (c : PlanCounts) (t : Token) → Decided symbol rule t (settle limits rule c t)
decided symbol (Gives x) c t = tt
decided symbol (Reads inner rest) c t = by (λ v. decided symbol (rest v) c t) (rule_of inner t.kind) refl (if_nothing inner) refl
  where
    moves : (u : PlanCounts) (text : List ℕ) (o : Opening (Tree inner)) → rule_of inner t.kind ≡ o → settle limits (Reads inner rest) u (with_text t text) ≡ goes_on (opened (with_text t text) (in_range inner (with_text t text)) (limits inner u (with_text t text)) (if_nothing inner) o) rest (λ v. settle limits (rest v) u (with_text t text))
    moves u text o is = ap (λ o. goes_on (opened (with_text t text) (in_range inner (with_text t text)) (limits inner u (with_text t text)) (if_nothing inner) o) rest (λ v. settle limits (rest v) u (with_text t text))) is

    by : ((v : Tree inner) → Decided symbol (rest v) t (settle limits (rest v) c t)) → (o : Opening (Tree inner)) → rule_of inner t.kind ≡ o → (empty : Option (Tree inner)) → if_nothing inner ≡ empty → Decided symbol (Reads inner rest) t (settle limits (Reads inner rest) c t)
    by rec (Some rule) is empty none =
        subst (Decided symbol (Reads inner rest) t) (sym (moves c t.text (Some rule) is)) (begins_so inner (Reads inner rest) (rule t) (in_range inner t) (limits inner c t) t rest (λ v. settle limits (rest v) c t)
        (record { text = 49 ∷ []; left = behind (rule (with_text t (49 ∷ []))) rest; spells = λ a b tree p. beginning rest (with_text t (49 ∷ [])) rule a b tree is (ranged inner t) p }))
    by rec None is (Some x) none =
        let same : (u : PlanCounts) (text : List ℕ) → settle limits (Reads inner rest) u (with_text t text) ≡ settle limits (rest x) u (with_text t text) = λ u text. moves u text None is ∙ ap (λ n. goes_on (or_nothing (with_text t text) n) rest (λ v. settle limits (rest v) u (with_text t text))) none in
        subst (Decided symbol (Reads inner rest) t) (sym (same c t.text)) (passed_by symbol inner rest x t none same (settle limits (rest x) c t) (rec x))
    by rec None is None none =
        let same : (u : PlanCounts) (text : List ℕ) → settle limits (Reads inner rest) u (with_text t text) ≡ Faults (token_fault t) = λ u text. moves u text None is ∙ ap (λ n. goes_on (or_nothing (with_text t text) n) rest (λ v. settle limits (rest v) u (with_text t text))) none in
        subst (Decided symbol (Reads inner rest) t) (sym (same c t.text)) (inl (refl, same))

at_no_token : {A : Type 0} (rule : Rule A) (c : PlanCounts) → Of rule c [] ≡ None
at_no_token (Gives x) c = refl
at_no_token (Reads symbol rest) c = refl

-- a token with this fault and no other behind it is wrong
wrong : (symbol : Symbol) (left : Rule (Tree symbol)) (d : PlanCounts) (t : Token) (at : ℕ) → Of left d (t ∷ []) ≡ Some (Unexpected at) → (token_fault t ≡ Unexpected at) × IsWrong left t
wrong symbol left d t at e = by (settle limits left d t) (decided symbol left d t) (ap fault_in (again limits left d t []) ∙ e)
  where
    by : (m : Move (Tree symbol)) → Decided symbol left t m → fault_in (after m t [] d (λ d made. through limits made d [])) ≡ Some (Unexpected at) → (token_fault t ≡ Unexpected at) × IsWrong left t
    by (Takes c made) k g = let n = sym (at_no_token made c) ∙ g in absurd (cc)
    by (Skips x) k g = absurd (cc)
    by (Faults f) (inl k) g = let same : f ≡ Unexpected at = cc in (sym k.0 ∙ same, k.1)
    by (Faults f) (inr k) g = let same : f ≡ Unexpected at = cc in absurd (k.1 at same)

module _ (symbol : Symbol) (h : to_end symbol ≡ true) (r : IsTrue (readable symbol)) where
  leaves : ((a : List Token) (tree : Tree symbol) → Says symbol a tree → AtMostTooMany (fault_of symbol a)) → (text : List ℕ) (at : ℕ) → Stays (fault_of symbol) (tokens text) (Unexpected at) → LeavesGrammar (Says symbol) (fault_of symbol) (tokens text) at
  leaves are_read text at s =
      let w = comes s.before (Reads symbol Gives) no_counts (whole symbol h r) (free s.before s.faulty s.behind (subst Closes s.are (tokens_close 0 0 text))) s.faultless in
      let k = wrong symbol w.left w.counts s.faulty at (sym (w.goes (s.faulty ∷ [])) ∙ s.stays []) in
      let c = close w.left in
      let e = c.text [] in
      record {
        before = s.before;
        token = s.faulty;
        behind = s.behind;
        are = s.are;
        place = k.0;
        faultless = s.faultless;
        begins = (e.0, c.tree, record { behind = []; spells = alone (w.spells e.0 [] c.tree e.1) });
        none = λ other more tree p. subst AtMostTooMany (w.goes (with_text s.faulty other ∷ more) ∙ ap fault_in (sym (again limits w.left w.counts (with_text s.faulty other) more)) ∙ ap (λ m. fault_in (after m (with_text s.faulty other) more w.counts (λ d made. through limits made d more))) (k.1 w.counts other) ∙ ap (λ (f : BookFault). Some f) k.0) (are_read (s.before ++ with_text s.faulty other ∷ more) tree p);
      }

  unexpected : (ts : List Token) (at : ℕ) → Closes ts → LeavesGrammar (Says symbol) (fault_of symbol) ts at → fault_of symbol ts ≡ Some (Unexpected at)
  unexpected ts at closed s =
      let w = comes s.before (Reads symbol Gives) no_counts (whole symbol h r) (free s.before s.token s.behind (subst Closes s.are closed)) s.faultless in
      ap (fault_of symbol) s.are ∙ w.goes (s.token ∷ s.behind) ∙ ap fault_in (sym (again limits w.left w.counts s.token s.behind)) ∙ by w (settle limits w.left w.counts s.token) refl (stays_shaped limits w.left w.counts s.token w.shaped) (decided symbol w.left w.counts s.token)
    where
      -- no text goes on with a token of this kind
      no_text : (w : Comes symbol (Reads symbol Gives) no_counts s.before) (text : List ℕ) (left : Rule (Tree symbol)) → ((a b : List Token) (tree : Tree symbol) → Follows symbol left a b tree → Follows symbol w.left (with_text s.token text ∷ a) b tree) → ⊥
      no_text w text left f = let c = close left in let e = c.text [] in s.none text e.0 c.tree (record { behind = []; spells = alone (w.spells (with_text s.token text ∷ e.0) [] c.tree (f e.0 [] c.tree e.1)) })

      by : (w : Comes symbol (Reads symbol Gives) no_counts s.before) (m : Move (Tree symbol)) → settle limits w.left w.counts s.token ≡ m → StaysShaped s.token m → Decided symbol w.left s.token m → fault_in (after m s.token s.behind w.counts (λ d made. through limits made d s.behind)) ≡ Some (Unexpected at)
      by w (Takes d made) q k g = absurd (no_text w s.token.text made (λ a b tree p. settled_taken limits w.left w.counts d s.token made a b tree p q))
      by w (Skips x) q k g = absurd k
      by w (Faults f) q k (inl g) = ap (λ (f : BookFault). Some f) (g.0 ∙ s.place)
      by w (Faults f) q k (inr g) = absurd (no_text w g.0.text g.0.left g.0.spells)

pub unexpected_leaves : UnexpectedLeaves
unexpected_leaves = record {
  book = record {
    leaves = λ text at e. leaves (AStmts no_tally) refl refl texts_are_read.book text at (faults_stay.book (tokens text) (Unexpected at) e);
    unexpected = λ text at s. unexpected (AStmts no_tally) refl refl (tokens text) at (tokens_close 0 0 text) s;
  };
  line = record {
    leaves = λ text at e. leaves AWholeLine refl refl (λ a tree p. subst AtMostTooMany (sym (texts_are_read.line a tree p)) tt) text at (faults_stay.line (tokens text) (Unexpected at) e);
    unexpected = λ text at s. unexpected AWholeLine refl refl (tokens text) at (tokens_close 0 0 text) s;
  };
  any = record {
    leaves = λ text at e. leaves AWholeAnyLine refl refl texts_are_read.any text at (faults_stay.any (tokens text) (Unexpected at) e);
    unexpected = λ text at s. unexpected AWholeAnyLine refl refl (tokens text) at (tokens_close 0 0 text) s;
  };
}
