-- A fault stays the fault whatever follows.
use Rattle.std.specs.Prelude.{Option, Some, None}
use Rattle.std.proofs.Common.{◌≡◌, Bool, true, false, List, [], ◌∷◌, ◌++◌, ap, ◌∙◌, subst, refl}
use Rattle.smk_base.specs.{declared.book.token.TokenKind.TokenKind, declared.fault.BookFault.BookFault}
use Rattle.smk_base.specs.declared.book.token.TokenKind.TheVariants as kinds
use Rattle.smk_model.specs.{Tokens.Token, Rules.{PlanCounts, no_counts, AStmts, AWholeLine, AWholeAnyLine, Tree, Rule, Gives, Reads, Opening}, LanguageTable.{rule_of, if_nothing}, TokenReadings.{in_range, limits, Count, Fine, Above, Move, Takes, Skips, Faults, token_fault, opened, move_of, goes_on, settle, after, through, fault_in, no_tally}, GrammarLaws.{IsAt, Stays, FaultsStay}}

wrong_at : (t : Token) → IsAt t.at (token_fault t)
wrong_at t = by t.kind
  where
    by : (k : TokenKind) → IsAt t.at (token_fault (record { at = t.at; kind = k; text = t.text }))
    by kinds.Bad = refl
    by kinds.Huge = refl
    by _ = refl

-- a fault is at its token
abbrev FaultsAt : {A : Type 0} → Token → Move A → Type 0
FaultsAt t (Faults f) = IsAt t.at f
FaultsAt t _ = Unit {0}

opened_at : {A : Type 0} (t : Token) (ranged : Bool) (count : Count) (empty : Option A) (rule : Opening A) → FaultsAt t (opened t ranged count empty rule)
opened_at t true (Fine c) empty (Some rule) = tt
opened_at t false (Fine c) empty (Some rule) = refl
opened_at t ranged (Above what) empty (Some rule) = refl
opened_at t ranged count (Some x) None = tt
opened_at t ranged count None None = wrong_at t

settled_at : {A : Type 0} (rule : Rule A) (c : PlanCounts) (t : Token) → FaultsAt t (settle limits rule c t)
settled_at (Gives x) c t = tt
settled_at {A} (Reads symbol rest) c t = by (move_of limits symbol c t) (opened_at t (in_range symbol t) (limits symbol c t) (if_nothing symbol) (rule_of symbol t.kind)) (λ v. settled_at (rest v) c t)
  where
    by : (m : Move (Tree symbol)) → FaultsAt t m → ((v : Tree symbol) → FaultsAt t (settle limits (rest v) c t)) → FaultsAt t (goes_on m rest (λ v. settle limits (rest v) c t))
    by (Takes d made) h rec = tt
    by (Skips v) h rec = rec v
    by (Faults f) h rec = h

abbrev Of : {A : Type 0} → Rule A → PlanCounts → List Token → Option BookFault
Of rule c ts = fault_in (through limits rule c ts)

stay : {A : Type 0} (ts : List Token) (rule : Rule A) (c : PlanCounts) (f : BookFault) → Of rule c ts ≡ Some f → Stays (Of rule c) ts f
stay ts (Gives x) c f e = absurd (cc)
stay [] (Reads symbol rest) c f e = absurd (cc)
stay {A} (t ∷ ts) (Reads symbol rest) c f e = by (settle limits (Reads symbol rest) c t) refl (settled_at (Reads symbol rest) c t) e (λ made d g. stay ts made d f g)
  where
    by : (m : Move A) → settle limits (Reads symbol rest) c t ≡ m → FaultsAt t m → fault_in (after m t ts c (λ d made. through limits made d ts)) ≡ Some f → ((made : Rule A) (d : PlanCounts) → Of made d ts ≡ Some f → Stays (Of made d) ts f) → Stays (Of (Reads symbol rest) c) (t ∷ ts) f
    by (Takes d made) q at g rec = let r = rec made d g in record {
      before = t ∷ r.before;
      faulty = r.faulty;
      behind = r.behind;
      are = ap (λ us. t ∷ us) r.are;
      place = r.place;
      faultless = ap (λ n. fault_in (after n t r.before c (λ d made. through limits made d r.before))) q ∙ r.faultless;
      stays = λ us. ap (λ n. fault_in (after n t (r.before ++ r.faulty ∷ us) c (λ d made. through limits made d (r.before ++ r.faulty ∷ us)))) q ∙ r.stays us;
    }
    by (Skips x) q at g rec = absurd (cc)
    by (Faults h) q at g rec = let same : h ≡ f = cc in record {
      before = [];
      faulty = t;
      behind = ts;
      are = refl;
      place = subst (IsAt t.at) same at;
      faultless = refl;
      stays = λ us. ap (λ n. fault_in (after n t us c (λ d made. through limits made d us))) q ∙ ap (λ (k : BookFault). Some k) same;
    }

pub faults_stay : FaultsStay
faults_stay = record {
  book = λ ts f e. stay ts (Reads (AStmts no_tally) Gives) no_counts f e;
  line = λ ts f e. stay ts (Reads AWholeLine Gives) no_counts f e;
  any = λ ts f e. stay ts (Reads AWholeAnyLine Gives) no_counts f e;
}
