-- What is read up to the end is what the text says, and has its fault.
use Rattle.std.specs.Prelude.{Result, Ok, Err, Some, None}
use Rattle.std.proofs.Common.{◌≡◌, ℕ, List, false, ap, ◌∙◌, sym, refl, subst}
use Rattle.smk_base.specs.declared.book.token.TokenKind.TheVariants as kinds
use Rattle.smk_model.specs.{TokenReadings.{limits, no_tally, reads, Outcome, Ended, Open, Failed, through, read_off, fault_in, fault_of}, Spelled.Says}
use Rattle.smk_model.proofs.Spelling.{says}
use Rattle.smk_parse.specs.{Vocabulary.{BookFault, NoMemory, LineFault, Token, Symbol, AStmts, ASelected, Tree, Gives, Reads, Configuration, no_counts, tokens, head_of, HasNoToken}, Reads.{value_of, is_memory}, Answers.{IsAnswer, IsSelectedAnswer, IsBookAnswer, as_line_fault}}

abbrev pub start : List ℕ → Configuration
start text = record { rest = tokens text; counts = no_counts }

-- what a text says that is read, and the fault of one that isn't
abbrev pub IsSaid : (symbol : Symbol) → List Token → Result (Tree symbol) BookFault → Type 0
IsSaid symbol ts (Ok x) = Says symbol ts x × (fault_of symbol ts ≡ None)
IsSaid symbol ts (Err f) = is_memory f ≡ false → fault_of symbol ts ≡ Some f

pub whole : (symbol : Symbol) (a : Configuration) (text : List ℕ) (r : Result (Tree symbol) BookFault) → a ≡ start text → value_of (reads symbol a) ≡ r → IsSaid symbol (tokens text) r
unfolding reads
whole symbol a text r e h = subst (IsSaid symbol (tokens text)) (ap (λ (b : Configuration). value_of (reads symbol b)) (sym e) ∙ h) (by (through limits (Reads symbol Gives) no_counts (tokens text)) refl)
  where
    by : (o : Outcome (Tree symbol)) → through limits (Reads symbol Gives) no_counts (tokens text) ≡ o → IsSaid symbol (tokens text) (value_of (read_off o))
    by (Ended x b) e = (says symbol limits no_counts (tokens text) x b e, ap fault_in e)
    by (Open rule c) e = λ m. absurd (cc)
    by (Failed f) e = λ m. ap fault_in e

some_token : (a : Configuration) (text : List ℕ) → a ≡ start text → ((head_of a.rest).kind ≡ kinds.End → ⊥) → HasNoToken text → ⊥
some_token a text e n h = n (ap (λ (s : Configuration). (head_of s.rest).kind) e ∙ h)

-- a line that is read, and one that isn't
pub whole_read : {X : Type 0} (symbol : Symbol) (image : X → Tree symbol) (a : Configuration) (text : List ℕ) (line : X) → a ≡ start text → ((head_of a.rest).kind ≡ kinds.End → ⊥) → value_of (reads symbol a) ≡ Ok (image line) → IsAnswer (λ line. Says symbol (tokens text) (image line)) (fault_of symbol (tokens text)) text (Ok (Some line))
whole_read symbol image a text line e n h = let s = whole symbol a text (Ok (image line)) e h in (some_token a text e n, s.0, s.1)

pub whole_unread : {X : Type 0} (symbol : Symbol) (Spells : X → Type 0) (a : Configuration) (text : List ℕ) (f : BookFault) (r : LineFault) → a ≡ start text → ((head_of a.rest).kind ≡ kinds.End → ⊥) → (is_memory f ≡ false → value_of (reads symbol a) ≡ Err f) → r ≡ as_line_fault f → IsAnswer Spells (fault_of symbol (tokens text)) text (Err r)
whole_unread symbol Spells a text f r e n h g = subst (λ r. IsAnswer Spells (fault_of symbol (tokens text)) text (Err r)) (sym g) (by f (λ m. whole symbol a text (Err f) e (h m) m))
  where
    by : (f : BookFault) → (is_memory f ≡ false → fault_of symbol (tokens text) ≡ Some f) → IsAnswer Spells (fault_of symbol (tokens text)) text (Err (as_line_fault f))
    by NoMemory k = some_token a text e n
    by f k = (some_token a text e n, (f, (k refl, refl)))

pub selected_unread : (a : Configuration) (text : List ℕ) (f : BookFault) (r : LineFault) → a ≡ start text → (is_memory f ≡ false → value_of (reads ASelected a) ≡ Err f) → r ≡ as_line_fault f → IsSelectedAnswer text (Err r)
selected_unread a text f r e h g = subst (λ r. IsSelectedAnswer text (Err r)) (sym g) (by f (λ m. whole ASelected a text (Err f) e (h m) m))
  where
    by : (f : BookFault) → (is_memory f ≡ false → fault_of ASelected (tokens text) ≡ Some f) → IsSelectedAnswer text (Err (as_line_fault f))
    by NoMemory k = tt
    by f k = (f, (k refl, refl))

pub book_unread : (a : Configuration) (text : List ℕ) (f : BookFault) → a ≡ start text → (is_memory f ≡ false → value_of (reads (AStmts no_tally) a) ≡ Err f) → IsBookAnswer text (Err f)
book_unread a text f e h = by f (λ m. whole (AStmts no_tally) a text (Err f) e (h m) m)
  where
    by : (f : BookFault) → (is_memory f ≡ false → fault_of (AStmts no_tally) (tokens text) ≡ Some f) → IsBookAnswer text (Err f)
    by NoMemory k = tt
    by _ k = k refl
