-- What is read of a file follows from its content.
use Rattle.std.proofs.Common.{◌≡◌, ◌≢◌, ◌∙◌, ℕ, List, Option, Some, None, Result, Ok, Err, refl, sym, ap, inl, inr, subst}
use Rattle.smk_base.specs.{CatalogImage.CatalogImage, Marks.after_marks, declared.fault.Fault.Fault, declared.fault.Fault.TheVariants.{Book, Types}, declared.fault.BookFault.BookFault, declared.book.tree.Book.Book as Statements, Trees.StmtImage, TreeImage.{book_image, ask_image, any_image}, declared.book.tree.AnyLine.AnyLine}
use Rattle.smk_base.specs.declared.fault.BookFault.TheVariants as book_faults
use Rattle.smk_base.specs.declared.fault.LineFault.TheVariants as line_faults
use Rattle.smk_base.specs.declared.book.tree.AnyLine.TheVariants as any_lines
use Rattle.smk_model.specs.{Names.Typed, Typing.types, Expanded.{expanded, dependency_names, HasNoDependency}, Profiles.AreDependencies, Readings.{Nothing, Asks, Unread as Unread', IsReading, says_nothing, asks, leaves}, Reports.BookSaid, Outcome.{Held, file_bytes, Parses, spells, misspells, BookSays, unparsed, parsed, said_or_fault, statements_say, FileSays, unread, read, UntoldCause}, Limits.KeepsLimits}
use Rattle.smk_model.proofs.{Expanded.expanded_stands, LimitsKept.{faultless_keep_limits, faultless_asks_keep_limits}}
use Rattle.smk_parse.specs.Answers.{IsBookAnswer, IsAnyAnswer}
use Rattle.smk_inputs.specs.{LineLimits.KeepsLine, declared.stop.Stop.Stop, declared.stop.Stop.TheVariants.{At, Unwritten, Exhausted}, Collecting.{Answers, ReadsNamed}}

-- the file is read, and then its bytes say this
pub says_after : {A X Y : Type 0} (image : X → A) (content : Y → List ℕ) (held : Option Held) (rose : Type 0) (name bytes : List ℕ) (y : Y) (says : List ℕ → Result A Fault → Type 0) (r : Result X Stop)
    → ReadsNamed held rose name (λ h answer. file_bytes h name ≡ answer) content (Ok y) → bytes ≡ content y
    → ((fault : Fault) → says bytes (Err fault) → UntoldCause rose fault)
    → Answers (says bytes) image r → ReadsNamed held rose name (λ h. FileSays h name says) image r
says_after image content (Some held) rose name bytes y says (Ok x) is same own a = read is (subst (λ (b : List ℕ). says b (Ok (image x))) same a)
says_after image content (Some held) rose name bytes y says (Err (At fault)) is same own a = inl (read is (subst (λ (b : List ℕ). says b (Err fault)) same a))
says_after image content (Some held) rose name bytes y says (Err Unwritten) is same own a = a
says_after image content (Some held) rose name bytes y says (Err Exhausted) is same own a = tt
says_after image content None rose name bytes y says (Ok x) is same own a = tt
says_after image content None rose name bytes y says (Err (At fault)) is same own a = own fault a
says_after image content None rose name bytes y says (Err Unwritten) is same own a = a
says_after image content None rose name bytes y says (Err Exhausted) is same own a = tt

-- the file isn't read
pub says_stop : {A X Y : Type 0} (image : X → A) (content : Y → List ℕ) (held : Option Held) (rose : Type 0) (name : List ℕ) (says : List ℕ → Result A Fault → Type 0) (stop : Stop)
    → ReadsNamed {X = Y} held rose name (λ h answer. file_bytes h name ≡ answer) content (Err stop) → ReadsNamed {X = X} held rose name (λ h. FileSays h name says) image (Err stop)
says_stop image content (Some held) rose name says (At fault) (inl is) = inl (unread is)
says_stop image content (Some held) rose name says (At fault) (inr up) = inr up
says_stop image content (Some held) rose name says Unwritten is = is
says_stop image content (Some held) rose name says Exhausted is = tt
says_stop image content None rose name says (At fault) is = is
says_stop image content None rose name says Unwritten is = is
says_stop image content None rose name says Exhausted is = tt

-- a book's text
pub spelt : (text : List ℕ) (book : Statements) → IsBookAnswer text (Ok book) → Parses text (Ok (book_image book))
spelt text book is = spells is.0 is.1

pub keeps_limits : (text : List ℕ) (book : Statements) → IsBookAnswer text (Ok book) → KeepsLimits (book_image book)
keeps_limits text book is = faultless_keep_limits text (book_image book) is.0 is.1

pub misspelt : (text : List ℕ) (fault : BookFault) → IsBookAnswer text (Err fault) → fault ≢ book_faults.NoMemory → Parses text (Err (Book fault))
misspelt text book_faults.NoMemory is other = absurd (other refl)
misspelt text _ is other = misspells is

-- a book in which each dependency is replaced
pub expanded_keeps : (book made : List StmtImage) → made ≡ expanded book → KeepsLimits book → KeepsLimits made
expanded_keeps book made same keeps = subst KeepsLimits (sym same) (expanded_stands.limits book keeps)

pub expanded_none : (book made : List StmtImage) → made ≡ expanded book → HasNoDependency made
expanded_none book made same = subst HasNoDependency (sym same) (expanded_stands.none book)

pub expanded_shown : (book made : List StmtImage) (fds : List (List ℕ)) (catalog : CatalogImage) → made ≡ expanded book → fds ≡ dependency_names book → types made ≡ Ok catalog → AreDependencies catalog fds
expanded_shown book made fds catalog same names typed = subst (AreDependencies catalog) (sym names) (expanded_stands.shown book catalog (ap types (sym same) ∙ typed))

-- a line's text
pub says_none : (text : List ℕ) → IsAnyAnswer text (Ok None) → IsReading text Nothing
says_none text is = says_nothing is

pub says_line : (text : List ℕ) (line : AnyLine) → IsAnyAnswer text (Ok (Some line)) → IsReading text (Asks (any_image line))
says_line text line is = asks is.0 is.1 is.2

pub says_fault : (text : List ℕ) (at : ℕ) → IsAnyAnswer text (Err (line_faults.NotALine at)) → IsReading text (Unread' at)
says_fault text at is = leaves is.0 is.1.1.0 is.1.1.1

pub keeps_line : (text : List ℕ) (line : AnyLine) → IsAnyAnswer text (Ok (Some line)) → KeepsLine (any_image line)
keeps_line text (any_lines.Ask asked) is = faultless_asks_keep_limits text (ask_image asked) is.1 is.2
keeps_line text _ is = tt

pub ruleset lines_say = (says_none, says_line, says_fault, keeps_line)

-- the bytes of a book's file say no fault of a file that isn't read
book_typed : (fds : List (List ℕ)) (answer : Typed CatalogImage) (rose : Type 0) (fault : Fault) → said_or_fault fds answer ≡ Err fault → UntoldCause rose fault
book_typed fds (Ok catalog) rose fault e = absurd (cc)
book_typed fds (Err found) rose fault e = let same : Types found ≡ fault = cc in subst (UntoldCause rose) same tt

pub book_untold : (bytes : List ℕ) (rose : Type 0) (fault : Fault) → BookSays bytes (Err fault) → UntoldCause rose fault
book_untold bytes rose fault (unparsed (misspells is)) = tt
book_untold bytes rose fault (parsed {stmts = stmts} is e) = book_typed (dependency_names stmts) (types (expanded stmts)) rose fault e

-- a book's file, after its text was parsed, or was not
pub book_unparsed : {X Y : Type 0} (trees : X → List StmtImage) (image : Y → BookSaid) (bytes text : List ℕ) (stop : Stop) → text ≡ after_marks bytes → Answers {X = X} (Parses text) trees (Err stop) → Answers {X = Y} (BookSays bytes) image (Err stop)
book_unparsed trees image bytes text (At fault) same is = unparsed (subst (λ (t : List ℕ). Parses t (Err fault)) same is)
book_unparsed trees image bytes text Unwritten same is = is
book_unparsed trees image bytes text Exhausted same is = tt

pub book_says : {X Y : Type 0} (trees : X → List StmtImage) (image : Y → BookSaid) (bytes text : List ℕ) (book : X) (r : Result Y Stop) → text ≡ after_marks bytes → Answers (Parses text) trees (Ok book)
    → Answers (λ answer. statements_say (trees book) ≡ answer) image r → Answers (BookSays bytes) image r
book_says trees image bytes text book (Err Unwritten) same is e = e
book_says trees image bytes text book (Err Exhausted) same is e = tt
book_says trees image bytes text book _ same is e = parsed (subst (λ (t : List ℕ). Parses t (Ok (trees book))) same is) e
