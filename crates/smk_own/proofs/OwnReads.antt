-- An own line says what the parsers read behind its words, and it keeps its limits.
use Rattle.std.specs.{Prelude.{if◌then◌else◌, ◌++◌, ◌-◌, map, take, take_while, replicate, Option, Some, None, Result, Ok, Err, IfOk}, Str.bytes_eq}
use Rattle.std.proofs.{Common.{◌≡◌, ◌≤◌, ℕ, Bool, true, false, cond, List, length, codes, ap, subst, refl, arith}, lemmas.List.{length-drop, length-take}, lemmas.Simd.splat_is_map}
use Rattle.smk_base.specs.{Trees.{AnyLineImage, PlainLine, AskedLine, ProfiledLine, AppendedLine}, TreeImage.{any_image, ask_step_image}, declared.book.tree.AskStep.AskStep, declared.book.tree.AnyLine.AnyLine, declared.fault.LineFault.LineFault}
use Rattle.smk_base.specs.declared.fault.LineFault.TheVariants as line_faults
use Rattle.smk_model.specs.{Limits.KeepsAsk, OwnLines.{RowsPart, OwnLine, Narrowed, NarrowedAsk, Brief, BriefProfile, Lead, WholeLine, BeforeTable, BeforeLine, has_rows, has_rows_behind, moves_brushes, if_may, narrowed, brief, past_blanks, first_word, past_word, bound_of, narrowing, parting, lead_of, in_place, or_first_dot, OwnReading, Owns, Misses, Selected, IsOwnReading, without_lead, alone, not_alone, of_table, of_no_table, of_line}, Readings.{Nothing, Asks, Unread, IsReading, says_nothing, asks, leaves}, Tokens.is_gap}
use Rattle.smk_model.proofs.LimitsKept.{faultless_asks_keep_limits, selected_keep_limits}
use Rattle.smk_parse.specs.Answers.{IsAnyAnswer, IsSelectedAnswer}
use Rattle.smk_own.specs.Keeping.{KeepsOwn, KeepsOwnReading}

-- an `ask` line keeps its limits
abbrev KeepsLine : AnyLineImage → Type 0
KeepsLine (AskedLine asked) = KeepsAsk asked
KeepsLine _ = Unit {0}

-- what begins a line makes own lines that keep their limits
abbrev KeepsLead : Lead → Type 0
KeepsLead (WholeLine own) = KeepsOwn own
KeepsLead (BeforeTable part) = Unit {0}
KeepsLead (BeforeLine becomes) = (asked : AnyLineImage) → KeepsLine asked → (own : OwnLine) → becomes asked ≡ Some own → KeepsOwn own

abbrev IsSound : List ℕ → Option (Lead × List ℕ) → Type 0
IsSound text None = Unit {0}
IsSound text (Some (lead, rest)) = (length rest ≤ length text) × KeepsLead lead

past_word-le : (text : List ℕ) → length (past_word text) ≤ length text
past_word-le text =
    let word = length-drop (length (first_word text)) (past_blanks text) in
    let blanks = length-drop (length (take_while is_gap text)) text in
    omega (arith, word, blanks)

may_is : (may : Bool) (own it : OwnLine) → if_may may own ≡ Some it → (may ≡ true) × (own ≡ it)
may_is true own it e = (refl, cc)
may_is false own it e = absurd (cc)

narrowed_keeps : (part : Option RowsPart) (now : Bool) (asked : AnyLineImage) → KeepsLine asked → (own : OwnLine) → narrowed part now asked ≡ Some own → KeepsOwn own
narrowed_keeps part now (PlainLine line) keeps own e = let r = may_is (cond now (has_rows_behind line) (has_rows line)) (Narrowed part now line) own e in subst KeepsOwn r.1 r.0
narrowed_keeps part now (AskedLine asked) keeps own e = let same : NarrowedAsk part now asked ≡ own = cc in subst KeepsOwn same keeps
narrowed_keeps part now (ProfiledLine view) keeps own e = absurd (cc)
narrowed_keeps part now (AppendedLine table file) keeps own e = absurd (cc)

brief_keeps : (asked : AnyLineImage) → KeepsLine asked → (own : OwnLine) → brief asked ≡ Some own → KeepsOwn own
brief_keeps (PlainLine line) keeps own e = let r = may_is (moves_brushes line) (Brief line) own e in subst KeepsOwn r.1 r.0
brief_keeps (ProfiledLine view) keeps own e = let same : BriefProfile view ≡ own = cc in subst KeepsOwn same tt
brief_keeps (AskedLine asked) keeps own e = absurd (cc)
brief_keeps (AppendedLine table file) keeps own e = absurd (cc)

-- one of two
either : {A : Type 0} (P : A → Type 0) (b : Bool) (x y : A) → P x → P y → P (if b then x else y)
either P true x y p q = p
either P false x y p q = q

narrowing_sound : (whole : List ℕ) (part : Option RowsPart) (text : List ℕ) (other : Option (Lead × List ℕ)) → length text ≤ length whole → IsSound whole other → IsSound whole (narrowing part text other)
narrowing_sound whole part text other short sound =
    let far : length (past_word text) ≤ length whole = let word = past_word-le text in omega (arith, word, short) in
    either (IsSound whole) (bytes_eq (first_word text) (codes ".selected")) _ _ (far, tt)
    (either (IsSound whole) (bytes_eq (first_word text) (codes ".now")) _ _ (far, narrowed_keeps part true) sound)

parting_sound : (whole : List ℕ) (from below : Option ℕ) (text : List ℕ) → length text ≤ length whole → IsSound whole (parting from below text)
parting_sound whole (Some from) (Some below) text short =
    let part : RowsPart = record { from = from; below = below } in
    narrowing_sound whole (Some part) text (Some (BeforeLine (narrowed (Some part) false), text)) short (short, narrowed_keeps (Some part) false)
parting_sound whole (Some from) None text short = tt
parting_sound whole None below text short = tt

lead_sound : (text : List ℕ) → IsSound text (lead_of text)
lead_sound text =
    let one = past_word-le text in
    let two = past_word-le (past_word text) in
    let three = past_word-le (past_word (past_word text)) in
    let short : length (past_word (past_word (past_word text))) ≤ length text = omega (arith, one, two, three) in
    either (IsSound text) (bytes_eq (first_word text) (codes ".schema")) _ _ (one, tt)
    (either (IsSound text) (bytes_eq (first_word text) (codes ".help")) _ _ (one, tt)
    (either (IsSound text) (bytes_eq (first_word text) (codes ".brief")) _ _ (one, brief_keeps)
    (either (IsSound text) (bytes_eq (first_word text) (codes ".part")) _ _
    (parting_sound text (bound_of (first_word (past_word text))) (bound_of (first_word (past_word (past_word text)))) (past_word (past_word (past_word text))) short)
    (narrowing_sound text None text None (omega arith) tt))))

-- what stands behind the words of a line is no longer than the line
pub rest-le : (text : List ℕ) (lead : Lead) (rest : List ℕ) → lead_of text ≡ Some (lead, rest) → length rest ≤ length text
rest-le text lead rest e = (subst (IsSound text) e (lead_sound text)).0

-- a line of a script makes an own line that keeps its limits
line_keeps : {text : List ℕ} {asked : AnyLineImage} → IsReading text (Asks asked) → KeepsLine asked
line_keeps {asked = PlainLine line} (asks n w f) = tt
line_keeps {text = text} {asked = AskedLine asked} (asks n w f) = faultless_asks_keep_limits text asked w f
line_keeps {asked = ProfiledLine view} (asks n w f) = tt
line_keeps {asked = AppendedLine table file} (asks n w f) = tt

became_keeps : (text : List ℕ) (became : Option OwnLine) → ((own : OwnLine) → became ≡ Some own → KeepsOwn own) → KeepsOwnReading (or_first_dot text became)
became_keeps text None keeps = tt
became_keeps text (Some own) keeps = keeps own refl

pub reading_keeps : {text : List ℕ} {own : OwnReading} → IsOwnReading text own → KeepsOwnReading own
reading_keeps (without_lead e) = tt
reading_keeps {text} (alone e h) = (subst (IsSound text) e (lead_sound text)).1
reading_keeps (not_alone e h) = tt
reading_keeps {text} (of_table {rest = rest} {table = table} {steps = steps} e s n) = selected_keep_limits (in_place text rest) table steps s n
reading_keeps (of_no_table e f) = tt
reading_keeps (of_line {reading = Nothing} e r) = tt
reading_keeps {text} (of_line {becomes = becomes} {reading = Asks asked} e r) = became_keeps text (becomes asked) ((subst (IsSound text) e (lead_sound text)).1 asked (line_keeps r))
reading_keeps (of_line {reading = Unread at} e r) = tt

pub kept_if_ok : {R E : Type 0} (image : R → OwnReading) (text : List ℕ) (result : Result R E) → IfOk result (λ reading. IsOwnReading text (image reading)) → IfOk result (λ reading. KeepsOwnReading (image reading))
kept_if_ok image text (Ok reading) says = reading_keeps says
kept_if_ok image text (Err e) says = tt

-- blanks in place of the words of a line
pub blanks_in_place : (text rest : List ℕ) → replicate (length text - length rest) 32 ++ rest ≡ in_place text rest
blanks_in_place text rest =
    let taken = length-take (length text - length rest) text in
    ap (λ bs. bs ++ rest) (splat_is_map (take (length text - length rest) text) (length text - length rest) 32 (omega (arith, taken)))

-- what the parsers answer at the end of a line, whose text this is, is what the line says
abbrev pub IsRead : List ℕ → (AnyLineImage → Option OwnLine) → Result (Option AnyLine) LineFault → Type 0
IsRead text becomes (Ok None) = IsOwnReading text (Misses (length text))
IsRead text becomes (Ok (Some line)) = IsOwnReading text (or_first_dot text (becomes (any_image line)))
IsRead text becomes (Err (line_faults.NotALine at)) = IsOwnReading text (Misses at)
IsRead text becomes (Err line_faults.NoMemory) = Unit {0}

reading_at : (text rest : List ℕ) (becomes : AnyLineImage → Option OwnLine) → lead_of text ≡ Some (BeforeLine becomes, rest)
    → (answer : Result (Option AnyLine) LineFault) → IsAnyAnswer (in_place text rest) answer → IsRead text becomes answer
reading_at text rest becomes e (Ok None) a = of_line e (says_nothing a)
reading_at text rest becomes e (Ok (Some line)) a = of_line e (asks a.0 a.1 a.2)
reading_at text rest becomes e (Err (line_faults.NotALine at)) a = of_line e (leaves a.0 a.1.1.0 a.1.1.1)
reading_at text rest becomes e (Err line_faults.NoMemory) a = tt

pub line_read : (text rest : List ℕ) (becomes : AnyLineImage → Option OwnLine) → lead_of text ≡ Some (BeforeLine becomes, rest)
    → {line : List ℕ} → line ≡ in_place text rest → (answer : Result (Option AnyLine) LineFault) → IsAnyAnswer line answer → IsRead text becomes answer
line_read text rest becomes e is answer a = reading_at text rest becomes e answer (subst (λ line. IsAnyAnswer line answer) is a)

abbrev pub IsTableRead : List ℕ → Option RowsPart → Result (List ℕ × List AskStep) LineFault → Type 0
IsTableRead text part (Ok (table, steps)) = IsOwnReading text (Owns (Selected part table (map ask_step_image steps)))
IsTableRead text part (Err (line_faults.NotALine at)) = IsOwnReading text (Misses at)
IsTableRead text part (Err line_faults.NoMemory) = Unit {0}

table_at : (text rest : List ℕ) (part : Option RowsPart) → lead_of text ≡ Some (BeforeTable part, rest)
    → (answer : Result (List ℕ × List AskStep) LineFault) → IsSelectedAnswer (in_place text rest) answer → IsTableRead text part answer
table_at text rest part e (Ok (table, steps)) a = of_table e a.0 a.1
table_at text rest part e (Err (line_faults.NotALine at)) a = subst (λ n. IsOwnReading text (Misses n)) a.1.1 (of_no_table e a.1.0)
table_at text rest part e (Err line_faults.NoMemory) a = tt

pub table_read : (text rest : List ℕ) (part : Option RowsPart) → lead_of text ≡ Some (BeforeTable part, rest)
    → {line : List ℕ} → line ≡ in_place text rest → (answer : Result (List ℕ × List AskStep) LineFault) → IsSelectedAnswer line answer → IsTableRead text part answer
table_read text rest part e is answer a = table_at text rest part e answer (subst (λ line. IsSelectedAnswer line answer) is a)
