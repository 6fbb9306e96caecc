-- The walk over the lines of a script, one part after the other.
use Rattle.std.proofs.{Common.{◌≡◌, ◌∙◌, ◌≤◌, ◌+◌, ◌++◌, ◌∷◌, [], ℕ, List, length, drop, Option, Err, refl, sym, ap, subst, append_assoc, append-nil, arith}, lemmas.List.{length-append, drop_all}}
use Rattle.smk_base.specs.Marks.{after_marks}
use Rattle.smk_model.specs.{Lines.lines, Readings.{Reading, IsReading, AreReadings, AreReadingsOf, no_line}, Reports.{BookSaid, LinesTold, nothing_told, followed_by, brings_rows, next_rows, rows_left, line_told, state_after, lines_told}, Session.State, Values.Row}
use Rattle.smk_model.proofs.OneOutcome.{same_readings}
use Rattle.smk_outside.specs.Outside.{Appends, AppendsPart}
use Rattle.smk_inputs.specs.declared.stop.Stop.{Stop}
use Rattle.smk_top.specs.{declared.counts.Counts.Counts, Counting.{counts_together, counts_told}, Writing.PutsPieces}
use Rattle.smk_inputs.proofs.ScriptReads.{readings_more, rest_said}
use Rattle.smk_top.proofs.Appending.{appends_none, appends_more, front_of, next_stops}

-- the state after lines, and the rows that are left behind them of those that lines bring
abbrev pub state_through : BookSaid → State → List (List Row) → List Reading → State
state_through catalog state added [] = state
state_through catalog state added (reading ∷ readings) = state_through catalog (state_after catalog state (next_rows added) reading) (rows_left (brings_rows catalog.catalog reading) added) readings

abbrev pub left_through : BookSaid → List (List Row) → List Reading → List (List Row)
left_through catalog added [] = added
left_through catalog added (reading ∷ readings) = left_through catalog (rows_left (brings_rows catalog.catalog reading) added) readings

through_more : (catalog : BookSaid) (state : State) (added : List (List Row)) (before : List Reading) (reading : Reading)
    → state_through catalog state added (before ++ reading ∷ []) ≡ state_after catalog (state_through catalog state added before) (next_rows (left_through catalog added before)) reading
through_more catalog state added [] reading = refl
through_more catalog state added (r ∷ before) reading = through_more catalog (state_after catalog state (next_rows added) r) (rows_left (brings_rows catalog.catalog r) added) before reading

left_more : (catalog : BookSaid) (added : List (List Row)) (before : List Reading) (reading : Reading)
    → left_through catalog added (before ++ reading ∷ []) ≡ rows_left (brings_rows catalog.catalog reading) (left_through catalog added before)
left_more catalog added [] reading = refl
left_more catalog added (r ∷ before) reading = left_more catalog (rows_left (brings_rows catalog.catalog r) added) before reading

-- parts follow one another
abbrev told_by : List ℕ → ℕ → ℕ → ℕ → ℕ → LinesTold
told_by t r f u l = record { text = t; replies = r; refused = f; unread = u; looks = l }

told_same : (a b : LinesTold) → a.text ≡ b.text → a.replies ≡ b.replies → a.refused ≡ b.refused → a.unread ≡ b.unread → a.looks ≡ b.looks → a ≡ b
told_same a b = by a.text b.text a.replies b.replies a.refused b.refused a.unread b.unread a.looks b.looks
  where
    by : (t t' : List ℕ) (r r' f f' u u' l l' : ℕ) → t ≡ t' → r ≡ r' → f ≡ f' → u ≡ u' → l ≡ l' → told_by t r f u l ≡ told_by t' r' f' u' l'
    by t t' r r' f f' u u' l l' a b c d e = rw (a, b, c, d, e) refl

followed_assoc : (a b c : LinesTold) → followed_by (followed_by a b) c ≡ followed_by a (followed_by b c)
followed_assoc a b c = told_same _ _ (append_assoc a.text b.text c.text) (omega arith) (omega arith) (omega arith) (omega arith)

followed_none : (a : LinesTold) → followed_by a nothing_told ≡ a
followed_none a = told_same _ _ (append-nil a.text) (omega arith) (omega arith) (omega arith) (omega arith)

none_followed : (a : LinesTold) → followed_by nothing_told a ≡ a
none_followed a = told_same _ _ refl (omega arith) (omega arith) (omega arith) (omega arith)

told_append : (catalog : BookSaid) (state : State) (added : List (List Row)) (n m : ℕ) (before behind : List Reading) → m ≡ n + length before
    → lines_told catalog state n added (before ++ behind) ≡ followed_by (lines_told catalog state n added before) (lines_told catalog (state_through catalog state added before) m (left_through catalog added before) behind)
told_append catalog state added n m [] behind is =
    let same : n ≡ m = omega (arith, is) in
    ap (λ k. lines_told catalog state k added behind) same ∙ sym (none_followed (lines_told catalog state m added behind))
told_append catalog state added n m (reading ∷ before) behind is =
    let next = state_after catalog state (next_rows added) reading in
    let rest = rows_left (brings_rows catalog.catalog reading) added in
    ap (followed_by (line_told catalog state n (next_rows added) reading)) (told_append catalog next rest (n + 1) m before behind (omega (arith, is)))
    ∙ sym (followed_assoc (line_told catalog state n (next_rows added) reading) (lines_told catalog next (n + 1) rest before) _)

-- the lines of a script before a place, with what they say, and what they come to: what is written, the state and the rows that they leave, and the looks
pub record IsWalked (catalog : BookSaid) (state : State) (added : List (List Row)) (script : List ℕ) (from number : ℕ) (before after : Option (List ℕ)) (now : State) (rest : List (List Row)) (first looks : ℕ) : Type 0 where
  pub texts : List (List ℕ)
  pub said : List Reading
  pub cut : lines script ≡ texts ++ lines (drop from script)
  pub reads : AreReadings texts said
  pub count : number ≡ length said
  pub written : Appends before after (lines_told catalog state 1 added said).text
  pub leaves : now ≡ state_through catalog state added said
  pub left : rest ≡ left_through catalog added said
  pub looked : looks ≤ first + (lines_told catalog state 1 added said).looks

-- the same with the counts of the lines
abbrev pub Walks : BookSaid → State → List (List Row) → List ℕ → ℕ → ℕ → Option (List ℕ) → Option (List ℕ) → State → List (List Row) → ℕ → ℕ → Counts → Type 0
Walks catalog state added script from number before after now rest first looks counts =
    (walked : IsWalked catalog state added script from number before after now rest first looks) × (counts ≡ counts_told (lines_told catalog state 1 added walked.said))

-- the readings of a script are those of its text without marks
pub readings_of_text : (text bytes script : List ℕ) (said : List Reading) → text ≡ after_marks bytes → bytes ≡ script → AreReadingsOf script said → AreReadings (lines text) said
readings_of_text text bytes script said rest value all = rw (rest, value) all

-- before the first line
pub walk_begins : (catalog : BookSaid) (state now : State) (added rest : List (List Row)) (script : List ℕ) (a : Option (List ℕ)) (first : ℕ) → now ≡ state → rest ≡ added
    → Walks catalog state added script 0 0 a a now rest first first (counts_told nothing_told)
walk_begins catalog state now added rest script a first same all =
    (record { texts = []; said = []; cut = refl; reads = no_line; count = refl; written = appends_none a; leaves = same; left = all; looked = omega arith }, refl)

-- what lines come to with one more
told_on : (catalog k : BookSaid) (state now : State) (added rest : List (List Row)) (number : ℕ) (said : List Reading) (reading : Reading)
    → number ≡ length said → k ≡ catalog → now ≡ state_through catalog state added said → rest ≡ left_through catalog added said
    → lines_told catalog state 1 added (said ++ reading ∷ []) ≡ followed_by (lines_told catalog state 1 added said) (line_told k now (number + 1) (next_rows rest) reading)
told_on catalog k state now added rest number said reading count e f h =
    told_append catalog state added 1 (number + 1) said (reading ∷ []) (omega (arith, count))
    ∙ ap (followed_by (lines_told catalog state 1 added said)) (followed_none (line_told catalog (state_through catalog state added said) (number + 1) (next_rows (left_through catalog added said)) reading))
    ∙ rw (e, f, h) refl

counts_on : (a b : LinesTold) → counts_together (counts_told a) (counts_told b) ≡ counts_told (followed_by a b)
counts_on a b = ap (λ n. record { replies = a.replies + b.replies; refused = a.refused + b.refused; unread = a.unread + b.unread; bytes = n }) (sym (length-append a.text b.text))

-- behind the next line
pub walk_on : (catalog k : BookSaid) (state now later : State) (added rest behind : List (List Row)) (script line : List ℕ) (from next number : ℕ) (a b c : Option (List ℕ)) (first looks more : ℕ) (reading : Reading)
    → (walked : IsWalked catalog state added script from number a b now rest first looks) → k ≡ catalog
    → lines (drop from script) ≡ line ∷ lines (drop next script) → IsReading line reading
    → Appends b c (line_told k now (number + 1) (next_rows rest) reading).text → later ≡ state_after k now (next_rows rest) reading → behind ≡ rows_left (brings_rows k.catalog reading) rest
    → more ≤ looks + (line_told k now (number + 1) (next_rows rest) reading).looks
    → (on : IsWalked catalog state added script next (number + 1) a c later behind first more)
    × ((counts one both : Counts) → counts ≡ counts_told (lines_told catalog state 1 added walked.said) → one ≡ counts_told (line_told k now (number + 1) (next_rows rest) reading) → both ≡ counts_together counts one
    → both ≡ counts_told (lines_told catalog state 1 added on.said))
walk_on catalog k state now later added rest behind script line from next number a b c first looks more reading walked same cut is put after left looked =
    let here = told_on catalog k state now added rest number walked.said reading walked.count same walked.leaves walked.left in
    let on : IsWalked catalog state added script next (number + 1) a c later behind first more = record {
      texts = walked.texts ++ line ∷ [];
      said = walked.said ++ reading ∷ [];
      cut = walked.cut ∙ ap (λ rest. walked.texts ++ rest) cut ∙ sym (append_assoc walked.texts (line ∷ []) (lines (drop next script)));
      reads = readings_more walked.texts walked.said line reading walked.reads is;
      count = omega (arith, walked.count, length-append walked.said (reading ∷ []));
      written = rw here (appends_more a b c (lines_told catalog state 1 added walked.said).text (line_told k now (number + 1) (next_rows rest) reading).text walked.written put);
      leaves = after ∙ rw (same, walked.leaves, walked.left) (sym (through_more catalog state added walked.said reading));
      left = left ∙ rw (same, walked.left) (sym (left_more catalog added walked.said reading));
      looked = omega (arith, looked, walked.looked, ap (λ (t : LinesTold). t.looks) here);
    } in
    (on, λ counts one both e f g. g ∙ rw (e, f) (counts_on (lines_told catalog state 1 added walked.said) (line_told k now (number + 1) (next_rows rest) reading)) ∙ ap counts_told (sym here))

-- the lines so far are the first of all
all_told : (catalog : BookSaid) (state : State) (added : List (List Row)) (texts behind : List (List ℕ)) (script : List ℕ) (done said : List Reading) → lines script ≡ texts ++ behind → AreReadings texts done → AreReadings (lines script) said
    → (rest : LinesTold) × (lines_told catalog state 1 added said ≡ followed_by (lines_told catalog state 1 added done) rest)
all_told catalog state added texts behind script done said cut reads all =
    let more = rest_said texts behind done said reads (subst (λ (l : List (List ℕ)). AreReadings l said) cut all) in
    (lines_told catalog (state_through catalog state added done) (1 + length done) (left_through catalog added done) more.0, ap (lines_told catalog state 1 added) more.1 ∙ told_append catalog state added 1 (1 + length done) done more.0 refl)

-- memory runs out behind these lines
pub walk_wants : (catalog : BookSaid) (state now : State) (added rest : List (List Row)) (script : List ℕ) (from number : ℕ) (a b : Option (List ℕ)) (first looks : ℕ) → IsWalked catalog state added script from number a b now rest first looks
    → (said : List Reading) → AreReadings (lines script) said
    → AppendsPart a b (lines_told catalog state 1 added said).text × (looks ≤ first + (lines_told catalog state 1 added said).looks)
walk_wants catalog state now added rest script from number a b first looks walked said all =
    let more = all_told catalog state added walked.texts _ script walked.said said walked.cut walked.reads all in
    (front_of a b (lines_told catalog state 1 added walked.said).text more.0.text _ walked.written (ap (λ (t : LinesTold). t.text) more.1), omega (arith, walked.looked, ap (λ (t : LinesTold). t.looks) more.1))

-- the writing stops in the next line
pub walk_stops : (X Y : Type 0) (catalog k : BookSaid) (state now : State) (added rest : List (List Row)) (script line : List ℕ) (from next number : ℕ) (a b c : Option (List ℕ)) (rose_here rose : Type 0) (first looks more : ℕ) (reading : Reading) (stop : Stop)
    → IsWalked catalog state added script from number a b now rest first looks → k ≡ catalog
    → lines (drop from script) ≡ line ∷ lines (drop next script) → IsReading line reading → (rose_here → rose)
    → PutsPieces {X = X} (line_told k now (number + 1) (next_rows rest) reading).text rose_here b c (Err stop) → more ≤ looks + (line_told k now (number + 1) (next_rows rest) reading).looks
    → (said : List Reading) → AreReadings (lines script) said
    → PutsPieces {X = Y} (lines_told catalog state 1 added said).text rose a c (Err stop) × (more ≤ first + (lines_told catalog state 1 added said).looks)
walk_stops X Y catalog k state now added rest script line from next number a b c rose_here rose first looks more reading stop walked same cut is wide put looked said all =
    let here = told_on catalog k state now added rest number walked.said reading walked.count same walked.leaves walked.left in
    let cut : lines script ≡ (walked.texts ++ line ∷ []) ++ lines (drop next script) = walked.cut ∙ ap (λ rest. walked.texts ++ rest) cut ∙ sym (append_assoc walked.texts (line ∷ []) (lines (drop next script))) in
    let behind = all_told catalog state added (walked.texts ++ line ∷ []) _ script (walked.said ++ reading ∷ []) said cut (readings_more walked.texts walked.said line reading walked.reads is) all in
    let whole = behind.1 ∙ ap (λ t. followed_by t behind.0) here in (
      next_stops X Y a b c rose_here rose (lines_told catalog state 1 added walked.said).text (line_told k now (number + 1) (next_rows rest) reading).text behind.0.text _ stop (ap (λ (t : LinesTold). t.text) whole) wide walked.written put,
      omega (arith, walked.looked, looked, ap (λ (t : LinesTold). t.looks) whole),
    )

-- behind the last line
pub walk_ends : (catalog : BookSaid) (state now : State) (added rest : List (List Row)) (script : List ℕ) (from number : ℕ) (a b : Option (List ℕ)) (first looks : ℕ) (counts : Counts) → Walks catalog state added script from number a b now rest first looks counts
    → from ≡ length script → (said : List Reading) → AreReadings (lines script) said
    → Appends a b (lines_told catalog state 1 added said).text × (counts ≡ counts_told (lines_told catalog state 1 added said)) × (looks ≤ first + (lines_told catalog state 1 added said).looks)
walk_ends catalog state now added rest script from number a b first looks counts (walked, counted) end said all =
    let none : lines (drop from script) ≡ [] = ap lines (drop_all from script (omega (arith, end))) in
    let whole : lines script ≡ walked.texts = walked.cut ∙ ap (λ l. walked.texts ++ l) none ∙ append-nil walked.texts in
    let same : walked.said ≡ said = same_readings walked.reads (subst (λ (l : List (List ℕ)). AreReadings l said) whole all) in
    subst (λ (s : List Reading). Appends a b (lines_told catalog state 1 added s).text × (counts ≡ counts_told (lines_told catalog state 1 added s)) × (looks ≤ first + (lines_told catalog state 1 added s).looks)) same (walked.written, counted, walked.looked)
