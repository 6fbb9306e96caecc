-- What was written, one text after the other.
use Rattle.std.proofs.{Common.{◌≡◌, ◌∙◌, ◌<◌, ◌+◌, ◌++◌, ◌∷◌, [], ℕ, List, length, take, drop, get_or, Option, Some, None, Result, Ok, Err, IfOk, refl, sym, ap, subst, append_assoc, append-nil, take-append-drop, arith}, lemmas.List.{take_more, length-append}, lemmas.List.Concat.flat_map-append}
use Rattle.std.specs.{Prelude.IfErr, List.flat_map}
use Rattle.smk_model.specs.{Readings.Reading, Reports.{LinesTold, report_told, lines_told, script_told, report_of}, Values.Row, ViewTexts.views_text, Selection.each_rows, Session.Workbook}
use Rattle.smk_session.specs.Sessions.{SessionImage, state_of, workbook_of}
use Rattle.smk_outside.specs.Outside.{Appends, AppendsPart}
use Rattle.smk_inputs.specs.{declared.stop.Stop.Stop, declared.stop.Stop.TheVariants.{At, Unwritten, Exhausted}, Loaded.said_of}
use Rattle.smk_top.specs.{declared.counts.Counts.Counts, Counting.{counts_together, counts_told, counts_of, text_counted}, Writing.{Puts, PutsPieces}}

-- nothing, and one after the other
pub appends_none : (a : Option (List ℕ)) → Appends a a []
appends_none None = tt
appends_none (Some a) = sym (append-nil a)

pub appends_more : (a b c : Option (List ℕ)) (x y : List ℕ) → Appends a b x → Appends b c y → Appends a c (x ++ y)
appends_more None None None x y p q = tt
appends_more None None (Some c) x y p q = absurd q
appends_more (Some a) (Some b) None x y p q = absurd q
appends_more (Some a) (Some b) (Some c) x y p q = q ∙ rw p (append_assoc a x y)
appends_more _ _ c x y p q = absurd p

-- a prefix of the whole
pub front_of : (a b : Option (List ℕ)) (x rest whole : List ℕ) → Appends a b x → whole ≡ x ++ rest → AppendsPart a b whole
front_of a b x rest whole p is = (x, (rest, is), p)

front_more : (a b c : Option (List ℕ)) (x y rest whole : List ℕ) → Appends a b x → AppendsPart b c y → whole ≡ (x ++ y) ++ rest → AppendsPart a c whole
front_more a b c x y rest whole p q is =
    (x ++ q.0, (q.1.0 ++ rest, is ∙ ap (λ z. (x ++ z) ++ rest) q.1.1 ∙ regroup x q.0 q.1.0 rest), appends_more a b c x q.0 p q.2)
  where
    regroup : (x u v rest : List ℕ) → (x ++ (u ++ v)) ++ rest ≡ (x ++ u) ++ (v ++ rest)
    regroup x u v rest = simp append_assoc

-- the texts of the members, as far as the i-th
whole_is : {A : Type 0} (f : A → List ℕ) (xs : List A) (i : ℕ) → flat_map f xs ≡ flat_map f (take i xs) ++ flat_map f (drop i xs)
whole_is f xs i = sym (ap (flat_map f) (take-append-drop i xs)) ∙ flat_map-append f (take i xs) (drop i xs)

pub one_more : {A : Type 0} (f : A → List ℕ) (xs : List A) (i : ℕ) (x d : A) → i < length xs → x ≡ get_or xs i d → flat_map f (take (i + 1) xs) ≡ flat_map f (take i xs) ++ f x
one_more f xs i x d h is = rw (take_more xs i d h) (rw is (flat_map-append f (take i xs) (get_or xs i d ∷ []) ∙ ap (λ z. flat_map f (take i xs) ++ z) (append-nil (f (get_or xs i d)))))

-- stopped before the i-th member
pub want_here : {A : Type 0} (f : A → List ℕ) (xs : List A) (i : ℕ) (a b : Option (List ℕ)) → Appends a b (flat_map f (take i xs)) → AppendsPart a b (flat_map f xs)
want_here f xs i a b p = front_of a b (flat_map f (take i xs)) (flat_map f (drop i xs)) (flat_map f xs) p (whole_is f xs i)

-- stopped in the text of the i-th member
pub fails_here : (X : Type 0) {A : Type 0} (f : A → List ℕ) (xs : List A) (i : ℕ) (x d : A) (a b c : Option (List ℕ)) (rose_here rose : Type 0) (text : List ℕ) (stop : Stop)
    → i < length xs → x ≡ get_or xs i d → text ≡ f x → (rose_here → rose) → Appends a b (flat_map f (take i xs)) → Puts {X = X} text rose_here b c (Err stop)
    → PutsPieces {X = X} (flat_map f xs) rose a c (Err stop)
fails_here X f xs i x d a b c rose_here rose text Unwritten h is same wide p q =
    (front_more a b c (flat_map f (take i xs)) text (flat_map f (drop (i + 1) xs)) (flat_map f xs) p q.0 (whole_is f xs (i + 1) ∙ ap (λ z. z ++ flat_map f (drop (i + 1) xs)) (one_more f xs i x d h is ∙ ap (λ z. flat_map f (take i xs) ++ z) (sym same))), wide q.1)
fails_here X f xs i x d a b c rose_here rose text _ h is same wide p q = absurd q

part_more : (a b : Option (List ℕ)) (text rest whole : List ℕ) → whole ≡ text ++ rest → AppendsPart a b text → AppendsPart a b whole
part_more a b text rest whole is p = (p.0, (p.1.0 ++ rest, is ∙ rw p.1.1 (append_assoc p.0 p.1.0 rest)), p.2)

-- a stop in the first part of a text
pub first_stops : (X Y : Type 0) (a b : Option (List ℕ)) (rose : Type 0) (text rest whole : List ℕ) (stop : Stop) → whole ≡ text ++ rest → PutsPieces {X = X} text rose a b (Err stop) → PutsPieces {X = Y} whole rose a b (Err stop)
first_stops X Y a b rose text rest whole (At fault) is p = p
first_stops X Y a b rose text rest whole Unwritten is p = (part_more a b text rest whole is p.0, p.1)
first_stops X Y a b rose text rest whole Exhausted is p = part_more a b text rest whole is p

-- a stop in the part that follows what is written
pub next_stops : (X Y : Type 0) (a b c : Option (List ℕ)) (rose_here rose : Type 0) (text more rest whole : List ℕ) (stop : Stop) → whole ≡ (text ++ more) ++ rest → (rose_here → rose)
    → Appends a b text → PutsPieces {X = X} more rose_here b c (Err stop) → PutsPieces {X = Y} whole rose a c (Err stop)
next_stops X Y a b c rose_here rose text more rest whole (At fault) is wide p q = q
next_stops X Y a b c rose_here rose text more rest whole Unwritten is wide p q = (front_more a b c text more rest whole p q.0 is, wide q.1)
next_stops X Y a b c rose_here rose text more rest whole Exhausted is wide p q = front_more a b c text more rest whole p q is

-- the rest after the first part
pub then_rest : (X : Type 0) (a b c : Option (List ℕ)) (rose_here rose : Type 0) (text rest : List ℕ) (result : Result X Stop) → (rose_here → rose)
    → Appends a b text → PutsPieces rest rose_here b c result → PutsPieces (text ++ rest) rose a c result
then_rest X a b c rose_here rose text rest (Ok x) wide p q = appends_more a b c text rest p q
then_rest X a b c rose_here rose text rest (Err stop) wide p q = next_stops X X a b c rose_here rose text rest [] (text ++ rest) stop (sym (append-nil (text ++ rest))) wide p q

-- a stop before anything is written, and one in a text that is put at once
pub none_written : (a : Option (List ℕ)) (text : List ℕ) → AppendsPart a a text
none_written a text = ([], (text, refl), appends_none a)

pub put_stops : (X Y : Type 0) (a b : Option (List ℕ)) (rose : Type 0) (text whole : List ℕ) (stop : Stop) → text ≡ whole → Puts {X = X} text rose a b (Err stop) → PutsPieces {X = Y} whole rose a b (Err stop)
put_stops X Y a b rose text whole Unwritten is p = rw (← is) p
put_stops X Y a b rose text whole _ is p = absurd p

-- memory runs out
pub wants_stop : (X : Type 0) (a b : Option (List ℕ)) (rose : Type 0) (text : List ℕ) (stop : Stop) → stop ≡ Exhausted → AppendsPart a b text → PutsPieces {X = X} text rose a b (Err stop)
wants_stop X a b rose text stop is part = rw is part

-- both parts are written, and then memory may run out
pub whole_part : (X : Type 0) (a b c : Option (List ℕ)) (rose : Type 0) (text rest : List ℕ) (result : Result X Stop) → IfErr result (λ stop. stop ≡ Exhausted)
    → Appends a b text → Appends b c rest → PutsPieces (text ++ rest) rose a c result
whole_part X a b c rose text rest (Ok x) wants p q = appends_more a b c text rest p q
whole_part X a b c rose text rest (Err stop) wants p q = wants_stop X a c rose (text ++ rest) stop wants (front_of a c (text ++ rest) [] (text ++ rest) (appends_more a b c text rest p q) (sym (append-nil (text ++ rest))))

-- the counts of the views and of the lines are those of the report
pub report_counts : (book : Workbook) (told : LinesTold) (views lines : Counts) (result : Result Counts Stop) → views ≡ text_counted (views_text book) → lines ≡ counts_told told → IfOk result (λ both. both ≡ counts_together views lines)
    → IfOk result (λ counts. counts ≡ counts_of (report_told book told))
report_counts book told views lines (Ok both) e f g =
    g ∙ ap (λ k. counts_together k lines) e ∙ ap (counts_together (text_counted (views_text book))) f
    ∙ same _ _ _ _ _ _ _ _ (omega arith) (omega arith) (omega arith) (sym (length-append (views_text book) told.text))
  where
    same : (r r' f f' u u' n n' : ℕ) → r ≡ r' → f ≡ f' → u ≡ u' → n ≡ n' → ◌≡◌ {A = Counts} (record { replies = r; refused = f; unread = u; bytes = n }) (record { replies = r'; refused = f'; unread = u'; bytes = n' })
    same r r' f f' u u' n n' a b c d = rw (a, b, c, d) refl
report_counts book told views lines (Err stop) e f g = g

-- the lines of a session that begins
begun_told : (session : SessionImage) (fds : List (List ℕ)) (added : List (List Row)) (said : List Reading) → session.brushes ≡ [] → lines_told (said_of session.catalog fds) (state_of session) 1 added said ≡ script_told (workbook_of session) fds added said
begun_told session fds added said begun = ap (λ b. lines_told (said_of session.catalog fds) (record { tables = each_rows session.tables; brushes = b }) 1 added said) begun

pub then_lines : (X : Type 0) (session : SessionImage) (fds : List (List ℕ)) (added : List (List Row)) (said : List Reading) (a b c : Option (List ℕ)) (rose_here rose : Type 0) (result : Result X Stop) → session.brushes ≡ [] → (rose_here → rose)
    → Appends a b (views_text (workbook_of session)) → PutsPieces (lines_told (said_of session.catalog fds) (state_of session) 1 added said).text rose_here b c result → PutsPieces (report_of (workbook_of session) fds added said).text rose a c result
then_lines X session fds added said a b c rose_here rose result begun wide p q =
    then_rest X a b c rose_here rose (views_text (workbook_of session)) (script_told (workbook_of session) fds added said).text result wide p (subst (λ (t : LinesTold). PutsPieces t.text rose_here b c result) (begun_told session fds added said begun) q)
