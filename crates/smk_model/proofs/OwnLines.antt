-- What own lines leave as it is, and where they come to what a line of a script does.
use Rattle.std.specs.{Prelude.{◌&&◌, nat_eq, slice_index_or, Option, Some, None, ok_or, Ok, Err, codes}, List.{filter, list_any, list_all}}
use Rattle.std.proofs.{Common.{◌≡◌, ◌≤◌, ◌+◌, ℕ, Bool, true, false, List, [], ◌∷◌, length, ap, sym, ◌∙◌, refl, arith}, Math.Path.fun_ext, lemmas.List.{take_all, length-map}}
use Rattle.smk_base.specs.{CatalogImage.{CatalogImage, table_place}, Places.{upto, places, has}, Trees.{AskStepImage, AskImage, PlainLine, AskedLine}, declared.brush.BrushOn.BrushOn, declared.book.tree.Line.Line, declared.reply.AskReply.AskReply, declared.reply.Refusal.Refusal, declared.reply.Refusal.TheVariants.{Undeclared, UnknownTable}, declared.reply.Reply.Reply}
use Rattle.smk_base.specs.declared.book.tree.Line.TheVariants as lines
use Rattle.smk_base.specs.declared.book.tree.Then.TheVariants as thens
use Rattle.smk_base.specs.declared.reply.AskReply.TheVariants as answers
use Rattle.smk_base.specs.declared.reply.Reply.TheVariants as replies
use Rattle.smk_model.specs.{Annotated.relates, Asks.{AskPlan, typed_steps, columns_named, back_line, ask_over, steps_reply, is_ask_refused}, AskTexts.ask_text, Catalogs.table_kinds, Lineage.row_at, Looks.{looks_of_rows, line_looks}, Names.{Typed, ◌>>=◌}, OwnAnswers.{among_selected, narrowed_reply, reply_part, selected_on, selected_ask, selected_reply, reply_or_refusal, rows_answered, steps_answered, own_answered}, OwnLineLaws.{OwnLinesStay, NowIsPlain, AllAreSelected, WholePartIsPlain, IsUnbrushed, is_brief, reply_rows, ask_rows, selected_rows, part_to}, OwnLines.{RowsPart, OwnLine, Selected, Narrowed, NarrowedAsk, Brief, has_rows, has_rows_behind}, OwnTexts.{part_of, part_from, view_columns, table_columns, numbered_text, placed_text, narrowed_text, stepped_text, selected_words, selected_text}, Plain.whole, Replies.{Asked, provided, unless_row, first_outside, written, marked, known_view, known_pair, content_of, rids_back, rids_of, rows_reply, rows_at_rids, split_column, is_of_column, with_value, back_reply, named_view, named_back, staying, or_refused, reply, is_refused}, ReplyTexts.{view_in, table_in, reply_text}, Reports.{BookSaid, Answered, answered}, Session.{State, concerns, view_at, rows_of_table, first_content, selected_for}, Texts.{rows_text, view_words, back_words, ask_words}, Typing.info_at, Values.Row, Workload.declares_back}
use Rattle.smk_base.proofs.Places.{filter_filter, same_below, has_upto, map_upto}
use Rattle.smk_model.proofs.{Keyed.none_pass, Selections.filter-true}

-- the state, and refusals

own_stays : (said : BookSaid) (state : State) (own : OwnLine) → is_brief own ≡ false → (own_answered said state own).next ≡ state
own_stays said state (Selected part table []) h = refl
own_stays said state (Selected part table (step ∷ steps)) h = refl
own_stays said state (Brief asked) h = absurd (cc)
own_stays said state _ h = refl

among_refused : (catalog : CatalogImage) (state : State) (asked : Asked (ℕ × ℕ)) (told : Reply) → is_refused (among_selected catalog state asked told) ≡ is_refused told
among_refused catalog state (Ok p) (replies.Back rids rows) = refl
among_refused catalog state _ told = refl

steps_refused : (typed : Typed AskPlan) (rows other : List Row) → is_ask_refused (steps_reply typed rows) ≡ is_ask_refused (steps_reply typed other)
steps_refused (Ok plan) rows other = refl
steps_refused (Err fault) rows other = refl

among_ask_refused : (catalog : CatalogImage) (state : State) (line : AskImage) (asked : Asked (ℕ × ℕ)) (told : Reply)
    → is_ask_refused (ask_over catalog line (among_selected catalog state asked told)) ≡ is_ask_refused (ask_over catalog line told)
among_ask_refused catalog state line (Ok p) (replies.Back rids rows) =
    steps_refused (typed_steps (columns_named catalog line.table) line.steps) (rows_at_rids catalog state p.1 (filter (has (selected_for catalog state p.0 p.1)) rids)).rows rows.rows
among_ask_refused catalog state line _ told = refl

narrowed_refused : (said : BookSaid) (state : State) (part : Option RowsPart) (now : Bool) (asked : Line) → is_refused (narrowed_reply said.catalog state now asked) ≡ is_refused (reply said.catalog state asked).0
narrowed_refused said state part false asked = refl
narrowed_refused said state part true asked = among_refused said.catalog state (known_pair said.catalog (view_in asked) (table_in asked)) (reply said.catalog state asked).0

narrowed_ask_refused : (said : BookSaid) (state : State) (part : Option RowsPart) (now : Bool) (asked : AskImage)
    → is_ask_refused (ask_over said.catalog asked (narrowed_reply said.catalog state now (back_line asked))) ≡ is_ask_refused (ask_over said.catalog asked (reply said.catalog state (back_line asked)).0)
narrowed_ask_refused said state part false asked = refl
narrowed_ask_refused said state part true asked = among_ask_refused said.catalog state asked (known_pair said.catalog asked.view asked.table) (reply said.catalog state (back_line asked)).0

pub own_lines_stay : OwnLinesStay
own_lines_stay = record {
  stays = own_stays;
  moves = λ said state asked. refl;
  profiles = λ said state view. refl;
  brief_refused = λ said state asked. refl;
  brief_profile_refused = λ said state view. refl;
  narrowed_refused = narrowed_refused;
  narrowed_ask_refused = narrowed_ask_refused;
}

-- all of an answer

-- the same answer but for its text, its looks and its state
abbrev answer_of : List ℕ → Bool → ℕ → State → Answered
answer_of text refused looks next = record { text = text; refused = refused; looks = looks; next = next }

alike : {text other : List ℕ} {looks few : ℕ} {state next : State} (refused : Bool) → text ≡ other → looks ≡ few → state ≡ next → answer_of text refused looks state ≡ answer_of other refused few next
alike refused e f g = cc

-- a part that is all of a list, from its first member on
abbrev IsAll : {A : Type 0} → Option RowsPart → List A → Type 0
IsAll part xs = (part_from part ≡ 0) × (part_of part xs ≡ xs)

none_is_all : {A : Type 0} (xs : List A) → IsAll None xs
none_is_all xs = (refl, refl)

whole_is_all : {A : Type 0} (below : ℕ) (xs : List A) → length xs ≤ below → IsAll (part_to below) xs
whole_is_all below xs h = (refl, take_all below xs h)

numbered : (part : Option RowsPart) (words columns : List (List ℕ)) (rows : List Row) → IsAll part rows → numbered_text part words columns rows ≡ rows_text words (length rows) (codes "row" ∷ columns) (λ i. i) rows
numbered part words columns rows h =
    let from : (λ (i : ℕ). part_from part + i) ≡ (λ (i : ℕ). i) = fun_ext (λ i. let zero_first : 0 + i ≡ i = omega arith in ap (λ n. n + i) h.0 ∙ zero_first) in
    ap (λ l. rows_text words (length rows) (codes "row" ∷ columns) (λ i. part_from part + i) l) h.1 ∙ ap (λ number. rows_text words (length rows) (codes "row" ∷ columns) number rows) from

placed : (part : Option RowsPart) (words columns : List (List ℕ)) (rids : List ℕ) (rows : List Row) → IsAll part rids → IsAll part rows → placed_text part words columns rids rows ≡ placed_text None words columns rids rows
placed part words columns rids rows g h =
    ap (λ l. rows_text words (length rows) (codes "rid" ∷ columns) (λ i. slice_index_or (part_of part rids) i 0) l) h.1
    ∙ ap (λ l. rows_text words (length rows) (codes "rid" ∷ columns) (λ i. slice_index_or l i 0) rows) g.1

-- a part that is all of a reply
abbrev IsAllOf : Option RowsPart → Reply → Type 0
IsAllOf part (replies.View rel) = IsAll part rel.rows
IsAllOf part (replies.Back rids rows) = IsAll part rids × IsAll part rows.rows
IsAllOf part _ = Unit {0}

all_text : (catalog : CatalogImage) (part : Option RowsPart) (asked : Line) (told : Reply) → IsAllOf part told → narrowed_text catalog part asked told ≡ reply_text catalog asked told
all_text catalog part asked (replies.View rel) h = numbered part (view_words (view_in asked)) (view_columns catalog (view_in asked)) rel.rows h
all_text catalog part asked (replies.Back rids rows) h = placed part (back_words (view_in asked) (table_in asked)) (table_columns catalog (table_in asked)) rids rows.rows h.0 h.1
all_text catalog part asked _ h = refl

all_looks : (part : Option RowsPart) (told : Reply) → IsAllOf part told → looks_of_rows (reply_part part told) ≡ looks_of_rows told
all_looks part (replies.Back rids rows) h = ap length h.0.1
all_looks part _ h = refl

all_selected_text : (catalog : CatalogImage) (part : Option RowsPart) (asked : Line) (told : Reply) → IsAllOf part told → selected_text catalog part asked told ≡ selected_text catalog None asked told
all_selected_text catalog part asked (replies.Back rids rows) h = placed part (selected_words (table_in asked)) (table_columns catalog (table_in asked)) rids rows.rows h.0 h.1
all_selected_text catalog part asked _ h = refl

abbrev IsAllOfAsk : Option RowsPart → AskReply → Type 0
IsAllOfAsk part (answers.Rows names rel) = IsAll part rel.rows
IsAllOfAsk part (answers.Refused refusal) = Unit {0}

all_steps_text : (part : Option RowsPart) (words : List (List ℕ)) (asked : AskImage) (told : AskReply) → IsAllOfAsk part told → stepped_text part words asked told ≡ stepped_text None words asked told
all_steps_text part words asked (answers.Rows names rel) h = numbered part words names rel.rows h ∙ sym (numbered None words names rel.rows (none_is_all rel.rows))
all_steps_text part words asked (answers.Refused refusal) h = refl

all_ask_text : (asked : AskImage) (told : AskReply) → stepped_text None (ask_words asked.view asked.table) asked told ≡ ask_text asked told
all_ask_text asked (answers.Rows names rel) = numbered None (ask_words asked.view asked.table) names rel.rows (none_is_all rel.rows)
all_ask_text asked (answers.Refused refusal) = refl

none_is_all_of : (told : Reply) → IsAllOf None told
none_is_all_of (replies.View rel) = none_is_all rel.rows
none_is_all_of (replies.Back rids rows) = (none_is_all rids, none_is_all rows.rows)
none_is_all_of _ = tt

-- what a line gives by itself

stays_next : (state : State) (asked : Asked Reply) → (or_refused state (staying state asked)).1 ≡ state
stays_next state (Ok told) = refl
stays_next state (Err refusal) = refl

-- a view is shown without a look
show_looks : (catalog : CatalogImage) (state : State) (asked : Asked ℕ) → looks_of_rows (or_refused state (staying state (asked >>= λ v. Ok (replies.View (content_of catalog state v))))).0 ≡ 0
show_looks catalog state (Ok v) = refl
show_looks catalog state (Err refusal) = refl

by_itself : (said : BookSaid) (state : State) (asked : Line) → looks_of_rows (reply said.catalog state asked).0 ≡ line_looks said.catalog state asked → (reply said.catalog state asked).1 ≡ state
    → own_answered said state (Narrowed None false asked) ≡ answered said state [] (PlainLine asked)
by_itself said state asked looks next =
    let told = (reply said.catalog state asked).0 in
    alike (is_refused told) (all_text said.catalog None asked told (none_is_all_of told)) (all_looks None told (none_is_all_of told) ∙ looks) (sym next)

all_line : (said : BookSaid) (state : State) (asked : Line) → has_rows asked ≡ true → own_answered said state (Narrowed None false asked) ≡ answered said state [] (PlainLine asked)
all_line said state (lines.Show view) h = by_itself said state (lines.Show view) (show_looks said.catalog state (known_view said.catalog view)) (stays_next state (named_view said.catalog state view))
all_line said state (lines.Back view marks table then) h = by_itself said state (lines.Back view marks table then) refl (stays_next state (named_back said.catalog state view marks table then))
all_line said state _ h = absurd (cc)

all_asked : (said : BookSaid) (state : State) (asked : AskImage) → own_answered said state (NarrowedAsk None false asked) ≡ answered said state [] (AskedLine asked)
all_asked said state asked = let told = ask_over said.catalog asked (reply said.catalog state (back_line asked)).0 in alike (is_ask_refused told) (all_ask_text asked told) refl refl

-- the rows that a reply has, with their rids

-- rows that are as many as their rids
abbrev AreAligned : Reply → Type 0
AreAligned (replies.Back rids rows) = length rids ≡ length rows.rows
AreAligned _ = Unit {0}

abbrev Aligned : Asked Reply → Type 0
Aligned (Ok told) = AreAligned told
Aligned (Err refusal) = Unit {0}

rows_aligned : (catalog : CatalogImage) (state : State) (t : ℕ) (rids : List ℕ) → AreAligned (rows_reply catalog state t rids)
rows_aligned catalog state t rids = sym (length-map rids (row_at (rows_of_table state t)))

next_aligned : {A : Type 0} (asked : Asked A) (next : A → Asked Reply) → ((a : A) → Aligned (next a)) → Aligned (asked >>= next)
next_aligned (Ok a) next h = h a
next_aligned (Err refusal) next h = tt

provided_aligned : (holds : Bool) (refusal : Refusal) (asked : Asked Reply) → Aligned asked → Aligned (provided holds refusal asked)
provided_aligned true refusal asked h = h
provided_aligned false refusal asked h = tt

told_aligned : (state : State) (asked : Asked Reply) → Aligned asked → AreAligned (or_refused state (staying state asked)).0
told_aligned state (Ok told) h = h
told_aligned state (Err refusal) h = tt

reply_aligned : (catalog : CatalogImage) (state : State) (asked : Line) → has_rows asked ≡ true → AreAligned (reply catalog state asked).0
reply_aligned catalog state (lines.Show view) h = told_aligned state (named_view catalog state view) (next_aligned (known_view catalog view) _ (λ v. tt))
reply_aligned catalog state (lines.Back view marks table thens.Plain) h =
    told_aligned state (named_back catalog state view marks table thens.Plain) (next_aligned (known_pair catalog view table) _ (λ p.
    provided_aligned (declares_back catalog p.0 p.1) Undeclared (back_reply catalog state p.0 p.1 marks thens.Plain) (next_aligned (rids_of catalog state p.0 p.1 marks) _ (λ rids.
    rows_aligned catalog state p.1 rids))))
reply_aligned catalog state (lines.Back view marks table (thens.Matching column value)) h =
    told_aligned state (named_back catalog state view marks table (thens.Matching column value)) (next_aligned (known_pair catalog view table) _ (λ p.
    provided_aligned (declares_back catalog p.0 p.1) Undeclared (back_reply catalog state p.0 p.1 marks (thens.Matching column value)) (next_aligned (split_column catalog p.0 p.1 column) _ (λ c.
    provided_aligned (is_of_column catalog p.1 c value) _ _ (next_aligned (rids_of catalog state p.0 p.1 marks) _ (λ rids.
    rows_aligned catalog state p.1 (with_value (rows_of_table state p.1) c value rids)))))))
reply_aligned catalog state _ h = absurd (cc)

among_aligned : (catalog : CatalogImage) (state : State) (asked : Asked (ℕ × ℕ)) (told : Reply) → AreAligned told → AreAligned (among_selected catalog state asked told)
among_aligned catalog state (Ok p) (replies.Back rids rows) h = rows_aligned catalog state p.1 (filter (has (selected_for catalog state p.0 p.1)) rids)
among_aligned catalog state _ told h = h

narrowed_aligned : (catalog : CatalogImage) (state : State) (now : Bool) (asked : Line) → has_rows asked ≡ true → AreAligned (narrowed_reply catalog state now asked)
narrowed_aligned catalog state false asked h = reply_aligned catalog state asked h
narrowed_aligned catalog state true asked h = among_aligned catalog state (known_pair catalog (view_in asked) (table_in asked)) (reply catalog state asked).0 (reply_aligned catalog state asked h)

whole_is_all_of : (below : ℕ) (told : Reply) → AreAligned told → reply_rows told ≤ below → IsAllOf (part_to below) told
whole_is_all_of below (replies.View rel) same h = whole_is_all below rel.rows h
whole_is_all_of below (replies.Back rids rows) same h = (whole_is_all below rids h, whole_is_all below rows.rows (omega (arith, same, h)))
whole_is_all_of below _ same h = tt

whole_is_all_of_ask : (below : ℕ) (told : AskReply) → ask_rows told ≤ below → IsAllOfAsk (part_to below) told
whole_is_all_of_ask below (answers.Rows names rel) h = whole_is_all below rel.rows h
whole_is_all_of_ask below (answers.Refused refusal) h = tt

whole_line : (said : BookSaid) (state : State) (now : Bool) (asked : Line) (below : ℕ) → has_rows asked ≡ true → reply_rows (narrowed_reply said.catalog state now asked) ≤ below
    → own_answered said state (Narrowed (part_to below) now asked) ≡ own_answered said state (Narrowed None now asked)
whole_line said state now asked below has h =
    let told = narrowed_reply said.catalog state now asked in
    let all = whole_is_all_of below told (narrowed_aligned said.catalog state now asked has) h in
    alike (is_refused told) (all_text said.catalog (part_to below) asked told all ∙ sym (all_text said.catalog None asked told (none_is_all_of told))) (all_looks (part_to below) told all ∙ sym (all_looks None told (none_is_all_of told))) refl

whole_ask : (said : BookSaid) (state : State) (now : Bool) (asked : AskImage) (below : ℕ) → ask_rows (ask_over said.catalog asked (narrowed_reply said.catalog state now (back_line asked))) ≤ below
    → own_answered said state (NarrowedAsk (part_to below) now asked) ≡ own_answered said state (NarrowedAsk None now asked)
whole_ask said state now asked below h =
    let told = ask_over said.catalog asked (narrowed_reply said.catalog state now (back_line asked)) in
    alike (is_ask_refused told) (all_steps_text (part_to below) (ask_words asked.view asked.table) asked told (whole_is_all_of_ask below told h)) refl refl

selected_aligned : (catalog : CatalogImage) (state : State) (table : Asked ℕ) → AreAligned (reply_or_refusal (table >>= λ t. Ok (rows_reply catalog state t (selected_on state t))))
selected_aligned catalog state (Ok t) = rows_aligned catalog state t (selected_on state t)
selected_aligned catalog state (Err refusal) = tt

whole_selected : (said : BookSaid) (state : State) (table : List ℕ) (steps : List AskStepImage) (below : ℕ) → selected_rows said.catalog state table steps ≤ below
    → own_answered said state (Selected (part_to below) table steps) ≡ own_answered said state (Selected None table steps)
whole_selected said state table [] below h =
    let told = selected_reply said.catalog state table in
    let all = whole_is_all_of below told (selected_aligned said.catalog state (ok_or (table_place said.catalog table) UnknownTable)) h in
    alike (is_refused told) (all_selected_text said.catalog (part_to below) (back_line (selected_ask table [])) told all) (all_looks (part_to below) told all ∙ sym (all_looks None told (none_is_all_of told))) refl
whole_selected said state table (step ∷ steps) below h =
    let told = ask_over said.catalog (selected_ask table (step ∷ steps)) (selected_reply said.catalog state table) in
    alike (is_ask_refused told) (all_steps_text (part_to below) (selected_words table) (selected_ask table (step ∷ steps)) told (whole_is_all_of_ask below told h)) refl refl

pub whole_part_is_plain : WholePartIsPlain
whole_part_is_plain = record {
  line = whole_line;
  ask = whole_ask;
  selected = whole_selected;
  all = all_line;
  all_asked = all_asked;
}

-- rows that all brushes select

-- without a brush that passes, all places are those that each such brush has
unbrushed : (test : BrushOn → Bool) (brushes : List BrushOn) (n : ℕ) → list_any test brushes ≡ false
    → places (λ rid. list_all (λ (brush : BrushOn). has brush.rids rid) (filter test brushes)) n ≡ upto n
unbrushed test brushes n h = ap (λ (l : List BrushOn). places (λ rid. list_all (λ (brush : BrushOn). has brush.rids rid) l) n) (none_pass test brushes h) ∙ filter-true (upto n)

-- and those among some places are these
among_all : (test : ℕ → Bool) (n : ℕ) → filter (has (upto n)) (places test n) ≡ places test n
among_all test n = filter_filter (has (upto n)) test (upto n) ∙ same_below (λ i. test i && has (upto n) i) test n (λ i low. both (test i) (has (upto n) i) (has_upto n i low))
  where
    both : (a b : Bool) → b ≡ true → (a && b) ≡ a
    both true b e = e
    both false b e = refl

rids_kept : (catalog : CatalogImage) (state : State) (v t : ℕ) (O : List ℕ) → list_any (concerns catalog v t) state.brushes ≡ false
    → filter (has (selected_for catalog state v t)) (rids_back catalog state v t O) ≡ rids_back catalog state v t O
rids_kept catalog state v t O h =
    let n = length (rows_of_table state t) in
    ap (λ (l : List ℕ). filter (has l) (rids_back catalog state v t O)) (unbrushed (concerns catalog v t) state.brushes n h)
    ∙ among_all (λ rid. list_any (λ o. relates (view_at catalog v).plan (whole (view_at catalog v).plan state.tables) t o rid) O) n

now_reply : (catalog : CatalogImage) (state : State) (asked : Line) → has_rows_behind asked ≡ true → IsUnbrushed catalog state asked → narrowed_reply catalog state true asked ≡ (reply catalog state asked).0
now_reply catalog state (lines.Back view marks table thens.Plain) h free = by (known_pair catalog view table) refl
  where
    outside : (v t n : ℕ) (row : Option ℕ) (O : List ℕ) → list_any (concerns catalog v t) state.brushes ≡ false
        → among_selected catalog state (Ok (v, t)) (or_refused state (staying state (unless_row row n (Ok (rids_back catalog state v t O)) >>= λ rids. Ok (rows_reply catalog state t rids)))).0
        ≡ (or_refused state (staying state (unless_row row n (Ok (rids_back catalog state v t O)) >>= λ rids. Ok (rows_reply catalog state t rids)))).0
    outside v t n (Some row) O none = refl
    outside v t n None O none = ap (rows_reply catalog state t) (rids_kept catalog state v t O none)

    declared : (v t : ℕ) (holds : Bool) (asked : Asked Reply) → among_selected catalog state (Ok (v, t)) (or_refused state (staying state asked)).0 ≡ (or_refused state (staying state asked)).0
        → among_selected catalog state (Ok (v, t)) (or_refused state (staying state (provided holds Undeclared asked))).0 ≡ (or_refused state (staying state (provided holds Undeclared asked))).0
    declared v t true asked same = same
    declared v t false asked same = refl

    by : (p : Asked (ℕ × ℕ)) → known_pair catalog view table ≡ p
        → among_selected catalog state p (or_refused state (staying state (p >>= λ p. provided (declares_back catalog p.0 p.1) Undeclared (back_reply catalog state p.0 p.1 marks thens.Plain)))).0
        ≡ (or_refused state (staying state (p >>= λ p. provided (declares_back catalog p.0 p.1) Undeclared (back_reply catalog state p.0 p.1 marks thens.Plain)))).0
    by (Ok (v, t)) e =
        let n = length (first_content catalog state v) in
        declared v t (declares_back catalog v t) (back_reply catalog state v t marks thens.Plain) (outside v t n (first_outside (written marks) n) (marked marks n) (free v t e))
    by (Err refusal) e = refl
now_reply catalog state _ h free = absurd (cc)

now_back : (said : BookSaid) (state : State) (asked : Line) → has_rows_behind asked ≡ true → IsUnbrushed said.catalog state asked
    → own_answered said state (Narrowed None true asked) ≡ own_answered said state (Narrowed None false asked)
now_back said state asked h free = ap (λ told. rows_answered state (narrowed_text said.catalog None asked told) told (reply_part None told)) (now_reply said.catalog state asked h free)

behind_has_rows : (asked : Line) → has_rows_behind asked ≡ true → has_rows asked ≡ true
behind_has_rows (lines.Back view marks table thens.Plain) h = refl
behind_has_rows _ h = absurd (cc)

now_ask : (said : BookSaid) (state : State) (asked : AskImage) → IsUnbrushed said.catalog state (back_line asked) → own_answered said state (NarrowedAsk None true asked) ≡ own_answered said state (NarrowedAsk None false asked)
now_ask said state asked free =
    ap (λ rows. steps_answered state (stepped_text None (ask_words asked.view asked.table) asked (ask_over said.catalog asked rows)) (ask_over said.catalog asked rows) rows) (now_reply said.catalog state (back_line asked) refl free)

pub now_is_plain : NowIsPlain
now_is_plain = record {
  reply = now_reply;
  back = λ said state asked h free. now_back said state asked h free ∙ all_line said state asked (behind_has_rows asked h);
  ask = λ said state asked free. now_ask said state asked free ∙ all_asked said state asked;
}

all_on : (state : State) (t : ℕ) → list_any (λ (brush : BrushOn). nat_eq brush.table t) state.brushes ≡ false → selected_on state t ≡ upto (length (rows_of_table state t))
all_on state t h = unbrushed (λ (brush : BrushOn). nat_eq brush.table t) state.brushes (length (rows_of_table state t)) h

pub all_are_selected : AllAreSelected
all_are_selected = record {
  all = λ catalog state table t known h.
      ap (λ (place : Option ℕ). reply_or_refusal (ok_or place UnknownTable >>= λ t. Ok (rows_reply catalog state t (selected_on state t)))) known
      ∙ ap (rows_reply catalog state t) (all_on state t h)
      ∙ ap (λ rows. replies.Back (upto (length (rows_of_table state t))) (record { kinds = table_kinds (info_at catalog.tables t); rows = rows })) (map_upto (rows_of_table state t) []);
}
