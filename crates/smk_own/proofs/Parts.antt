-- Parts of rows, and what a line gives over the rows that its marks came from.
use Rattle.std.specs.{Prelude.{◌<◌, ◌-◌, min, map, take, drop, slice_index_or, cond, Option, Some, None, Result, Ok, Err, IfOk, codes, decimal}, List.{filter, AllPairs}}
use Rattle.std.proofs.{Common.{◌≡◌, ◌≤◌, ◌+◌, ℕ, Bool, true, false, List, [], ◌∷◌, ◌++◌, length, ap, sym, ◌∙◌, subst, refl, arith, inl, inr}, lemmas.Bool.cases_lt, lemmas.List.{take_all, take_min, take-map, drop-map, drop-take, drop_all, drop_min, length-drop, length-take, length-map, get_or-take, get_or-drop, get_or_default}, lemmas.List.Elements.{All-take, All-drop, All-filter}, lemmas.List.Kept.AllPairs-filter}
use Rattle.smk_base.specs.{CatalogImage.CatalogImage, Picks.IsAscending, Places.{upto, has}, Trees.AskImage, declared.book.catalog.Column.Column, declared.book.catalog.TableInfo.TableInfo, declared.book.tree.Line.Line, declared.book.tree.Marks.Marks, declared.book.tree.Then.Then, declared.reply.Refusal.Refusal, Rels.Relation}
use Rattle.smk_base.specs.declared.book.tree.Line.TheVariants as lines
use Rattle.smk_base.specs.declared.reply.Reply.TheVariants as replies
use Rattle.smk_model.specs.{Catalogs.IsCatalog, AskTexts.IsAskReplyTo, Asks.{AskPlan, ask_over, back_line, columns_found, columns_named, steps_reply, typed_steps}, Lineage.{row_at, sub}, Names.Typed, OwnAnswers.{among_selected, narrowed_answered, narrowed_reply}, OwnLines.RowsPart, OwnTexts.{part_of, narrowed_text, numbered_text, placed_text}, Replies.{Asked, is_refused, known_pair, rows_reply, rows_at_rids, reply}, ReplyTexts.{table_named, names_of_table, IsContent, IsRefusalOf, IsReplyTo}, Session.{State, rows_of_table}, Texts.{back_words, rows_text, row_lines, line, record_line}, Typing.{columns_of, info_at}, Values.Row}
use Rattle.smk_model.proofs.{AsksFit.asks_fit, RepliesFit.{Fares, IsPair, pair_fares, replies_fit, table_found}, Selections.filter-true, Pairs.filter_le}
use Rattle.smk_base.proofs.Places.{length_upto, get_or_upto}
use Rattle.smk_rid.proofs.{Intersecting.common_turned, Rising.ascending_places}
use Rattle.smk_session.specs.{Behind.{IsBehind, RidsFit}, declared.answer.rows_behind.RowsBehind.RowsBehind}
use Rattle.smk_own.specs.{Answering.{IsOwnAnswer, rids_told}, Image.span_of, declared.answer.OwnAnswer.OwnAnswer}
use Rattle.smk_own.proofs.Tallies.{stretch}

-- parts

-- what a part has of so many members stands at its span
pub at_span : {A : Type 0} (part : Option RowsPart) (xs : List A) (n : ℕ) → length xs ≡ n → take (span_of part n).1 (drop (span_of part n).0 xs) ≡ part_of part xs
at_span None xs n long = take_all n xs (omega (arith, long))
at_span (Some part) xs n long =
    let same : drop (min part.from n) xs ≡ drop part.from xs = ap (λ m. drop (min part.from m) xs) (sym long) ∙ drop_min part.from xs in
    let rest = length-drop part.from xs in
    let few : min (part.below - part.from) (length (drop part.from xs)) ≡ min part.below n - min part.from n = omega (arith, rest, long) in
    ap (take (min part.below n - min part.from n)) same ∙ ap (λ m. take m (drop part.from xs)) (sym few) ∙ take_min (part.below - part.from) (drop part.from xs) ∙ sym (dropped part.from part.below xs)
  where
    dropped : {A : Type 0} (from below : ℕ) (xs : List A) → drop from (take below xs) ≡ take (below - from) (drop from xs)
    dropped from below xs = elim (cases_lt below from) [
      | inl high ↦ (
          let none : below - from ≡ 0 = omega (arith, high) in
          let taken = length-take below xs in
          drop_all from (take below xs) (omega (arith, taken, high)) ∙ ap (λ m. take m (drop from xs)) (sym none)
          )
      | inr low ↦ (let e : from + (below - from) ≡ below = omega (arith, low) in ap (λ m. drop from (take m xs)) (sym e) ∙ drop-take from (below - from) xs)
    ]

pub map_part : {A B : Type 0} (f : A → B) (part : Option RowsPart) (xs : List A) → part_of part (map f xs) ≡ map f (part_of part xs)
map_part f None xs = refl
map_part f (Some part) xs = ap (drop part.from) (take-map f part.below xs) ∙ drop-map f part.from (take part.below xs)

-- the records of a part of numbered rows
pub numbered_part : (part : Option RowsPart) (words columns : List (List ℕ)) (rows : List Row)
    → rows_text words (length rows) (codes "row" ∷ columns) (λ i. (span_of part (length rows)).0 + i) (part_of part rows) ≡ numbered_text part words columns rows
numbered_part None words columns rows = refl
numbered_part (Some part) words columns rows = elim (cases_lt (length rows) part.from) [
  | inl high ↦ (
      let taken = length-take part.below rows in
      let none : part_of (Some part) rows ≡ [] = drop_all part.from (take part.below rows) (omega (arith, taken, high)) in
      rw none refl
      )
  | inr low ↦ (let e : min part.from (length rows) ≡ part.from = omega (arith, low) in ap (λ m. rows_text words (length rows) (codes "row" ∷ columns) (λ i. m + i) (part_of (Some part) rows)) e)
]

-- the records of a part of rows of a table
pub placed_part : (part : Option RowsPart) (words columns : List (List ℕ)) (state : State) (t : ℕ) (rids : List ℕ)
    → rows_text words (length rids) (codes "rid" ∷ columns) (λ i. slice_index_or (part_of part rids) i 0) (sub (rows_of_table state t) (part_of part rids)) ≡ placed_text part words columns rids (sub (rows_of_table state t) rids)
placed_part part words columns state t rids =
    let count : length rids ≡ length (sub (rows_of_table state t) rids) = sym (length-map rids (row_at (rows_of_table state t))) in
    ap (λ rows. rows_text words (length rids) (codes "rid" ∷ columns) (λ i. slice_index_or (part_of part rids) i 0) rows) (sym (map_part (row_at (rows_of_table state t)) part rids))
    ∙ ap (λ n. rows_text words n (codes "rid" ∷ columns) (λ i. slice_index_or (part_of part rids) i 0) (part_of part (sub (rows_of_table state t) rids))) count

pub numbered_said : (part : Option RowsPart) (words columns : List (List ℕ)) (rows : List Row) (n : ℕ) (span : ℕ × ℕ) (front text : List ℕ) → n ≡ length rows → span ≡ span_of part n
    → front ≡ line (words ++ decimal n ∷ []) → text ≡ front ++ record_line (codes "row" ∷ columns) ++ row_lines (λ k. span.0 + k) (take span.1 (drop span.0 rows)) → text ≡ numbered_text part words columns rows
numbered_said part words columns rows n span front text is at heading says =
    says
    ∙ ap (λ f. f ++ record_line (codes "row" ∷ columns) ++ row_lines (λ k. span.0 + k) (take span.1 (drop span.0 rows))) heading
    ∙ ap (λ (s : ℕ × ℕ). rows_text words n (codes "row" ∷ columns) (λ k. s.0 + k) (take s.1 (drop s.0 rows))) at
    ∙ ap (rows_text words n (codes "row" ∷ columns) (λ k. (span_of part n).0 + k)) (at_span part rows n (sym is))
    ∙ ap (λ m. rows_text words m (codes "row" ∷ columns) (λ k. (span_of part m).0 + k) (part_of part rows)) is
    ∙ numbered_part part words columns rows

pub placed_said : (part : Option RowsPart) (words columns : List (List ℕ)) (state : State) (t : ℕ) (rids printed text : List ℕ) → printed ≡ part_of part rids
    → text ≡ rows_text words (length rids) (codes "rid" ∷ columns) (λ i. slice_index_or printed i 0) (sub (rows_of_table state t) printed)
    → text ≡ placed_text part words columns rids (sub (rows_of_table state t) rids)
placed_said part words columns state t rids printed text is says =
    says
    ∙ ap (λ p. rows_text words (length rids) (codes "rid" ∷ columns) (λ i. slice_index_or p i 0) (sub (rows_of_table state t) p)) is
    ∙ placed_part part words columns state t rids

-- what is so of a value, by what is
pub if_ok : {A E : Type 0} {P Q : A → Type 0} (result : Result A E) → IfOk result P → ((a : A) → P a → Q a) → IfOk result Q
if_ok (Ok a) held next = next a held
if_ok (Err e) held next = tt

-- rids of so many rows

rise : (xs : List ℕ) → IsAscending xs → AllPairs (λ x y. x < y) xs
rise xs up i j d less low = rw (get_or_default xs i d 0 (omega (arith, less, low)), get_or_default xs j d 0 low) (up i j less low)

pub filtered_fit : (test : ℕ → Bool) (n : ℕ) (rids : List ℕ) → RidsFit n rids → RidsFit n (filter test rids)
filtered_fit test n rids fit = record {
  ascending = λ i j less low. AllPairs-filter (λ x y. x < y) test rids (rise rids fit.ascending) i j 0 less low;
  inside = All-filter test (λ rid. rid < n) rids fit.inside;
}

taken_rise : (m : ℕ) (xs : List ℕ) → IsAscending xs → IsAscending (take m xs)
taken_rise m xs up i j less low =
    let long = length-take m xs in
    rw (get_or-take m xs i 0 (omega (arith, long, less, low)), get_or-take m xs j 0 (omega (arith, long, low))) (up i j less (omega (arith, long, low)))

dropped_rise : (m : ℕ) (xs : List ℕ) → IsAscending xs → IsAscending (drop m xs)
dropped_rise m xs up i j less low =
    let long = length-drop m xs in
    rw (get_or-drop m xs i 0, get_or-drop m xs j 0) (up (m + i) (m + j) (omega (arith, less)) (omega (arith, long, low)))

pub part_fits : (part : Option RowsPart) (n : ℕ) (rids : List ℕ) → RidsFit n rids → RidsFit n (part_of part rids)
part_fits None n rids fit = fit
part_fits (Some part) n rids fit = record {
  ascending = dropped_rise part.from (take part.below rids) (taken_rise part.below rids fit.ascending);
  inside = All-drop (λ rid. rid < n) part.from (take part.below rids) (All-take (λ rid. rid < n) part.below rids fit.inside);
}

pub few_fit : (n : ℕ) (rids : List ℕ) → RidsFit n rids → length rids ≤ n
few_fit n rids fit =
    let less = filter_le (has rids) (λ i. true) (λ i h. refl) (upto n) in
    let all = ap length (filter-true (upto n)) in
    let long = length_upto n in
    subst (λ l. length l ≤ n) (ascending_places n rids fit.ascending fit.inside) (omega (arith, less, all, long))

upto_rise : (n : ℕ) → IsAscending (upto n)
upto_rise n i j less low =
    let long = length_upto n in
    rw (get_or_upto n i 0 (omega (arith, long, less, low)), get_or_upto n j 0 (omega (arith, long, low))) less

pub all_fit : (n : ℕ) → RidsFit n (upto n)
all_fit n = record { ascending = upto_rise n; inside = λ i d low. let long = length_upto n in rw (get_or_upto n i d (omega (arith, long, low))) (omega (arith, long, low)) }

-- without a choice all are told
pub none_chosen : (now : Bool) (n : ℕ) (selected rids : List ℕ) → upto n ≡ selected → RidsFit n rids → rids ≡ cond now (filter (has selected) rids) rids
none_chosen false n selected rids is fit = refl
none_chosen true n selected rids is fit = sym (common_turned rids (upto n) fit.ascending (upto_rise n) ∙ ascending_places n rids fit.ascending fit.inside) ∙ ap (λ s. filter (has s) rids) is

-- the rows that a `back` line asks for

pub narrowed_is : (catalog : CatalogImage) (state : State) (now : Bool) (asked : Line) (found : RowsBehind) → IsBehind catalog state asked found
    → narrowed_reply catalog state now asked ≡ rows_reply catalog state found.table (rids_told catalog state now found)
narrowed_is catalog state false asked found is = is.reply
narrowed_is catalog state true asked found is = ap (λ p. among_selected catalog state p (reply catalog state asked).0) is.pair ∙ ap (among_selected catalog state (Ok (found.view, found.table))) is.reply

among_refused : (catalog : CatalogImage) (state : State) (pair : Asked (ℕ × ℕ)) (refusal : Refusal) → among_selected catalog state pair (replies.Refused refusal) ≡ replies.Refused refusal
among_refused catalog state (Ok p) refusal = refl
among_refused catalog state (Err other) refusal = refl

-- the table that a pair of names has
pub pair_table : (catalog : CatalogImage) (view table : List ℕ) (p : ℕ × ℕ) → known_pair catalog view table ≡ Ok p → table_named catalog table ≡ Some (info_at catalog.tables p.1)
pair_table catalog view table p is =
    table_found catalog table p.1 (subst (Fares (λ refusal. Unit {0}) (IsPair catalog view table)) is (pair_fares (λ refusal. Unit {0}) catalog view table tt tt)).1

-- whether steps stand doesn't depend on the rows
pub same_stand : (asked : AskImage) (typed : Typed AskPlan) (rows other : List Row) → IsAskReplyTo asked (steps_reply typed rows) → IsAskReplyTo asked (steps_reply typed other)
same_stand asked (Ok plan) rows other stand = stand
same_stand asked (Err fault) rows other stand = stand

-- the reply to a `show` line is the content of a view that is there
pub shown_fits : (catalog : CatalogImage) (state : State) (view : List ℕ) (rel : Relation) → IsCatalog catalog → (reply catalog state (lines.Show view)).0 ≡ replies.View rel → IsContent catalog view rel
shown_fits catalog state view rel checked is = subst (IsReplyTo catalog (lines.Show view)) is (replies_fit catalog state (lines.Show view) checked)

-- numbers made one by one are those that a part has of all
pub all_part : (part : Option RowsPart) (n m : ℕ) (span : ℕ × ℕ) (printed : List ℕ) → m ≡ n → span ≡ span_of part m → span.0 + span.1 ≤ m → printed ≡ map (λ k. span.0 + k) (upto span.1) → printed ≡ part_of part (upto n)
all_part part n m span printed same at within is =
    is ∙ sym (stretch span.0 span.1 m within) ∙ ap (λ (s : ℕ × ℕ). take s.1 (drop s.0 (upto m))) at ∙ at_span part (upto m) m (length_upto m) ∙ ap (λ k. part_of part (upto k)) same

-- steps over the rows that a `back` line asks for
pub over_is : (catalog : CatalogImage) (state : State) (now : Bool) (asked : AskImage) (found : RowsBehind) (info : TableInfo) (rows : Relation) → IsBehind catalog state (back_line asked) found
    → info ≡ info_at catalog.tables found.table → rows ≡ rows_at_rids catalog state found.table (rids_told catalog state now found)
    → steps_reply (typed_steps (columns_of info) asked.steps) rows.rows ≡ ask_over catalog asked (narrowed_reply catalog state now (back_line asked))
over_is catalog state now asked found info rows is table are =
    let named = ap columns_found (pair_table catalog asked.view asked.table (found.view, found.table) is.pair) in
    ap (λ (columns : List Column). steps_reply (typed_steps columns asked.steps) rows.rows) (ap columns_of table ∙ sym named)
    ∙ ap (λ (rel : Relation). steps_reply (typed_steps (columns_named catalog asked.table) asked.steps) rel.rows) are
    ∙ sym (ap (ask_over catalog asked) (narrowed_is catalog state now (back_line asked) found is))

-- steps over any of the rows that a `back` line asks for stand as those over all of them
pub over_stands : (catalog : CatalogImage) (state : State) (now : Bool) (asked : AskImage) (found : RowsBehind) → IsCatalog catalog → IsBehind catalog state (back_line asked) found
    → IsAskReplyTo asked (ask_over catalog asked (narrowed_reply catalog state now (back_line asked)))
over_stands catalog state now asked found checked is =
    let fits = subst (λ told. IsAskReplyTo asked (ask_over catalog asked told)) is.reply (asks_fit catalog state asked checked) in
    let rows = λ (rids : List ℕ). (rows_at_rids catalog state found.table rids).rows in
    subst (λ told. IsAskReplyTo asked (ask_over catalog asked told)) (sym (narrowed_is catalog state now (back_line asked) found is))
    (same_stand asked (typed_steps (columns_named catalog asked.table) asked.steps) (rows found.rids) (rows (rids_told catalog state now found)) fits)

-- what a `back` line gives whose rows are found
pub back_told : (catalog : CatalogImage) (state : State) (part : Option RowsPart) (now : Bool) (asked : Line) (view : List ℕ) (marks : Marks) (table : List ℕ) (then : Then) (found : RowsBehind) (told : OwnAnswer) → asked ≡ lines.Back view marks table then
    → IsBehind catalog state (lines.Back view marks table then) found
    → told.text.items ≡ placed_text part (back_words view table) (names_of_table (Some (info_at catalog.tables found.table))) (rids_told catalog state now found) (rows_at_rids catalog state found.table (rids_told catalog state now found)).rows
    → told.refused ≡ false → IsOwnAnswer told (narrowed_answered catalog state part now asked)
back_told catalog state part now asked view marks table then found told line is text refused =
    let reply = narrowed_is catalog state now (lines.Back view marks table then) found is in
    let rids = rids_told catalog state now found in
    let named = pair_table catalog view table (found.view, found.table) is.pair in
    subst (λ l. IsOwnAnswer told (narrowed_answered catalog state part now l)) (sym line) (record {
      text = text ∙ ap (λ t. placed_text part (back_words view table) (names_of_table t) rids (rows_at_rids catalog state found.table rids).rows) (sym named) ∙ sym (ap (narrowed_text catalog part (lines.Back view marks table then)) reply);
      refused = refused ∙ sym (ap is_refused reply);
    })

-- why a `back` line is refused is told by its text
pub refused_fits : (catalog book : CatalogImage) (state : State) (asked : Line) (view : List ℕ) (marks : Marks) (table : List ℕ) (then : Then) (refusal told : Refusal) → IsCatalog catalog → book ≡ catalog → told ≡ refusal
    → asked ≡ lines.Back view marks table then → (reply catalog state (lines.Back view marks table then)).0 ≡ replies.Refused refusal → IsRefusalOf book asked told
refused_fits catalog book state asked view marks table then refusal told checked same why line is =
    let fits : IsRefusalOf catalog (lines.Back view marks table then) refusal = subst (IsReplyTo catalog (lines.Back view marks table then)) is (replies_fit catalog state (lines.Back view marks table then) checked) in
    subst (λ b. IsRefusalOf b asked told) (sym same) (subst (IsRefusalOf catalog asked) (sym why) (subst (λ l. IsRefusalOf catalog l refusal) (sym line) fits))
