-- Answers to `append` lines: what they name stands in the catalog, and what they leave.
use Rattle.std.specs.{Prelude.{cond, Option, Some, None, option_map, IfSome}, Option.option_or, List.{All, find}}
use Rattle.std.proofs.{Common.{◌≡◌, ◌<◌, ◌+◌, ℕ, Bool, true, false, List, [], ◌∷◌, length, map, drop, refl}, lemmas.List.Elements.{All-map, All-filter, All-head, All-tail}}
use Rattle.smk_base.specs.{CatalogImage.{CatalogImage, table_place}, Needs.is_needed, Places.upto, Plans.{Expr, Leaf, Apply, Combine}, declared.book.need.Needed.Needed, declared.reply.AppendRefusal.AppendRefusal, declared.reply.AppendRefusal.TheVariants.TableRows}
use Rattle.smk_model.specs.{Values.Row, Plain.{eval, width}, Selection.{is_full, nodes}, NodeFaults.{NodeFault, FullRows, FullPairs, AskedTable, asked_of, is_crowded, last_node_fault, first_fault_from}, Opening.{ViewFault, fault_of_view, view_fault, first_some}, Session.{Workbook, State, view_at, first_state}, Workload.{needs, needed_at}, Appends.{Turn, longer_book, scans, scanning, longer_fault, refusal_at, refusal_of, refused_turn, turn_unless, is_too_long, turn_at, is_append_refused}, AppendTexts.IsAppendReply, AppendLaws.{AppendsFit, RefusedAppendsStay, AppendsBeginAnew}}
use Rattle.smk_base.proofs.Places.{upto_below, places_below}

-- what holds of the value of both of two options holds of that of the first that has one
or_holds : {X : Type 0} (P : X → Type 0) (a b : Option X) → IfSome a P → IfSome b P → IfSome (option_or a b) P
or_holds P (Some x) b h k = h
or_holds P None b h k = k

find_holds : {X : Type 0} (P : X → Type 0) (test : X → Bool) (xs : List X) → All P xs → IfSome (find test xs) P
find_holds P test [] h = tt
find_holds P test (x ∷ xs) h = by (test x) (find_holds P test xs (All-tail P x xs h))
  where
    by : (b : Bool) → IfSome (find test xs) P → IfSome (cond b (Some x) (find test xs)) P
    by true rest = All-head P x xs h
    by false rest = rest

mapped_holds : {X Y : Type 0} (P : Y → Type 0) (f : X → Y) (o : Option X) → IfSome o (λ x. P (f x)) → IfSome (option_map f o) P
mapped_holds P f (Some x) h = h
mapped_holds P f None h = h

first_some_holds : {X Y : Type 0} (P : Y → Type 0) (value : X → Option Y) (xs : List X) → All (λ x. IfSome (value x) P) xs → IfSome (first_some value xs) P
first_some_holds P value [] h = tt
first_some_holds P value (x ∷ xs) h =
    let each = λ (x : _). IfSome (value x) P in
    or_holds P (value x) (first_some value xs) (All-head each x xs h) (first_some_holds P value xs (All-tail each x xs h))

-- the table of a fault is below a number
abbrev IsBelow : ℕ → NodeFault → Type 0
IsBelow n (FullRows node) = Unit {0}
IsBelow n (FullPairs node table) = table < n

fault_below : (n : ℕ) (plan : Expr) (E : List (List Row)) (asked : List AskedTable) (node : ℕ) → All (λ a. a.0 < n) asked → IfSome (last_node_fault plan E asked node) (IsBelow n)
fault_below n plan E asked node h = by (is_full (eval plan E))
  where
    by : (full : Bool) → IfSome (cond full (Some (FullRows node)) (option_map (λ (a : AskedTable). FullPairs node a.0) (find (is_crowded plan E) asked))) (IsBelow n)
    by true = tt
    by false = mapped_holds (IsBelow n) (λ (a : AskedTable). FullPairs node a.0) (find (is_crowded plan E) asked) (find_holds (λ (a : AskedTable). a.0 < n) (is_crowded plan E) asked h)

first_below : (n : ℕ) (plan : Expr) (E : List (List Row)) (asked : List AskedTable) (node : ℕ) → All (λ a. a.0 < n) asked → IfSome (first_fault_from plan E asked node) (IsBelow n)
first_below n (Leaf table) E asked node h = fault_below n (Leaf table) E asked node h
first_below n (Apply op input) E asked node h =
    or_holds (IsBelow n) (first_fault_from input E asked node) _ (first_below n input E asked node h) (fault_below n (Apply op input) E asked (node + nodes input) h)
first_below n (Combine op left right) E asked node h =
    or_holds (IsBelow n) (first_fault_from left E asked node) _ (first_below n left E asked node h)
    (or_holds (IsBelow n) (first_fault_from right (drop (width left) E) asked (node + nodes left)) _ (first_below n right (drop (width left) E) asked (node + nodes left) h)
    (fault_below n (Combine op left right) E asked (node + nodes left + nodes right) h))

-- a view needs tables of the catalog alone
asked_below : (catalog : CatalogImage) (tables : List (List Row)) (v : ℕ) → All (λ a. a.0 < length catalog.tables) (asked_of tables (needs catalog v))
asked_below catalog tables v =
    let n = length catalog.tables in
    All-map (λ (a : AskedTable). a.0 < n) _ (needs catalog v)
    (All-filter is_needed (λ (need : Needed). need.table < n) (map (needed_at catalog v) (upto n))
    (All-map (λ (need : Needed). need.table < n) (needed_at catalog v) (upto n) (upto_below n)))

-- the view and the table of a fault are there
record IsIn (catalog : CatalogImage) (found : ViewFault) : Type 0 where
  pub view : found.view < length catalog.views
  pub fault : IsBelow (length catalog.tables) found.fault

fault_in : (book : Workbook) (v : ℕ) → v < length book.catalog.views → IfSome (view_fault book v) (IsIn book.catalog)
fault_in book v low = by (fault_of_view book v) (first_below (length book.catalog.tables) (view_at book.catalog v).plan _ _ 0 (asked_below book.catalog book.tables v))
  where
    by : (o : Option NodeFault) → IfSome o (IsBelow (length book.catalog.tables)) → IfSome (option_map (λ (fault : NodeFault). record { view = v; fault = fault }) o) (IsIn book.catalog)
    by (Some fault) h = record { view = low; fault = h }
    by None h = tt

scanning_below : (catalog : CatalogImage) (t : ℕ) → All (λ v. v < length catalog.views) (scanning catalog t)
scanning_below catalog t = places_below (scans catalog t) (length catalog.views)

longer_in : (catalog : CatalogImage) (state : State) (t : ℕ) (more : List Row) → IfSome (longer_fault catalog state t more) (IsIn catalog)
longer_in catalog state t more =
    let book = longer_book catalog state t more in
    first_some_holds (IsIn catalog) (view_fault book) (scanning catalog t) (λ k d l. fault_in book _ (scanning_below catalog t k d l))

unless_fits : (catalog : CatalogImage) (state : State) (t : ℕ) (more : List Row) (found : Option ViewFault) → IfSome found (IsIn catalog) → IsAppendReply catalog (turn_unless catalog state t more found).reply
unless_fits catalog state t more None h = scanning_below catalog t
unless_fits catalog state t more (Some found) h = by found.fault h.view h.fault
  where
    by : (fault : NodeFault) → found.view < length catalog.views → IsBelow (length catalog.tables) fault → IsAppendReply catalog (refused_turn state (refusal_at found.view fault)).reply
    by (FullRows node) v f = v
    by (FullPairs node table) v f = (v, f)

appends_fit_at : (catalog : CatalogImage) (state : State) (more : List Row) (place : Option ℕ) → IsAppendReply catalog (turn_at catalog state more place).reply
appends_fit_at catalog state more None = tt
appends_fit_at catalog state more (Some t) = by (is_too_long state t more)
  where
    by : (long : Bool) → IsAppendReply catalog (cond long (refused_turn state TableRows) (turn_unless catalog state t more (longer_fault catalog state t more))).reply
    by true = tt
    by false = unless_fits catalog state t more (longer_fault catalog state t more) (longer_in catalog state t more)

pub appends_fit : AppendsFit
appends_fit catalog state table more = appends_fit_at catalog state more (table_place catalog table)

-- what holds of the refused turns and of the one that appends holds of every turn at a table
turn_holds : (P : Turn → Type 0) (catalog : CatalogImage) (state : State) (t : ℕ) (more : List Row)
    → ((refusal : AppendRefusal) → P (refused_turn state refusal)) → P (turn_unless catalog state t more None) → P (turn_at catalog state more (Some t))
turn_holds P catalog state t more refused added = by (is_too_long state t more) (longer_fault catalog state t more)
  where
    by : (long : Bool) (found : Option ViewFault) → P (cond long (refused_turn state TableRows) (turn_unless catalog state t more found))
    by true found = refused TableRows
    by false (Some found) = refused (refusal_of found)
    by false None = added

pub refused_appends_stay : RefusedAppendsStay
refused_appends_stay catalog state table more = by (table_place catalog table)
  where
    by : (place : Option ℕ) → is_append_refused (turn_at catalog state more place).reply ≡ true → (turn_at catalog state more place).next ≡ state
    by None = λ h. refl
    by (Some t) = turn_holds (λ turn. is_append_refused turn.reply ≡ true → turn.next ≡ state) catalog state t more (λ refusal h. refl) (λ h. absurd (cc))

pub appends_begin_anew : AppendsBeginAnew
appends_begin_anew catalog state table t more placed =
    rw placed (turn_holds (λ turn. is_append_refused turn.reply ≡ false → turn.next ≡ first_state (longer_book catalog state t more)) catalog state t more (λ refusal h. absurd (cc)) (λ h. refl))
