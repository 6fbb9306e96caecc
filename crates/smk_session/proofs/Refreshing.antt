-- What views are evaluated to that are made anew, and what is asked of them one after the other.
use Rattle.std.proofs.{Common.{◌≡◌, ◌∙◌, ◌<◌, ◌+◌, ℕ, List, [], ◌∷◌, ◌++◌, Result, Ok, Err, IfOk, IfErr, OnOk, length, take, drop, get_or, map, ap, sym, subst, Some, None, ◌⊎◌, inl, inr, append-nil}, lemmas.List.{append_assoc, map-append, take-append-drop, take_more}}
use Rattle.std.specs.List.{AllZip}
use Rattle.smk_base.specs.{PlanImage.expr_of, Plans.Expr, Rels.Relation, declared.reply.Linked.Linked, declared.value.Kind.Kind}
use Rattle.smk_model.specs.{Plain.eval, Selection.{each_kinds, each_rows, first_full, plan_kinds}, Session.{leaves_now, view_at}, Tables.all_or_first, Values.Row}
use Rattle.smk_model.proofs.InOrder.{then_fault, then_value}
use Rattle.smk_jobs.specs.Jobs.{FirstFault}
use Rattle.smk_compose.specs.{declared.fault.EvalFault.EvalFault, declared.fault.EvalFault.TheVariants.Rows}
use Rattle.smk_session.specs.{Answers.{Turns, content_at}, Refreshed.{AreFollowed, Follows, FollowsAs, HasLeaves, IsContent, IsMade, IsOf, IsRun, IsSource, Shows, book_at, contents_at, linked_at, linked_told, read_by_marks, state_next, views_of}, declared.brush.evaluating.Fetched.Fetched, declared.brush.evaluating.Source.Source, declared.brush.following.Followed.Followed, declared.brush.refresh.Refresh.Refresh, declared.turn.Content.Content, declared.answer.no_answer.Turned.Turned, declared.answer.no_answer.Turned.TheVariants.Exhausted}
use Rattle.smk_session.specs.declared.brush.evaluating.Source.TheVariants as sources

-- what a plan is evaluated to, by the clauses on one result

pub evaluated : (plan : Expr) (leaves : List Relation) (made : Result Relation EvalFault) → IfOk made (λ rel. rel.rows ≡ eval plan (each_rows leaves)) → IfOk made (λ rel. rel.kinds ≡ plan_kinds plan (each_kinds leaves))
    → OnOk made (first_full plan (each_rows leaves) ≡ None) → IfErr made (λ e. (node : ℕ) → e ≡ Rows node → first_full plan (each_rows leaves) ≡ Some node)
    → IsRun plan leaves made
evaluated plan leaves (Ok rel) rows kinds few many = record { rows = rows; kinds = kinds; few = few }
evaluated plan leaves (Err e) rows kinds few many = many

-- of a view, that is its content

abbrev rel_with : List Kind → List Row → Relation
rel_with kinds rows = record { kinds = kinds; rows = rows }

leaves_made : (refresh : Refresh) (w : ℕ) (plan : Expr) (leaves : List Relation) (made : Result Relation EvalFault) → HasLeaves refresh w plan leaves → IsRun plan leaves made → IsContent refresh w made
leaves_made refresh w plan leaves made is run = by made run
  where
    full_is : first_full plan (each_rows leaves) ≡ first_full (view_at (book_at refresh) w).plan (leaves_now (book_at refresh) (state_next refresh) w)
    full_is = ap (λ (plan : Expr). first_full plan (each_rows leaves)) is.plan_is ∙ ap (first_full (view_at (book_at refresh) w).plan) is.rows

    by : (made : Result Relation EvalFault) → IsRun plan leaves made → IsContent refresh w made
    by (Ok rel) run =
        let rows : rel.rows ≡ eval (view_at (book_at refresh) w).plan (leaves_now (book_at refresh) (state_next refresh) w) =
        run.rows ∙ ap (λ (plan : Expr). eval plan (each_rows leaves)) is.plan_is ∙ ap (eval (view_at (book_at refresh) w).plan) is.rows in
        record {
          content = ap (λ (k : List Kind). rel_with k rel.rows) (run.kinds ∙ is.kinds) ∙ ap (rel_with (view_at (book_at refresh) w).kinds) rows;
          few = sym full_is ∙ run.few;
        }
    by (Err e) run = λ node h. sym full_is ∙ run node h

shown_made : (refresh : Refresh) (w : ℕ) (rel : Relation) (made : Result Relation EvalFault) → Shows refresh w rel → IsOf rel made → IsContent refresh w made
shown_made refresh w rel (Ok own) shows is = subst (Shows refresh w) (sym is) shows
shown_made refresh w rel (Err e) shows is = λ node h. absurd (cc (sym is ∙ h))

pub source_made : (refresh : Refresh) (w : ℕ) (source : Source) (made : Result Relation EvalFault) → IsSource refresh w source → IsMade source made → IsContent refresh w made
source_made refresh w (sources.Leaves plan leaves) made is run = leaves_made refresh w (expr_of plan.now) leaves made is run
source_made refresh w (sources.Marks view reached) made is of = shown_made refresh w (read_by_marks view reached) made is of

-- several views, one after the other

abbrev followed_with : List Linked → List Content → Followed
followed_with linked contents = record { linked = linked; contents = contents }

one_more : (refresh : Refresh) (done : List ℕ) (w : ℕ) (linked : List Linked) (contents : List Content) (one : Linked × Content) → AreFollowed refresh done (followed_with linked contents) → Follows refresh w one
    → AreFollowed refresh (done ++ w ∷ []) (followed_with (linked ++ one.0 ∷ []) (contents ++ one.1 ∷ []))
one_more refresh done w linked contents one are is = record {
  linked = ap all_or_first (map-append (linked_told refresh) done (w ∷ [])) ∙ then_value (map (linked_told refresh) done) (linked_told refresh w) linked one.0 are.linked is.linked;
  contents = ap (λ l. l ++ one.1 ∷ []) are.contents ∙ ap (λ c. contents_at refresh done ++ c ∷ []) is.content ∙ sym (map-append (content_at (book_at refresh) (state_next refresh)) done (w ∷ []));
}

pub all_more : (refresh : Refresh) (done : List ℕ) (linked : List Linked) (contents : List Content) (all : List Fetched) (made : List (Linked × Content)) → AreFollowed refresh done (followed_with linked contents)
    → AllZip (λ (fetched : Fetched) one. FollowsAs refresh fetched.view (Ok one)) all made
    → AreFollowed refresh (done ++ views_of all) (followed_with (linked ++ map (λ (one : Linked × Content). one.0) made) (contents ++ map (λ (one : Linked × Content). one.1) made))
all_more refresh done linked contents [] [] are zip = rw (append-nil done, append-nil linked, append-nil contents) are
all_more refresh done linked contents (f ∷ all) (one ∷ made) are zip =
    rw (← append_assoc done (f.view ∷ []) (views_of all), ← append_assoc linked (one.0 ∷ []) (map (λ (m : Linked × Content). m.0) made), ← append_assoc contents (one.1 ∷ []) (map (λ (m : Linked × Content). m.1) made))
    (all_more refresh (done ++ f.view ∷ []) (linked ++ one.0 ∷ []) (contents ++ one.1 ∷ []) all made (one_more refresh done f.view linked contents one are zip.0) zip.1)
all_more refresh done linked contents _ _ are zip = absurd zip

-- and the first refusal

pub refused_among : (refresh : Refresh) (done rest : List ℕ) (linked : List Linked) (contents : List Content) (all : List Fetched) (e : Turned) → AreFollowed refresh done (followed_with linked contents)
    → FirstFault {T = Linked × Content} (λ (fetched : Fetched). FollowsAs refresh fetched.view) all e ⊎ (e ≡ Exhausted) → Turns e (linked_at refresh (done ++ (views_of all ++ rest)))
refused_among refresh done rest linked contents [] e are (inl first) = absurd first
refused_among refresh done rest linked contents (f ∷ all) e are (inl (Ok one, follows, first)) =
    subst (λ (l : List ℕ). Turns e (linked_at refresh l)) (append_assoc done (f.view ∷ []) (views_of all ++ rest))
    (refused_among refresh (done ++ f.view ∷ []) rest (linked ++ one.0 ∷ []) (contents ++ one.1 ∷ []) all e (one_more refresh done f.view linked contents one are follows) (inl first))
refused_among refresh done rest linked contents (f ∷ all) e are (inl (Err fault, turns, same)) = λ refusal is.
    ap all_or_first (map-append (linked_told refresh) done (f.view ∷ (views_of all ++ rest)))
    ∙ then_fault (map (linked_told refresh) done) (linked_told refresh f.view) (map (linked_told refresh) (views_of all ++ rest)) linked refusal are.linked (turns refusal (same ∙ is))
refused_among refresh done rest linked contents all e are (inr none) = λ refusal is. absurd (cc (sym none ∙ is))

-- those that wait, once those that are due are made

waiting_is : (due rest waiting : List Fetched) → due ++ rest ≡ waiting → views_of due ++ views_of rest ≡ views_of waiting
waiting_is due rest waiting cut = sym (map-append (λ (fetched : Fetched). fetched.view) due rest) ∙ ap views_of cut

pub next_waits : (refresh : Refresh) (views : List ℕ) (i d : ℕ) (before after : Followed) (due rest waiting next : List Fetched) → i < length views → due ++ rest ≡ waiting
    → (done : List ℕ) × (done ++ views_of waiting ≡ take i views) × AreFollowed refresh done before → ((done : List ℕ) → AreFollowed refresh done before → AreFollowed refresh (done ++ views_of due) after)
    → views_of next ≡ views_of rest ++ get_or views i d ∷ [] → (done : List ℕ) × (done ++ views_of next ≡ take (i + 1) views) × AreFollowed refresh done after
next_waits refresh views i d before after due rest waiting next low cut (done, is, are) put more = (
  done ++ views_of due,
  ap (λ l. done ++ views_of due ++ l) more
      ∙ sym (append_assoc (done ++ views_of due) (views_of rest) (get_or views i d ∷ []))
      ∙ ap (λ l. l ++ get_or views i d ∷ []) (append_assoc done (views_of due) (views_of rest) ∙ ap (λ l. done ++ l) (waiting_is due rest waiting cut) ∙ is)
      ∙ sym (take_more views i d low),
  put done are,
)

pub refused_due : (refresh : Refresh) (views : List ℕ) (i : ℕ) (before : Followed) (due rest waiting : List Fetched) (e : Turned) → due ++ rest ≡ waiting → (done : List ℕ) × (done ++ views_of waiting ≡ take i views) × AreFollowed refresh done before
    → ((done after : List ℕ) → AreFollowed refresh done before → Turns e (linked_at refresh (done ++ (views_of due ++ after)))) → Turns e (linked_at refresh views)
refused_due refresh views i before due rest waiting e cut (done, is, are) turns =
    subst (λ (l : List ℕ). Turns e (linked_at refresh l))
    (ap (λ l. done ++ l) (sym (append_assoc (views_of due) (views_of rest) (drop i views)) ∙ ap (λ l. l ++ drop i views) (waiting_is due rest waiting cut))
    ∙ sym (append_assoc done (views_of waiting) (drop i views))
    ∙ ap (λ l. l ++ drop i views) is
    ∙ take-append-drop i views)
    (turns done (views_of rest ++ drop i views) are)
