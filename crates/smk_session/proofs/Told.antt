-- What is told of a brush and of the end of one, with lists or without them.
use Rattle.std.proofs.{Common.{◌≡◌, ◌∙◌, ℕ, Bool, true, false, cond, List, [], ◌∷◌, map, refl, ap, sym, Result, Ok, Err, Option, Some, None}, lemmas.List.map-id}
use Rattle.smk_base.specs.{Rels.Relation, declared.reply.Linked.Linked}
use Rattle.smk_base.specs.declared.reply.Reply.TheVariants as replies
use Rattle.smk_model.specs.{Names.◌>>=◌, OwnTexts.{unlisted, without_marks}, Replies.{Asked, all_linked, content_of, linked_now, unless_full}, Selection.first_full, Session.{leaves_now, linked, view_at}, Tables.all_or_first}
use Rattle.smk_session.specs.{Answers.Turns, Refreshed.{all_told, book_at, linked_told, marks_next, state_next}, declared.answer.no_answer.Turned.Turned, declared.brush.refresh.Refresh.Refresh}

-- results that are mapped, one after the other

all_mapped : {A B E X : Type 0} (f : A → B) (given : X → Result A E) (made : X → Result B E) → ((x : X) → made x ≡ ◌>>=◌ (given x) (λ a. Ok (f a))) → (xs : List X)
    → all_or_first (map made xs) ≡ ◌>>=◌ (all_or_first (map given xs)) (λ all. Ok (map f all))
all_mapped f given made same [] = refl
all_mapped {A} {B} {E} f given made same (x ∷ xs) =
    ap (λ (r : Result B E). ◌>>=◌ r (λ y. ◌>>=◌ (all_or_first (map made xs)) (λ ys. Ok (y ∷ ys)))) (same x)
    ∙ ap (λ (rs : Result (List B) E). ◌>>=◌ (◌>>=◌ (given x) (λ a. Ok (f a))) (λ y. ◌>>=◌ rs (λ ys. Ok (y ∷ ys)))) (all_mapped f given made same xs)
    ∙ by (given x) (all_or_first (map given xs))
  where
    by : (r : Result A E) (rs : Result (List A) E)
        → ◌>>=◌ (◌>>=◌ r (λ a. Ok (f a))) (λ y. ◌>>=◌ (◌>>=◌ rs (λ all. Ok (map f all))) (λ ys. Ok (y ∷ ys))) ≡ ◌>>=◌ (◌>>=◌ r (λ y. ◌>>=◌ rs (λ ys. Ok (y ∷ ys)))) (λ all. Ok (map f all))
    by (Ok a) (Ok all) = refl
    by (Ok a) (Err e) = refl
    by (Err e) rs = refl

-- linked views as they are told

abbrev as_told : Bool → Linked → Linked
as_told marked view = cond marked view (without_marks view)

one_told : (refresh : Refresh) (w : ℕ) → linked_told refresh w ≡ ◌>>=◌ (linked_now (book_at refresh) (state_next refresh) refresh.table w) (λ view. Ok (as_told refresh.marked view))
one_told refresh w = by (first_full (view_at (book_at refresh) w).plan (leaves_now (book_at refresh) (state_next refresh) w)) refresh.marked
  where
    rel : Relation
    rel = content_of (book_at refresh) (state_next refresh) w

    by : (first : Option ℕ) (marked : Bool) → unless_full first (record { view = w; marks = cond marked (marks_next refresh w) []; rel = rel }) ≡ ◌>>=◌ (unless_full first (record { view = w; marks = marks_next refresh w; rel = rel })) (λ view. Ok (as_told marked view))
    by (Some node) marked = refl
    by None true = refl
    by None false = refl

each_told : (refresh : Refresh) (v : ℕ) → all_told refresh v ≡ ◌>>=◌ (all_linked (book_at refresh) (state_next refresh) v refresh.table) (λ views. Ok (map (as_told refresh.marked) views))
each_told refresh v = all_mapped (as_told refresh.marked) (linked_now (book_at refresh) (state_next refresh) refresh.table) (linked_told refresh) (one_told refresh) (linked (book_at refresh) v refresh.table)

-- the views that are told, as they are, or the refusal

pub told_views : (refresh : Refresh) (v : ℕ) (told : List Linked) → all_told refresh v ≡ Ok told → (views : List Linked) × (all_linked (book_at refresh) (state_next refresh) v refresh.table ≡ Ok views) × (told ≡ map (as_told refresh.marked) views)
told_views refresh v told is = by (all_linked (book_at refresh) (state_next refresh) v refresh.table) refl
  where
    by : (asked : Asked (List Linked)) → all_linked (book_at refresh) (state_next refresh) v refresh.table ≡ asked → (views : List Linked) × (all_linked (book_at refresh) (state_next refresh) v refresh.table ≡ Ok views) × (told ≡ map (as_told refresh.marked) views)
    by (Ok views) all = let same : Ok (map (as_told refresh.marked) views) ≡ Ok told = sym (each_told refresh v ∙ ap (λ (a : Asked (List Linked)). ◌>>=◌ a (λ views. Ok (map (as_told refresh.marked) views))) all) ∙ is in (views, all, cc)
    by (Err refusal) all = let no : Err refusal ≡ Ok told = sym (each_told refresh v ∙ ap (λ (a : Asked (List Linked)). ◌>>=◌ a (λ views. Ok (map (as_told refresh.marked) views))) all) ∙ is in absurd (cc)

pub told_turned : (refresh : Refresh) (v : ℕ) (turned : Turned) → Turns turned (all_told refresh v) → Turns turned (all_linked (book_at refresh) (state_next refresh) v refresh.table)
told_turned refresh v turned turns = λ refusal e. by (all_linked (book_at refresh) (state_next refresh) v refresh.table) (sym (each_told refresh v) ∙ turns refusal e)
  where
    by : {refusal : _} (asked : Asked (List Linked)) → ◌>>=◌ asked (λ views. Ok (map (as_told refresh.marked) views)) ≡ Err refusal → asked ≡ Err refusal
    by (Ok views) is = absurd (cc)
    by (Err refusal) is = cc

-- a reply with lists or without them

pub brush_listed : (listed : Bool) (rids : List ℕ) (views : List Linked) (told : List ℕ) → told ≡ cond listed rids [] → replies.Brush told (map (as_told listed) views) ≡ cond listed (replies.Brush rids views) (unlisted (replies.Brush rids views))
brush_listed true rids views told is = ap (λ (r : List ℕ). replies.Brush r (map (λ view. view) views)) is ∙ ap (replies.Brush rids) (map-id views)
brush_listed false rids views told is = ap (λ (r : List ℕ). replies.Brush r (map without_marks views)) is

pub clear_listed : (listed : Bool) (views : List Linked) → replies.ClearedOne (map (as_told listed) views) ≡ cond listed (replies.ClearedOne views) (unlisted (replies.ClearedOne views))
clear_listed true views = ap replies.ClearedOne (map-id views)
clear_listed false views = refl

pub cleared_listed : (listed : Bool) → replies.Cleared ≡ cond listed replies.Cleared (unlisted replies.Cleared)
cleared_listed true = refl
cleared_listed false = refl
