-- What the kept parts of a session answer.
use Rattle.std.proofs.Common.{◌≡◌, ℕ, ◌<◌, Bool, true, false, cond, List, length, get_or, refl, ap, sym, ◌∙◌, Ok, Err, Option, Some, None}
use Rattle.smk_base.specs.{CatalogImage.{CatalogImage, catalog_image}, Places.Lists, Plans.Expr, Rels.Relation, declared.brush.BrushOn.BrushOn, declared.book.catalog.Catalog.Catalog, declared.reply.Refusal.TheVariants.Undeclared, declared.book.tree.Marks.Marks}
use Rattle.smk_base.specs.declared.reply.Reply.TheVariants as replies
use Rattle.smk_model.specs.{Names.◌>>=◌, Composed.forwards, Replies.{Asked, known_pair, named_fwd, provided, unless_row, first_outside, written, marked, marks_fwd, fwd_reply}, Session.{State, view_at, rows_of_table}, Workload.declares_fwd}
use Rattle.smk_compose.specs.declared.kept_maps.Run.{Run}
use Rattle.smk_session.specs.{Answers.{members_asked, fwd_by}, Opened.{AreOpened, state_over}}
use Rattle.smk_session.proofs.{OpenedViews.run_is, KeptOf.kept_fwd_is, Marked.forwards_asked}

-- a backward query

pub provided_then : {A B : Type 0} (b : Bool) (a : A) (next : A → Asked B) → ◌>>=◌ (cond b (Ok a) (Err Undeclared)) next ≡ provided b Undeclared (next a)
provided_then true a next = refl
provided_then false a next = refl

pub ok_is : (b : Bool) (m n : Lists) → cond b (Ok m) (Err Undeclared) ≡ Ok n → n ≡ m
ok_is true m n h = cc
ok_is false m n h = absurd (cc)

-- a forward query

pub then_row : {A B : Type 0} (outside : Option ℕ) (n : ℕ) (a : A) (told : A → B) → ◌>>=◌ (unless_row outside n (Ok a)) (λ x. Ok (told x)) ≡ unless_row outside n (Ok (told a))
then_row (Some row) n a told = refl
then_row None n a told = refl

pub fwd_is : (catalog : Catalog) (tables : List Relation) (brushes : List BrushOn) (views : List Run) (v t : ℕ) (run : Run) (rows : Marks)
    → AreOpened catalog tables views → v < length catalog.views → t < length catalog.tables → run ≡ get_or views v run
    → fwd_by run.kept t rows ≡ provided (declares_fwd (catalog_image catalog) v t) Undeclared (fwd_reply (catalog_image catalog) (state_over tables brushes) v t rows)
fwd_is catalog tables brushes views v t run rows o low_v low_t is_v =
    let image : CatalogImage = catalog_image catalog in
    let state : State = state_over tables brushes in
    let plan : Expr = (view_at image v).plan in
    let n : ℕ = length (rows_of_table state t) in
    ap (λ (r : Run). fwd_by r.kept t rows) (run_is catalog tables views v run o low_v is_v)
    ∙ ap (λ (l : Asked Lists). ◌>>=◌ l (λ map. ◌>>=◌ (members_asked map rows) (λ marks. Ok (replies.Fwd marks)))) (kept_fwd_is image plan state.tables v t low_t)
    ∙ provided_then (declares_fwd image v t) (forwards plan state.tables t) (λ map. ◌>>=◌ (members_asked map rows) (λ marks. Ok (replies.Fwd marks)))
    ∙ ap (λ (l : Asked (List ℕ)). provided (declares_fwd image v t) Undeclared (◌>>=◌ l (λ marks. Ok (replies.Fwd marks)))) (forwards_asked plan state.tables t rows)
    ∙ ap (provided (declares_fwd image v t) Undeclared) (then_row (first_outside (written rows) n) n (marks_fwd image state v t (marked rows n)) replies.Fwd)

-- the answers to lines that name a view and a table

pub named_fwd_is : (catalog : Catalog) (tables : List Relation) (brushes : List BrushOn) (views : List Run) (view_name table_name : List ℕ) (v t : ℕ) (run : Run) (rows : Marks)
    → AreOpened catalog tables views → known_pair (catalog_image catalog) view_name table_name ≡ Ok (v, t) → v < length catalog.views → t < length catalog.tables → run ≡ get_or views v run
    → fwd_by run.kept t rows ≡ named_fwd (catalog_image catalog) (state_over tables brushes) table_name rows view_name
named_fwd_is catalog tables brushes views view_name table_name v t run rows o named low_v low_t is_v =
    let image : CatalogImage = catalog_image catalog in
    let state : State = state_over tables brushes in
    fwd_is catalog tables brushes views v t run rows o low_v low_t is_v
    ∙ ap (λ (a : Asked (ℕ × ℕ)). ◌>>=◌ a (λ p. provided (declares_fwd image p.0 p.1) Undeclared (fwd_reply image state p.0 p.1 rows))) (sym named)
