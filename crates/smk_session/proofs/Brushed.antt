-- The brush that a line makes, and what is answered to lines that change the brushes in force.
use Rattle.std.proofs.Common.{◌≡◌, ℕ, ◌+◌, ◌<◌, ◌≤◌, Bool, true, cond, List, [], length, map, get_or, refl, ap, sym, ◌∙◌, subst, Result, Ok, Err, MatchResult, All}
use Rattle.std.specs.List.{list_any}
use Rattle.smk_base.specs.{CatalogImage.{CatalogImage, catalog_image}, Places.{Lists, upto}, Plans.Expr, Rels.Relation, declared.brush.BrushOn.BrushOn, declared.book.catalog.Catalog.Catalog, declared.reply.Linked.Linked, declared.reply.Refusal.TheVariants.Undeclared, declared.book.tree.Marks.Marks}
use Rattle.smk_base.specs.declared.reply.Reply.TheVariants as replies
use Rattle.smk_model.specs.{Composed.backs, Looks.{looks_of_brush, looks_of_clear, looks_of_linked}, Names.◌>>=◌, Replies.{Asked, all_linked, brush_of, brushed, cleared, linked_pair, named_brush, named_clear}, Selection.each_rows, Session.{State, linked, under, view_at, with_brush, without_brush}, Workload.{declares_back, is_back, is_link}}
use Rattle.smk_compose.specs.declared.kept_maps.Run.{Run}
use Rattle.smk_session.specs.{Kept.kept_back, Answers.{Changes, IsLent, Turns, book_of, content_at, placed}, Refreshed.IsRefresh, Opened.{AreOpened, state_over}, Sessions.{AreInForce, BrushFits}, declared.lent.Lent.Lent, declared.brush.refresh.Refresh.Refresh, declared.turn.Content.Content, declared.answer.no_answer.Turned.Turned, declared.answer.no_answer.Turned.TheVariants.{Refused, Exhausted}}
use Rattle.smk_session.proofs.{KeptOf.kept_back_is, Linked.or_right, OpenedViews.run_is, Shown.{all_known, brush_changes, clear_changes, linked_known, none_changes}}

-- the backward lists of a view to a table with which it is linked are kept

link_declares : (catalog : CatalogImage) (v t : ℕ) → list_any (is_link v t) catalog.links ≡ true → declares_back catalog v t ≡ true
link_declares catalog v t h = rw h (or_right (list_any (is_back v t) catalog.backs))

kept_linked : (catalog : Catalog) (tables : List Relation) (views : List Run) (v t : ℕ) (run : Run) → AreOpened catalog tables views → v < length catalog.views → t < length catalog.tables → run ≡ get_or views v run
    → list_any (is_link v t) catalog.links ≡ true → kept_back run.kept t ≡ Ok (backs (view_at (catalog_image catalog) v).plan (each_rows tables) t)
kept_linked catalog tables views v t run o low_v low_t is link =
    let image : CatalogImage = catalog_image catalog in
    let plan : Expr = (view_at image v).plan in
    ap (λ (r : Run). kept_back r.kept t) (run_is catalog tables views v run o low_v is)
    ∙ kept_back_is image plan (each_rows tables) v t low_t
    ∙ ap (λ (b : Bool). cond b (Ok (backs plan (each_rows tables) t)) (Err Undeclared)) (link_declares image v t link)

told_value : {X : Type 0} (value : X → Lists) (result : Result X Turned) (asked : Asked Lists) (m : Lists) → asked ≡ Ok m → MatchResult result (λ x. asked ≡ Ok (value x)) (λ turned. Turns turned asked)
    → MatchResult result (λ x. value x ≡ m) (λ turned. turned ≡ Exhausted)
told_value value (Ok x) asked m is told = let same : Ok (value x) ≡ Ok m = sym told ∙ is in cc
told_value value (Err (Refused refusal)) asked m is told = let no : Ok m ≡ Err refusal = sym is ∙ told refusal refl in absurd (cc)
told_value value (Err Exhausted) asked m is told = refl

pub linked_told : {X : Type 0} (value : X → Lists) (result : Result X Turned) (catalog : Catalog) (tables : List Relation) (views : List Run) (v t : ℕ) (run : Run) → AreOpened catalog tables views → v < length catalog.views → t < length catalog.tables
    → run ≡ get_or views v run → list_any (is_link v t) catalog.links ≡ true → MatchResult result (λ x. kept_back run.kept t ≡ Ok (value x)) (λ turned. Turns turned (kept_back run.kept t))
    → MatchResult result (λ x. value x ≡ backs (view_at (catalog_image catalog) v).plan (each_rows tables) t) (λ turned. turned ≡ Exhausted)
linked_told value result catalog tables views v t run o low_v low_t is link told =
    told_value value result (kept_back run.kept t) (backs (view_at (catalog_image catalog) v).plan (each_rows tables) t) (kept_linked catalog tables views v t run o low_v low_t is link) told

-- the answer to a brush

brush_then : (catalog : CatalogImage) (state : State) (view : List ℕ) (marks : Marks) (table : List ℕ) (brush : BrushOn) (made : List BrushOn) → brush_of catalog state view marks table ≡ Ok brush → made ≡ with_brush brush state.brushes
    → named_brush catalog state view marks table ≡ ◌>>=◌ (all_linked catalog (under state made) brush.view brush.table) (λ views. Ok (replies.Brush brush.rids views, under state made))
brush_then catalog state view marks table brush made is made_is =
    ap (λ (a : Asked BrushOn). ◌>>=◌ a (λ b. ◌>>=◌ (all_linked catalog (brushed state b) b.view b.table) (λ views. Ok (replies.Brush b.rids views, brushed state b)))) is
    ∙ ap (λ (bs : List BrushOn). ◌>>=◌ (all_linked catalog (under state bs) brush.view brush.table) (λ views. Ok (replies.Brush brush.rids views, under state bs))) (sym made_is)

pub brush_told : (catalog : CatalogImage) (state : State) (view : List ℕ) (marks : Marks) (table : List ℕ) (brush : BrushOn) (made : List BrushOn) (rids : List ℕ) (views : List Linked) → brush_of catalog state view marks table ≡ Ok brush
    → made ≡ with_brush brush state.brushes → rids ≡ brush.rids → all_linked catalog (under state made) brush.view brush.table ≡ Ok views → named_brush catalog state view marks table ≡ Ok (replies.Brush rids views, under state made)
brush_told catalog state view marks table brush made rids views is made_is rids_are all =
    brush_then catalog state view marks table brush made is made_is
    ∙ ap (λ (a : Asked (List Linked)). ◌>>=◌ a (λ views. Ok (replies.Brush brush.rids views, under state made))) all
    ∙ ap (λ (r : List ℕ). Ok (replies.Brush r views, under state made)) (sym rids_are)

pub brush_turned : (catalog : CatalogImage) (state : State) (view : List ℕ) (marks : Marks) (table : List ℕ) (brush : BrushOn) (made : List BrushOn) (turned : Turned) → brush_of catalog state view marks table ≡ Ok brush → made ≡ with_brush brush state.brushes
    → Turns turned (all_linked catalog (under state made) brush.view brush.table) → Turns turned (named_brush catalog state view marks table)
brush_turned catalog state view marks table brush made turned is made_is turns = λ refusal e.
    brush_then catalog state view marks table brush made is made_is
    ∙ ap (λ (a : Asked (List Linked)). ◌>>=◌ a (λ views. Ok (replies.Brush brush.rids views, under state made))) (turns refusal e)

pub brush_looks : (catalog : CatalogImage) (state : State) (asked : Asked BrushOn) (brush : BrushOn) (made : List BrushOn) (start after : ℕ) → asked ≡ Ok brush → made ≡ with_brush brush state.brushes
    → after ≤ start + looks_of_linked catalog (under state made) brush.view brush.table → after ≤ start + looks_of_brush catalog state asked
brush_looks catalog state asked brush made start after is made_is h =
    subst (λ (a : Asked BrushOn). after ≤ start + looks_of_brush catalog state a) (sym is)
    (subst (λ (bs : List BrushOn). after ≤ start + looks_of_linked catalog (under state bs) brush.view brush.table) made_is h)

-- the views are made anew under brushes that fit
pub refreshes : (refresh : Refresh) → IsLent refresh.held.now → All (BrushFits refresh.held.now.catalog.now refresh.held.now.tables.now) refresh.brushes.now → refresh.table < length refresh.held.now.catalog.now.tables → IsRefresh refresh
refreshes refresh held fit table = record { held = held; fit = fit; table = table }

pub brush_change : (held : Lent) (brush : BrushOn) (made : List BrushOn) (fresh : List Content) (rids : List ℕ) (views : List Linked) → IsLent held → BrushFits held.catalog.now held.tables.now brush → made ≡ with_brush brush held.brushes.now
    → fresh ≡ map (content_at (book_of held) (state_over held.tables.now made)) (linked (book_of held) brush.view brush.table) → Changes held (replies.Brush rids views) (record { brushes = made; contents = fresh })
brush_change held brush made fresh rids views o fits is are = record {
  answered = refl;
  known = linked_known held.catalog.now held.tables.now held.brushes.now made held.contents.now brush.view brush.table fresh o.opened.checked o.in_force are;
  in_force = subst (λ (bs : List BrushOn). AreInForce held.catalog.now held.tables.now bs (placed fresh held.contents.now)) (sym is)
      (brush_changes held.catalog.now held.tables.now held.brushes.now held.contents.now brush fresh o.in_force fits
      (are ∙ ap (λ (bs : List BrushOn). map (content_at (book_of held) (state_over held.tables.now bs)) (linked (book_of held) brush.view brush.table)) is));
}

-- the answer to the end of one

clear_then : (catalog : CatalogImage) (state : State) (view table : List ℕ) (v t : ℕ) (made : List BrushOn) → linked_pair catalog view table ≡ Ok (v, t) → made ≡ without_brush v t state.brushes
    → named_clear catalog state view table ≡ ◌>>=◌ (all_linked catalog (under state made) v t) (λ views. Ok (replies.ClearedOne views, under state made))
clear_then catalog state view table v t made is made_is =
    ap (λ (a : Asked (ℕ × ℕ)). ◌>>=◌ a (λ p. ◌>>=◌ (all_linked catalog (cleared state p.0 p.1) p.0 p.1) (λ views. Ok (replies.ClearedOne views, cleared state p.0 p.1)))) is
    ∙ ap (λ (bs : List BrushOn). ◌>>=◌ (all_linked catalog (under state bs) v t) (λ views. Ok (replies.ClearedOne views, under state bs))) (sym made_is)

pub clear_told : (catalog : CatalogImage) (state : State) (view table : List ℕ) (v t : ℕ) (made : List BrushOn) (views : List Linked) → linked_pair catalog view table ≡ Ok (v, t) → made ≡ without_brush v t state.brushes
    → all_linked catalog (under state made) v t ≡ Ok views → named_clear catalog state view table ≡ Ok (replies.ClearedOne views, under state made)
clear_told catalog state view table v t made views is made_is all =
    clear_then catalog state view table v t made is made_is
    ∙ ap (λ (a : Asked (List Linked)). ◌>>=◌ a (λ views. Ok (replies.ClearedOne views, under state made))) all

pub clear_turned : (catalog : CatalogImage) (state : State) (view table : List ℕ) (v t : ℕ) (made : List BrushOn) (turned : Turned) → linked_pair catalog view table ≡ Ok (v, t) → made ≡ without_brush v t state.brushes
    → Turns turned (all_linked catalog (under state made) v t) → Turns turned (named_clear catalog state view table)
clear_turned catalog state view table v t made turned is made_is turns = λ refusal e.
    clear_then catalog state view table v t made is made_is
    ∙ ap (λ (a : Asked (List Linked)). ◌>>=◌ a (λ views. Ok (replies.ClearedOne views, under state made))) (turns refusal e)

pub clear_looks : (catalog : CatalogImage) (state : State) (asked : Asked (ℕ × ℕ)) (v t : ℕ) (made : List BrushOn) (start after : ℕ) → asked ≡ Ok (v, t) → made ≡ without_brush v t state.brushes
    → after ≤ start + looks_of_linked catalog (under state made) v t → after ≤ start + looks_of_clear catalog state asked
clear_looks catalog state asked v t made start after is made_is h =
    subst (λ (a : Asked (ℕ × ℕ)). after ≤ start + looks_of_clear catalog state a) (sym is)
    (subst (λ (bs : List BrushOn). after ≤ start + looks_of_linked catalog (under state bs) v t) made_is h)

pub clear_change : (held : Lent) (v t : ℕ) (made : List BrushOn) (fresh : List Content) (views : List Linked) → IsLent held → made ≡ without_brush v t held.brushes.now
    → fresh ≡ map (content_at (book_of held) (state_over held.tables.now made)) (linked (book_of held) v t) → Changes held (replies.ClearedOne views) (record { brushes = made; contents = fresh })
clear_change held v t made fresh views o is are = record {
  answered = refl;
  known = linked_known held.catalog.now held.tables.now held.brushes.now made held.contents.now v t fresh o.opened.checked o.in_force are;
  in_force = subst (λ (bs : List BrushOn). AreInForce held.catalog.now held.tables.now bs (placed fresh held.contents.now)) (sym is)
      (clear_changes held.catalog.now held.tables.now held.brushes.now held.contents.now v t fresh o.in_force
      (are ∙ ap (λ (bs : List BrushOn). map (content_at (book_of held) (state_over held.tables.now bs)) (linked (book_of held) v t)) is));
}

-- the answer to the end of all

pub none_change : (held : Lent) (made : List BrushOn) (fresh : List Content) → IsLent held → made ≡ [] → fresh ≡ map (content_at (book_of held) (state_over held.tables.now [])) (upto (length held.contents.now))
    → Changes held replies.Cleared (record { brushes = made; contents = fresh })
none_change held made fresh o is are = record {
  answered = refl;
  known = all_known held.catalog.now held.tables.now (length held.contents.now) fresh are;
  in_force = subst (λ (bs : List BrushOn). AreInForce held.catalog.now held.tables.now bs (placed fresh held.contents.now)) (sym is)
      (none_changes held.catalog.now held.tables.now held.brushes.now held.contents.now fresh o.in_force are);
}
