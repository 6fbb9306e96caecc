-- What brushes and refusals leave as it is.
use Rattle.std.specs.{Prelude.{Some, option_map, Ok, Err}, List.find}
use Rattle.std.proofs.{Common.{◌≡◌, ℕ, Bool, true, false, cond, List, [], ◌∷◌, length, map, refl, ap, sym, ◌∙◌, subst, nat_eq}, lemmas.Bool.{eqb-true, false≢true}}
use Rattle.smk_base.specs.{declared.list.table_rids.Pick.Pick, declared.reply.Reply.Reply, declared.brush.BrushOn.BrushOn, declared.book.tree.Marks.Marks, declared.book.tree.Then.Then, CatalogImage.CatalogImage}
use Rattle.smk_base.specs.declared.reply.Reply.TheVariants as replies
use Rattle.smk_base.specs.declared.book.tree.Line.TheVariants as lines
use Rattle.smk_base.specs.declared.book.tree.Then.TheVariants as thens
use Rattle.smk_model.specs.{Values.Row, Lineage.{upto, places, sub}, Plain.{table_at, eval, leaves}, Selection.{picked, kept_rows, selected}, Names.◌>>=◌, Session.{State, view_at, under}, Replies.{Asked, staying, or_refused, is_refused, named_view, named_back, named_fwd, brush_of, all_linked, brushed, cleared, linked_pair}, ReplyLaws.{FirstContents, RefusedStay, MarksStay}}
use Rattle.smk_base.proofs.Places.{map_upto}
use Rattle.smk_model.proofs.Selections.{filter-true}

-- the rows at all rids are all rows
pub whole_sub : (rows : List Row) → sub rows (places (λ rid. true) (length rows)) ≡ rows
whole_sub rows = ap (sub rows) (filter-true (upto (length rows))) ∙ map_upto rows []

-- a pick of all rows of a table
abbrev all_of : List (List Row) → ℕ → Pick
all_of tables t = record { table = t; rids = places (λ rid. true) (length (table_at tables t)) }

picks_whole : (tables : List (List Row)) (ts : List ℕ) (t : ℕ) → kept_rows (picked (map (all_of tables) ts) t) (table_at tables t) ≡ table_at tables t
picks_whole tables [] t = refl
picks_whole tables (u ∷ us) t = by (nat_eq u t) (λ h. eqb-true u t h) (picks_whole tables us t)
  where
    by : (b : Bool) → (b ≡ true → u ≡ t) → kept_rows (picked (map (all_of tables) us) t) (table_at tables t) ≡ table_at tables t
        → kept_rows (option_map (λ (pick : Pick). pick.rids) (cond b (Some (all_of tables u)) (find (λ (pick : Pick). nat_eq pick.table t) (map (all_of tables) us)))) (table_at tables t) ≡ table_at tables t
    by true h rest = subst (λ k. sub (table_at tables t) (places (λ rid. true) (length (table_at tables k))) ≡ table_at tables t) (sym (h refl)) (whole_sub (table_at tables t))
    by false h rest = rest

pick_all : (tables : List (List Row)) (ts scans : List ℕ) → map (selected tables (map (all_of tables) ts)) scans ≡ map (table_at tables) scans
pick_all tables ts [] = refl
pick_all tables ts (t ∷ scans) = let h = picks_whole tables ts t in let k = pick_all tables ts scans in cc

pub first_contents : FirstContents
first_contents book v = ap (eval (view_at book.catalog v).plan) (pick_all book.tables (upto (length book.tables)) (leaves (view_at book.catalog v).plan))

-- what is asked for leaves the state as it is where it is refused
abbrev Stays : State → Asked (Reply × State) → Type 0
Stays state asked = is_refused (or_refused state asked).0 ≡ true → (or_refused state asked).1 ≡ state

staying_stays : (state : State) (asked : Asked Reply) → Stays state (staying state asked)
staying_stays state (Ok told) h = refl
staying_stays state (Err refusal) h = refl

next_stays : {A : Type 0} (state : State) (asked : Asked A) (next : A → Asked (Reply × State)) → ((a : A) → Stays state (next a)) → Stays state (asked >>= next)
next_stays state (Ok a) next h = h a
next_stays state (Err refusal) next h = λ e. refl

pub refused_stay : RefusedStay
refused_stay catalog state (lines.Show view) h = staying_stays state (named_view catalog state view) h
refused_stay catalog state (lines.Back view marks table then) h = staying_stays state (named_back catalog state view marks table then) h
refused_stay catalog state (lines.Fwd table rows view) h = staying_stays state (named_fwd catalog state table rows view) h
refused_stay catalog state (lines.Brush view marks table) h =
    next_stays state (brush_of catalog state view marks table) _ (λ brush.
    next_stays state (all_linked catalog (brushed state brush) brush.view brush.table) _ (λ views e. absurd (false≢true e))) h
refused_stay catalog state lines.Clear h = absurd (false≢true h)
refused_stay catalog state (lines.ClearOne view table) h =
    next_stays state (linked_pair catalog view table) _ (λ p.
    next_stays state (all_linked catalog (cleared state p.0 p.1) p.0 p.1) _ (λ views e. absurd (false≢true e))) h

-- the reply of a line that leaves the state as it is
abbrev pub reply_to : Asked Reply → Reply
reply_to (Ok told) = told
reply_to (Err refusal) = replies.Refused refusal

pub staying_told : (state : State) (asked : Asked Reply) → (or_refused state (staying state asked)).0 ≡ reply_to asked
staying_told state (Ok told) = refl
staying_told state (Err refusal) = refl

same_back : (catalog : CatalogImage) (state : State) (brushes : List BrushOn) (view : List ℕ) (marks : Marks) (table : List ℕ) (then : Then)
    → named_back catalog (under state brushes) view marks table then ≡ named_back catalog state view marks table then
same_back catalog state brushes view marks table thens.Plain = refl
same_back catalog state brushes view marks table _ = refl

pub marks_stay : MarksStay
marks_stay = record {
  back = λ catalog state brushes view marks table then.
      staying_told (under state brushes) (named_back catalog (under state brushes) view marks table then)
      ∙ ap reply_to (same_back catalog state brushes view marks table then)
      ∙ sym (staying_told state (named_back catalog state view marks table then));
  fwd = λ catalog state brushes table rows view.
      staying_told (under state brushes) (named_fwd catalog (under state brushes) table rows view)
      ∙ sym (staying_told state (named_fwd catalog state table rows view));
}
